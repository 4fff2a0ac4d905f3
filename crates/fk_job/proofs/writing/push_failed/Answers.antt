use Rattle.std.proofs.Common.{◌++◌, codes}
use Rattle.std.specs.Fmt.{decimal}
use Rattle.fk_json.specs.String.{spelling}
use Rattle.fk_time.specs.Moments.{moment_text}
use Rattle.fk_job.specs.RowText.{further, further_moment, further_strings, written_member, failure_text}
use Rattle.fk_job.proofs.Pushing.{object_ok}
use Rattle.fk_job.proofs.writing.push_failed.Goals as goal

pub returns : goal.returns
unfolding further written_member failure_text
returns c =
    object_ok c.push_bytes-2.result c.args.out.now c.push_bytes.new.self c.push_count.new.out c.push_moment.new.out
    c.push_optional_moment.new.out c.push_text.new.out c.push_text-2.new.out c.push_backtrace.new.out c.push_bytes-2.new.self
    (codes "," ++ (spelling (codes "failure") ++ codes ":"))
    (codes "{" ++ written_member (codes "retry_count") (decimal c.args.failure.now.count))
    (further (codes "failed_at") (spelling (moment_text c.args.failure.now.failed)))
    (further_moment (codes "next_at") c.args.failure.now.next)
    (further (codes "errtype") (spelling c.args.failure.now.errtype))
    (further (codes "message") (spelling c.args.failure.now.message))
    (further_strings (codes "backtrace") c.args.failure.now.backtrace)
    (codes "}")
    c.in_ok-push_bytes.ensures.ok c.in_ok-push_count.ensures c.in_ok-push_moment.ensures c.in_ok-push_optional_moment.ensures
    c.in_ok-push_text.ensures c.in_ok-push_text-2.ensures c.in_ok-push_backtrace.ensures c.push_bytes-2.ensures.ok

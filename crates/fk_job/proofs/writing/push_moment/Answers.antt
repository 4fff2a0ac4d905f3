use Rattle.std.proofs.Common.{◌≡◌, ◌++◌, subst}
use Rattle.fk_job.specs.RowText.{further, written_member}
use Rattle.fk_job.proofs.PlainMoments.{plain_moment}
use Rattle.fk_job.proofs.Pushing.{behind_ok}
use Rattle.fk_job.proofs.writing.push_moment.Goals as goal

pub returns : goal.returns
unfolding further written_member
returns c =
    rw (plain_moment c.args.moment)
    (behind_ok c.push_bytes-2.result _ _ _ _ _
    (subst (λ l. c.push_bytes.new.self ≡ c.args.out.now ++ l) c.requires.opening c.in_ok-push_bytes.ensures.ok)
    (rw (c.quoted.ensures, c.write_moment.ensures.text) at c.push_bytes-2.ensures.ok))

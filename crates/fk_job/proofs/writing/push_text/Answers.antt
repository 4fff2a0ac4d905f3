use Rattle.std.proofs.Common.{◌≡◌, ◌++◌, subst}
use Rattle.fk_job.specs.RowText.{further, written_member}
use Rattle.fk_job.proofs.Pushing.{behind_ok}
use Rattle.fk_job.proofs.writing.push_text.Goals as goal

pub returns : goal.returns
unfolding further written_member
returns c =
    behind_ok c.push_string.result _ _ _ _ _
    (subst (λ l. c.push_bytes.new.self ≡ c.args.out.now ++ l) c.requires c.in_ok-push_bytes.ensures.ok)
    c.push_string.ensures.ok

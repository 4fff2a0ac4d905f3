use Rattle.std.proofs.Common.{◌-◌, slice_index_or}
use Rattle.std.proofs.lemmas.Bool.{eqb-true}
use Rattle.fk_job.proofs.Sent.{behind_comma}
use Rattle.fk_job.proofs.body.is_behind_comma.Goals as goal

pub returns-then-member-gt0 : goal.returns-then-member-gt0
returns-then-member-gt0 c = λ is.
    behind_comma c.args.text.now c.args.member.now c.requires.ordered c.requires.placed.within c.if-member-gt0.true
    (eqb-true (slice_index_or c.args.text.now (c.args.member.now.name_from - 1) 0) 44 is)

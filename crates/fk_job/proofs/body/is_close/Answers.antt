use Rattle.std.proofs.Common.{slice_index_or}
use Rattle.std.proofs.lemmas.Bool.{eqb-true}
use Rattle.fk_job.proofs.Sent.{is_close}
use Rattle.fk_job.proofs.body.is_close.Goals as goal

pub returns-then-member : goal.returns-then-member
returns-then-member c = λ is.
    is_close c.args.text.now c.args.member.now c.requires c.if-member.true
    (eqb-true (slice_index_or c.args.text.now c.args.member.now.name_to 0) 58 is)

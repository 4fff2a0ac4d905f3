use Rattle.std.proofs.Common.{inr, refl}
use Rattle.fk_job.proofs.OneValue.{empty_type}
use Rattle.fk_job.proofs.fields.type_of.Goals as goal

pub returns-then-is_empty-clause-fault : goal.returns-then-is_empty-clause-fault
returns-then-is_empty-clause-fault c =
    inr (
      refl,
      empty_type c.args.text.now c.args.members.now c.in-Some.jobtype
          (rw c.in-Some.is at c.in_ok-jobtype.ensures.some) (c.is_empty.ensures.0 c.if-is_empty.true),
    )

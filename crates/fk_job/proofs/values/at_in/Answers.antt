use Rattle.std.proofs.Common.{inr, refl}
use Rattle.fk_job.proofs.OneValue.{bad_moment, no_string, some_text}
use Rattle.fk_job.proofs.values.at_in.Goals as goal

pub returns-in_default-clause-fault : goal.returns-in_default-clause-fault
returns-in_default-clause-fault c =
    let none = no_string c.string_value.result c.in_ok-decoded.field-0 c.args.value.now c.string_value.ensures.none
    c.in_ok-decoded.was c.in_default.is in
    inr (refl, λ at (decoded, is, said). none decoded is)

pub returns-clause-fault : goal.returns-clause-fault
returns-clause-fault c =
    inr (
      refl,
      λ at. bad_moment c.args.value.now c.in-Some.decoded at
          (rw c.in-Some.is at c.in_ok-decoded.ensures.some) (some_text c.is_empty.ensures c.if-is_empty.false)
          (rw c.bytes.ensures at c.in-Err.ensures.err),
    )

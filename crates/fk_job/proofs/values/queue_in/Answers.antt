use Rattle.std.proofs.Common.{inr, refl}
use Rattle.fk_job.proofs.OneValue.{bad_name, good_name, no_string, only_true, some_text}
use Rattle.fk_job.proofs.values.queue_in.Goals as goal

pub returns-in_default-clause-fault : goal.returns-in_default-clause-fault
returns-in_default-clause-fault c =
    let none = no_string c.string_value.result c.in_ok-name.field-0 c.args.value.now c.string_value.ensures.none
    c.in_ok-name.was c.in_default.is in
    inr (refl, λ queue (name, is, named). none name is)

pub returns-then-are_queue_bytes-clause-ok : goal.returns-then-are_queue_bytes-clause-ok
returns-then-are_queue_bytes-clause-ok c =
    good_name c.args.value.now c.in-Some.name (rw c.in-Some.is at c.in_ok-name.ensures.some)
    (some_text c.is_empty.ensures c.if-is_empty.false)
    (rw c.bytes.ensures at (c.are_queue_bytes.ensures.0 c.if-are_queue_bytes.true))

pub returns-else-are_queue_bytes-clause-fault : goal.returns-else-are_queue_bytes-clause-fault
returns-else-are_queue_bytes-clause-fault c =
    inr (
      refl,
      λ queue. bad_name c.args.value.now c.in-Some.name queue
          (rw c.in-Some.is at c.in_ok-name.ensures.some) (some_text c.is_empty.ensures c.if-is_empty.false)
          (rw c.bytes.ensures at (only_true c.are_queue_bytes.ensures c.if-are_queue_bytes.false)),
    )

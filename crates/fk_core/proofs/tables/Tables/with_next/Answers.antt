use Rattle.fk_core.proofs.NoRows.{tied_to_none}
use Rattle.fk_core.proofs.tables.Tables.with_next.Goals as goal

pub invariant_of-result : goal.invariant_of-result
invariant_of-result c =
    rw c.new.ensures
    (tied_to_none c.new-2.result c.args.next c.new-2.ensures.queues c.new-2.ensures.leases
    c.new-2.ensures.sets c.new-2.ensures.working c.requires)

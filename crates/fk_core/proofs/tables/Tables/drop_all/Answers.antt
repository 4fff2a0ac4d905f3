use Rattle.std.proofs.Common.{arith}
use Rattle.fk_core.proofs.NoRows.{tied_to_none}
use Rattle.fk_core.proofs.MovesMade.{made_all}
use Rattle.fk_core.proofs.tables.Tables.drop_all.Goals as goal

pub invariant_of-self : goal.invariant_of-self
invariant_of-self c =
    rw c.clear.ensures.items
    (tied_to_none _ _ c.clear-2.ensures.queues c.clear-2.ensures.leases c.clear-2.ensures.sets
    c.clear-2.ensures.working
    c.self.invariant.within)

pub returns : goal.returns
returns c =
    rw (← c.self.view_is)
    (made_all c.self.inside c.clear.new.self c.clear-2.new.self c.self.invariant.by_ticket c.clear.ensures.items
    (omega (arith, c.clear.ensures.kept)) c.clear-2.ensures.queue_room c.clear-2.ensures.lease_room
    c.clear-2.ensures.set_room)

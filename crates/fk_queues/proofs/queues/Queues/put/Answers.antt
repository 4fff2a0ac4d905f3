use Rattle.fk_lists.proofs.Renewed.{rising_with_last}
use Rattle.fk_queues.proofs.queues.Queues.put.Goals as goal

-- its rank is above the others
pub invariant_of-self : goal.invariant_of-self
invariant_of-self c =
    let name = c.args.queue.now in
    rising_with_last name (c.args.rank, c.args.ticket) c.self.inside.lists.items c.push.new.self.items
    c.self.invariant (rw c.self.view_is c.requires.last)
    (record { here = c.push.ensures.here; others = c.push.ensures.others.items })

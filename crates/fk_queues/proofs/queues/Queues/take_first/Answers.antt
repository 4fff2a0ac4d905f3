use Rattle.fk_lists.proofs.Renewed.{rising_without_first}
use Rattle.fk_queues.proofs.queues.Queues.take_first.Goals as goal

pub invariant_of-self : goal.invariant_of-self
invariant_of-self c =
    rising_without_first c.args.queue.now c.self.inside.lists.items c.take_first.new.self.items c.self.invariant
    (record { here = c.take_first.ensures.here; others = c.take_first.ensures.others.items })

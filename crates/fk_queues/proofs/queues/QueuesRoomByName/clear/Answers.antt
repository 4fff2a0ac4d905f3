use Rattle.fk_lists.proofs.Renewed.{rising_none}
use Rattle.fk_queues.proofs.queues.QueuesRoomByName.clear.Goals as goal

pub invariant_of-self : goal.invariant_of-self
invariant_of-self c = rising_none c.clear.new.self.items c.clear.ensures.items

use Rattle.fk_tree.proofs.Rising.{rising_filter}
use Rattle.fk_leases.proofs.Alike.{has_left}
use Rattle.fk_leases.proofs.ends.leave.Goals as goal

pub returns-clause-same : goal.returns-clause-same
returns-clause-same c = has_left _ _ _ c.requires.rising c.take.ensures.items

pub returns-clause-rising : goal.returns-clause-rising
returns-clause-rising c = rw c.take.ensures.items (rising_filter _ _ c.requires.rising)

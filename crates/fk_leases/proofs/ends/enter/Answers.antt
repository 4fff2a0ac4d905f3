use Rattle.fk_tree.proofs.Around.{rising_with}
use Rattle.fk_leases.proofs.Alike.{count_with}
use Rattle.fk_leases.proofs.ends.enter.Goals as goal

pub returns-clause-same : goal.returns-clause-same
returns-clause-same c = rw c.put.ensures.items (count_with (c.args.until, c.args.ticket) c.args.ends.now.items)

pub returns-clause-rising : goal.returns-clause-rising
returns-clause-rising c = rw c.put.ensures.items (rising_with _ _ c.requires.rising c.requires.absent)

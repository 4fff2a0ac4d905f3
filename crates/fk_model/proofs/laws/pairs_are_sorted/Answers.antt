use Rattle.fk_model.proofs.Sorting.{are_in_order, are_the_same}
use Rattle.fk_model.proofs.laws.pairs_are_sorted.Goals as goal

pub returns-clause-order : goal.returns-clause-order
returns-clause-order c = are_in_order

pub returns-clause-same : goal.returns-clause-same
returns-clause-same c = are_the_same

use Rattle.std.proofs.Common.{ap, ◌∙◌}
use Rattle.fk_model.specs.Orders.{in_order}
use Rattle.fk_lists.proofs.Sorted.{sorted_is}
use Rattle.fk_leases.proofs.ends.leases_of.Goals as goal

pub returns : goal.returns
returns c =
    sorted_is _ _ c.sort_unstable.ensures.permutation c.sort_unstable.ensures.sorted
    ∙ ap in_order c.in_ok-leases.ensures

use Rattle.std.proofs.Common.{◌≡◌, ap, ◌∙◌}
use Rattle.fk_model.specs.Orders.{in_order}
use Rattle.fk_lists.proofs.Sorted.{sorted_is}
use Rattle.fk_plan.specs.Choosing.{fresh}
use Rattle.fk_plan.proofs.choosing.fresh.Goals as goal

pub returns : goal.returns
returns c =
    let sorted : c.sort_unstable.new.self.items ≡ in_order (fresh c.args.target c.args.moves.now.items) =
    sorted_is _ _ c.sort_unstable.ensures.permutation c.sort_unstable.ensures.sorted
    ∙ ap in_order c.in_ok-entries.ensures in
    rw (c.in_ok-extend.ensures.ok, c.new-pairs.ensures) (c.deref.ensures.value ∙ sorted)

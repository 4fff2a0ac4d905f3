use Rattle.std.proofs.Common.{ap, refl, [], length, arith}
use Rattle.std.specs.Vec.Iter.{into_iter_items}
use Rattle.fk_plan.proofs.DueMoves.{drops, begins, dead_dropped}
use Rattle.fk_plan.proofs.forgetting.forget.Goals as goal

pub forgetting-init : goal.forgetting-init
forgetting-init c = record {
  left = begins drops _ _ (into_iter_items c.into_iter-ticket-iterator.result) c.into_vec-ticket-items.result.items
      _ [] _ _ c.in_ok-reserve.ensures.same c.into_iter-ticket-iterator.ensures.into_iter_gives.0
      c.into_vec-ticket-items.ensures c.in_ok-dead.ensures refl
      (dead_dropped c.args.tables.now.kept c.args.moment c.requires.by_ticket);
  room = omega (arith, ap length c.in_ok-reserve.ensures.same);
}

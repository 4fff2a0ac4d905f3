use Rattle.std.proofs.Common.{arith}
use Rattle.fk_core.specs.Sets.{stands_at}
use Rattle.fk_plan.specs.Tallies.{puts}
use Rattle.fk_plan.proofs.FirstItems.{one_counted}
use Rattle.fk_plan.proofs.counting.count_put.Goals as goal
use Rattle.fk_plan.proofs.counting.count_put.Goals.{then-is_put_at, else-is_put_at}

pub counting-preserved : goal.counting-preserved
counting-preserved c =
    let one = one_counted (puts (stands_at c.args.target)) c.args.moves.now.items c.counting.at c.is_put_at.result
    c.is_put_at.ensures in
    elim c.if-is_put_at.branch [
      | then-is_put_at w ↦ record {
        done = rw w.count-is (let step = rw w.if-is_put_at.true at one in let before = c.counting.invariant.done in omega (arith, step, before));
        few = rw w.count-is (let before = c.counting.invariant.few in omega (arith, before));
      }
      | else-is_put_at w ↦ record {
        done = rw w.count-is (let step = rw w.if-is_put_at.false at one in let before = c.counting.invariant.done in omega (arith, step, before));
        few = rw w.count-is (let before = c.counting.invariant.few in omega (arith, before));
      }
    ]

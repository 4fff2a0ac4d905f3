use Rattle.std.proofs.Common.{ℕ, length, ap, sym, subst, ◌∙◌, arith}
use Rattle.fk_tree.specs.Order.{AreOthers}
use Rattle.fk_tree.proofs.Around.{rising_with}
use Rattle.fk_tree.proofs.Counts.{length-with_pair, few_steps}
use Rattle.fk_tree.proofs.tree.Tree.put_by.Goals as goal

pub returns-clause-steps : goal.returns-clause-steps
returns-clause-steps g c =
    rw (← c.self.view_is) (few_steps c.self.inside.root _ _ c.self.invariant.full c.put.ensures.steps)

pub invariant_of-self : goal.invariant_of-self
invariant_of-self g c =
    let sound = c.self.invariant in
    let others =
    subst (λ (pair : ℕ × ℕ). AreOthers pair c.self.inside.root.pairs) (sym c.node-node.ensures.key)
    (rw (← c.self.view_is) at c.requires.absent) in
    let longer = ap length c.put.ensures.pairs ∙ length-with_pair _ c.self.inside.root.pairs in
    record {
      rising = rw c.put.ensures.pairs (rising_with _ c.self.inside.root.pairs sound.rising others);
      counted = omega (arith, longer, sound.counted);
      room = omega (arith, sound.room, c.node-node.ensures.spare);
      full = c.put.ensures.full;
    }

pub overflow_add-self : goal.overflow_add-self
overflow_add-self g c = omega (arith, c.self.invariant.room, c.node-node.ensures.spare)

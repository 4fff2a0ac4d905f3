use Rattle.std.proofs.Common.{length, ap, arith, refl}
use Rattle.fk_tree.proofs.Rising.{rising_filter}
use Rattle.fk_tree.proofs.Counts.{few_steps, one_less, none_less}
use Rattle.fk_tree.proofs.tree.Tree.take_by.Goals as goal

pub returns-in_default-clause-steps : goal.returns-in_default-clause-steps
returns-in_default-clause-steps g c =
    rw (← c.self.view_is) (few_steps c.self.inside.root _ _ c.self.invariant.full c.remove.ensures.steps)

pub returns-clause-steps : goal.returns-clause-steps
returns-clause-steps g c =
    rw (← c.self.view_is) (few_steps c.self.inside.root _ _ c.self.invariant.full c.remove.ensures.steps)

pub invariant_of-self : goal.invariant_of-self
invariant_of-self g c =
    let sound = c.self.invariant in
    let same = none_less _ c.self.inside.root.pairs sound.rising
    (λ contained. cc (rw c.in_default.is at (c.remove.ensures.found.1 contained))) in
    record {
      rising = rw c.remove.ensures.pairs (rising_filter _ c.self.inside.root.pairs sound.rising);
      counted = omega (arith, ap length c.remove.ensures.pairs, same, sound.counted);
      room = omega (arith, sound.room);
      full = c.remove.ensures.full;
    }

pub invariant_of-self-2 : goal.invariant_of-self-2
invariant_of-self-2 g c =
    let sound = c.self.invariant in
    let fewer = one_less _ c.self.inside.root.pairs sound.rising (c.remove.ensures.found.0 (rw c.in-Some.is refl)) in
    record {
      rising = rw c.remove.ensures.pairs (rising_filter _ c.self.inside.root.pairs sound.rising);
      counted = omega (arith, ap length c.remove.ensures.pairs, fewer, sound.counted);
      room = omega (arith, sound.room, c.keep.ensures);
      full = c.remove.ensures.full;
    }

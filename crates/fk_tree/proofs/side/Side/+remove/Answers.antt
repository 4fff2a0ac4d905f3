use Rattle.std.proofs.Common.{refl, ◌<◌, ◌^◌, ◌∙◌, ap, subst, length, arith, rules}
use Rattle.std.specs.Prelude.{IsSome}
use Rattle.fk_tree.specs.declared.side.Node.{Node}
use Rattle.fk_tree.specs.Side.{IsBalanced}
use Rattle.fk_tree.proofs.Tops.{top_is, top_now, top_told, height_is, shorter_right, shorter_both}
use Rattle.fk_tree.proofs.Takes.{take_left, take_right, take_left_pairs, take_right_pairs, told_left, told_right, there_middle, take_middle}
use Rattle.fk_tree.proofs.Settled.{lowered_left, lowered_right, full_top}
use Rattle.fk_tree.proofs.side.Side.+remove.Goals as goal

pub remove-fell-requires-in-Greater : goal.remove-fell-requires-in-Greater
remove-fell-requires-in-Greater g t c κs within =
    let over = top_now _ _ c.in-Some.node _ c.self.view_is c.self.invariant c.in-Some.is c.deref_mut-in-Greater.ensures.value in
    let fewer : length c.deref_mut-in-Greater.result.now.right.pairs < length c.args.self.now.pairs = shorter_right _ _ _ _ over in
    let few : length c.deref_mut-in-Greater.result.now.right.pairs < 2 ^ 64 = omega (arith, fewer, c.requires.few) in
    search rules

pub remove_top-requires : goal.remove_top-requires
remove_top-requires g t c =
    let over = top_is _ _ c.in-Some.node c.self.view_is c.self.invariant c.in-Some.is in
    record { few = omega (arith, shorter_both _ _ _ _ over, c.requires.few); balanced = subst IsBalanced c.in-Some.is c.self.invariant }

pub returns-in-Equal : goal.returns-in-Equal
returns-in-Equal g t c =
    let over = top_is _ _ c.in-Some.node c.self.view_is c.self.invariant c.in-Some.is in
    let told = top_told _ _ c.in-Some.node c.in-Some.node.value c.self.view_is c.in-Some.is refl in
    let same = rw c.deref.ensures at (c.in-Equal.ensures.same refl) in
    let done = c.remove_top.ensures in
    record {
      found = ((λ _. there_middle _ _ _ _ _ over same), (λ _. done.taken.1 refl));
      pairs = done.pairs ∙ take_middle _ _ _ _ _ over same;
      not_lower = omega (arith, told, done.not_lower);
      not_higher = omega (arith, told, done.not_higher);
      told = (λ is. done.told is ∙ told);
      full = full_top _ done.balanced;
      steps = omega (arith, told, height_is _ _ _ _ over, done.steps, c.order.ensures.step);
    }

pub settle-requires : goal.settle-requires
settle-requires g t c =
    let now = c.deref_mut.ensures.value in
    let over = top_now _ _ c.in-Some.node _ c.self.view_is c.self.invariant c.in-Some.is now in
    let told = top_told _ _ c.in-Some.node _ c.self.view_is c.in-Some.is now in
    let before = rw (c.deref.ensures, ← now) at (c.in-Less.ensures.before refl) in
    let done = c.remove-fell.ensures in
    let sides = take_left _ _ _ _ _ _ over before
    (record { pairs = done.pairs; not_lower = done.not_lower; not_higher = done.not_higher; full = done.full }) in
    let changed =
    lowered_left _ _ _ (record c.in-Some.node { value = record c.deref_mut.result.now { left = c.remove-fell.new.self } }) _
    over told c.requires.few sides (take_left_pairs _ _ _ c.remove-fell.new.self _ _ over before done.pairs)
    done.not_lower done.not_higher done.told in
    record { before = ap (λ (value : Node). value.height) c.deref-in-Less.ensures; near = changed.near; still = changed.still }

pub returns-in-Less : goal.returns-in-Less
returns-in-Less g t c =
    let now = c.deref_mut.ensures.value in
    let over = top_now _ _ c.in-Some.node _ c.self.view_is c.self.invariant c.in-Some.is now in
    let told = top_told _ _ c.in-Some.node _ c.self.view_is c.in-Some.is now in
    let before = rw (c.deref.ensures, ← now) at (c.in-Less.ensures.before refl) in
    let done = c.remove-fell.ensures in
    let sides = take_left _ _ _ _ _ _ over before
    (record { pairs = done.pairs; not_lower = done.not_lower; not_higher = done.not_higher; full = done.full }) in
    let changed =
    lowered_left _ _ _ (record c.in-Some.node { value = record c.deref_mut.result.now { left = c.remove-fell.new.self } }) _
    over told c.requires.few sides (take_left_pairs _ _ _ c.remove-fell.new.self _ _ over before done.pairs)
    done.not_lower done.not_higher done.told in
    let settled = c.settle.ensures in
    let bounds = changed.within _ settled.allowed in
    record {
      found = told_left (IsSome c.remove-fell.new.taken) _ _ _ _ _ over before done.found;
      pairs = settled.pairs ∙ changed.pairs;
      not_lower = omega (arith, height_is _ _ _ _ over, bounds.0);
      not_higher = bounds.1;
      told = (λ is. settled.told is ∙ changed.before);
      full = full_top _ settled.balanced;
      steps = omega (arith, height_is _ _ _ _ over, done.steps, c.order.ensures.step);
    }

pub settle-requires-in-Greater : goal.settle-requires-in-Greater
settle-requires-in-Greater g t c =
    let now = c.deref_mut-in-Greater.ensures.value in
    let over = top_now _ _ c.in-Some.node _ c.self.view_is c.self.invariant c.in-Some.is now in
    let told = top_told _ _ c.in-Some.node _ c.self.view_is c.in-Some.is now in
    let before = rw (c.deref.ensures, ← now) at (c.in-Greater.ensures.behind refl) in
    let done = c.remove-fell-in-Greater.ensures in
    let sides = take_right _ _ _ _ _ _ over before
    (record { pairs = done.pairs; not_lower = done.not_lower; not_higher = done.not_higher; full = done.full }) in
    let changed =
    lowered_right _ _ _ (record c.in-Some.node { value = record c.deref_mut-in-Greater.result.now { right = c.remove-fell-in-Greater.new.self } }) _
    over told c.requires.few sides (take_right_pairs _ _ _ c.remove-fell-in-Greater.new.self _ _ over before done.pairs)
    done.not_lower done.not_higher done.told in
    record { before = ap (λ (value : Node). value.height) c.deref-in-Greater.ensures; near = changed.near; still = changed.still }

pub returns-in-Greater : goal.returns-in-Greater
returns-in-Greater g t c =
    let now = c.deref_mut-in-Greater.ensures.value in
    let over = top_now _ _ c.in-Some.node _ c.self.view_is c.self.invariant c.in-Some.is now in
    let told = top_told _ _ c.in-Some.node _ c.self.view_is c.in-Some.is now in
    let before = rw (c.deref.ensures, ← now) at (c.in-Greater.ensures.behind refl) in
    let done = c.remove-fell-in-Greater.ensures in
    let sides = take_right _ _ _ _ _ _ over before
    (record { pairs = done.pairs; not_lower = done.not_lower; not_higher = done.not_higher; full = done.full }) in
    let changed =
    lowered_right _ _ _ (record c.in-Some.node { value = record c.deref_mut-in-Greater.result.now { right = c.remove-fell-in-Greater.new.self } }) _
    over told c.requires.few sides (take_right_pairs _ _ _ c.remove-fell-in-Greater.new.self _ _ over before done.pairs)
    done.not_lower done.not_higher done.told in
    let settled = c.settle-in-Greater.ensures in
    let bounds = changed.within _ settled.allowed in
    record {
      found = told_right (IsSome c.remove-fell-in-Greater.new.taken) _ _ _ _ _ over before done.found;
      pairs = settled.pairs ∙ changed.pairs;
      not_lower = omega (arith, height_is _ _ _ _ over, bounds.0);
      not_higher = bounds.1;
      told = (λ is. settled.told is ∙ changed.before);
      full = full_top _ settled.balanced;
      steps = omega (arith, height_is _ _ _ _ over, done.steps, c.order.ensures.step);
    }

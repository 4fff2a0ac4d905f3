use Rattle.std.proofs.Common.{refl, ◌+◌, ◌<◌, ◌^◌, ◌∙◌, ap, length, arith, rules}
use Rattle.fk_tree.specs.declared.side.Node.{Node}
use Rattle.fk_tree.specs.Order.{AreOthers}
use Rattle.fk_tree.specs.Side.{pair_of}
use Rattle.fk_tree.proofs.Tops.{top_is, top_now, top_told, height_is, shorter_right}
use Rattle.fk_tree.proofs.Puts.{others_right, not_node}
use Rattle.fk_tree.proofs.Settled.{raised_left, raised_right, full_top}
use Rattle.fk_tree.proofs.side.Side.+put.Goals as goal

pub put-rose-requires-in-Greater : goal.put-rose-requires-in-Greater
put-rose-requires-in-Greater g t c κs within =
    let over = top_now _ _ c.in-Some.node _ c.self.view_is c.self.invariant c.in-Some.is c.deref_mut-in-Greater.ensures.value in
    let fewer : length c.deref_mut-in-Greater.result.now.right.pairs < length c.args.self.now.pairs = shorter_right _ _ _ _ over in
    let few : length c.deref_mut-in-Greater.result.now.right.pairs + 1 < 2 ^ 64 = omega (arith, fewer, c.requires.few) in
    let others : AreOthers (pair_of c.args.new.value.key) c.deref_mut-in-Greater.result.now.right.pairs =
    others_right _ _ _ _ _ over c.requires.absent in
    search rules

pub unreachable-requires : goal.unreachable-requires
unreachable-requires g t c =
    not_node _ _ _ _ _ (top_is _ _ c.in-Some.node c.self.view_is c.self.invariant c.in-Some.is) c.requires.absent
    (rw (c.deref.ensures, c.deref-2.ensures, c.deref-3.ensures) at (c.in-Equal.ensures.same refl))

pub settle-requires : goal.settle-requires
settle-requires g t c =
    let now = c.deref_mut.ensures.value in
    let over = top_now _ _ c.in-Some.node _ c.self.view_is c.self.invariant c.in-Some.is now in
    let told = top_told _ _ c.in-Some.node _ c.self.view_is c.in-Some.is now in
    let before = rw (c.deref.ensures, c.deref-2.ensures, c.deref-3.ensures, ← now) at (c.in-Less.ensures.before refl) in
    let done = c.put-rose.ensures in
    let changed =
    raised_left _ _ (record c.in-Some.node { value = record c.deref_mut.result.now { left = c.put-rose.new.self } }) _ _
    over told c.requires.few c.requires.absent before
    (record { pairs = done.pairs; not_lower = done.not_lower; not_higher = done.not_higher; full = done.full }) done.told in
    record { before = ap (λ (value : Node). value.height) c.deref-in-Less.ensures; near = changed.near; still = changed.still }

pub returns-in-Less : goal.returns-in-Less
returns-in-Less g t c =
    let now = c.deref_mut.ensures.value in
    let over = top_now _ _ c.in-Some.node _ c.self.view_is c.self.invariant c.in-Some.is now in
    let told = top_told _ _ c.in-Some.node _ c.self.view_is c.in-Some.is now in
    let before = rw (c.deref.ensures, c.deref-2.ensures, c.deref-3.ensures, ← now) at (c.in-Less.ensures.before refl) in
    let done = c.put-rose.ensures in
    let changed =
    raised_left _ _ (record c.in-Some.node { value = record c.deref_mut.result.now { left = c.put-rose.new.self } }) _ _
    over told c.requires.few c.requires.absent before
    (record { pairs = done.pairs; not_lower = done.not_lower; not_higher = done.not_higher; full = done.full }) done.told in
    let settled = c.settle.ensures in
    let bounds = changed.within _ settled.allowed in
    record {
      pairs = settled.pairs ∙ changed.pairs;
      not_lower = bounds.0;
      not_higher = bounds.1;
      told = (λ is. settled.told is ∙ changed.before);
      full = full_top _ settled.balanced;
      steps = omega (arith, height_is _ _ _ _ over, done.steps, c.order.ensures.step);
    }

pub settle-requires-in-Greater : goal.settle-requires-in-Greater
settle-requires-in-Greater g t c =
    let now = c.deref_mut-in-Greater.ensures.value in
    let over = top_now _ _ c.in-Some.node _ c.self.view_is c.self.invariant c.in-Some.is now in
    let told = top_told _ _ c.in-Some.node _ c.self.view_is c.in-Some.is now in
    let before = rw (c.deref.ensures, c.deref-2.ensures, c.deref-3.ensures, ← now) at (c.in-Greater.ensures.behind refl) in
    let done = c.put-rose-in-Greater.ensures in
    let changed =
    raised_right _ _ (record c.in-Some.node { value = record c.deref_mut-in-Greater.result.now { right = c.put-rose-in-Greater.new.self } }) _ _
    over told c.requires.few c.requires.absent before
    (record { pairs = done.pairs; not_lower = done.not_lower; not_higher = done.not_higher; full = done.full }) done.told in
    record { before = ap (λ (value : Node). value.height) c.deref-in-Greater.ensures; near = changed.near; still = changed.still }

pub returns-in-Greater : goal.returns-in-Greater
returns-in-Greater g t c =
    let now = c.deref_mut-in-Greater.ensures.value in
    let over = top_now _ _ c.in-Some.node _ c.self.view_is c.self.invariant c.in-Some.is now in
    let told = top_told _ _ c.in-Some.node _ c.self.view_is c.in-Some.is now in
    let before = rw (c.deref.ensures, c.deref-2.ensures, c.deref-3.ensures, ← now) at (c.in-Greater.ensures.behind refl) in
    let done = c.put-rose-in-Greater.ensures in
    let changed =
    raised_right _ _ (record c.in-Some.node { value = record c.deref_mut-in-Greater.result.now { right = c.put-rose-in-Greater.new.self } }) _ _
    over told c.requires.few c.requires.absent before
    (record { pairs = done.pairs; not_lower = done.not_lower; not_higher = done.not_higher; full = done.full }) done.told in
    let settled = c.settle-in-Greater.ensures in
    let bounds = changed.within _ settled.allowed in
    record {
      pairs = settled.pairs ∙ changed.pairs;
      not_lower = bounds.0;
      not_higher = bounds.1;
      told = (λ is. settled.told is ∙ changed.before);
      full = full_top _ settled.balanced;
      steps = omega (arith, height_is _ _ _ _ over, done.steps, c.order.ensures.step);
    }

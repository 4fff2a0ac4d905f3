use Rattle.std.proofs.Common.{refl, ◌≡◌, ◌∷◌, ◌∙◌, ap, sym, subst, arith, ℕ, List, Box}
use Rattle.std.proofs.lemmas.Option.{IfSome_then}
use Rattle.std.specs.declared.alloc.Global.{Global}
use Rattle.fk_tree.specs.declared.side.Node.{Node}
use Rattle.fk_tree.specs.Shape.{Shape, IsBare}
use Rattle.fk_tree.specs.Side.{pair_of, pairs_of, height_of, IsBalanced}
use Rattle.fk_tree.proofs.Tops.{top_now, top_told, height_is}
use Rattle.fk_tree.proofs.Takes.{bare_left, first_left, without_first}
use Rattle.fk_tree.proofs.Settled.{lowered_left, full_top, none_of, some_of, then_none}
use Rattle.fk_tree.proofs.side.Side.+remove_first.Goals as goal

pub settle-requires : goal.settle-requires
settle-requires g t c =
    let now = c.deref_mut.ensures.value in
    let over = top_now _ _ c.in-Some.node _ c.self.view_is c.self.invariant c.in-Some.is now in
    let told = top_told _ _ c.in-Some.node _ c.self.view_is c.in-Some.is now in
    let done = c.remove_first-fell.ensures in
    let there = some_of c.remove_first-fell.new.first
    (λ (node : Box Node Global). c.deref_mut.result.now.left.pairs ≡ pair_of node.value.key ∷ c.remove_first-fell.new.self.pairs)
    (sym c.is_some.ensures ∙ c.if-is_some.true) done.first in
    let sides = without_first _ _ _ _ _ _ over there.1 done.not_lower done.not_higher done.full in
    let changed =
    lowered_left _ _ _ (record c.in-Some.node { value = record c.deref_mut.result.now { left = c.remove_first-fell.new.self } }) _
    over told c.requires.few sides refl done.not_lower done.not_higher done.told in
    record { before = ap (λ (value : Node). value.height) c.deref-then-is_some.ensures; near = changed.near; still = changed.still }

pub returns-then-is_some : goal.returns-then-is_some
returns-then-is_some g t c =
    let now = c.deref_mut.ensures.value in
    let over = top_now _ _ c.in-Some.node _ c.self.view_is c.self.invariant c.in-Some.is now in
    let told = top_told _ _ c.in-Some.node _ c.self.view_is c.in-Some.is now in
    let done = c.remove_first-fell.ensures in
    let there = some_of c.remove_first-fell.new.first
    (λ (node : Box Node Global). c.deref_mut.result.now.left.pairs ≡ pair_of node.value.key ∷ c.remove_first-fell.new.self.pairs)
    (sym c.is_some.ensures ∙ c.if-is_some.true) done.first in
    let sides = without_first _ _ _ _ _ _ over there.1 done.not_lower done.not_higher done.full in
    let changed =
    lowered_left _ _ _ (record c.in-Some.node { value = record c.deref_mut.result.now { left = c.remove_first-fell.new.self } }) _
    over told c.requires.few sides refl done.not_lower done.not_higher done.told in
    let settled = c.settle.ensures in
    let bounds = changed.within _ settled.allowed in
    let is = sym c.is_some.ensures ∙ c.if-is_some.true in
    record {
      empty = none_of _ _ is;
      none = none_of _ _ is;
      first = IfSome_then c.remove_first-fell.new.first done.first
          (λ node pairs. first_left _ _ _ c.remove_first-fell.new.self _ _ over pairs ∙ ap (λ (rest : List (ℕ × ℕ)). pair_of node.value.key ∷ rest) (sym settled.pairs));
      not_lower = omega (arith, height_is _ _ _ _ over, bounds.0);
      not_higher = bounds.1;
      told = (λ same. settled.told same ∙ changed.before);
      full = full_top _ settled.balanced;
      steps = omega (arith, height_is _ _ _ _ over, done.steps, c.order.ensures.step);
    }

pub returns : goal.returns
returns g t c =
    let over = top_now _ _ c.in-Some.node _ c.self.view_is c.self.invariant c.in-Some.is c.deref_mut.ensures.value in
    let done = c.remove_first-fell.ensures in
    let bare = then_none c.remove_first-fell.new.first (IsBare c.deref_mut.result.now.left) (sym c.is_some.ensures ∙ c.if-is_some.false) done.empty in
    let right : c.take_right-right.result ≡ c.deref_mut.result.now.right =
    c.take_right-right.ensures.right ∙ ap (λ (value : Node). value.right) c.deref_mut-2.ensures.value in
    let key : c.take_right-right.new.self.key ≡ c.deref_mut.result.now.key =
    c.take_right-right.ensures.key ∙ ap (λ (value : Node). value.key) c.deref_mut-2.ensures.value in
    let pairs : pairs_of c.replace.new.dest ≡ c.deref_mut.result.now.right.pairs =
    ap pairs_of c.replace.ensures.after ∙ c.into_top.ensures.pairs ∙ ap (λ (shape : Shape). shape.pairs) right in
    let height : height_of c.replace.new.dest ≡ c.deref_mut.result.now.right.height =
    ap height_of c.replace.ensures.after ∙ c.into_top.ensures.height ∙ ap (λ (shape : Shape). shape.height) right in
    record {
      empty = rw c.replace.ensures.value tt;
      none = rw c.replace.ensures.value tt;
      first = rw c.replace.ensures.value (rw (key, pairs) (bare_left _ _ _ _ over bare));
      not_lower = omega (arith, height_is _ _ _ _ over, bare.height, height);
      not_higher = omega (arith, height_is _ _ _ _ over, bare.height, height);
      told = (λ same. absurd (cc same));
      full = full_top _ (subst IsBalanced (sym c.replace.ensures.after) c.into_top.ensures.balanced);
      steps = omega (arith, height_is _ _ _ _ over, done.steps, c.order.ensures.step);
    }

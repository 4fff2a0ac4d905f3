-- A node one of whose sides was changed in its place, and whose height isn't set yet.
use Rattle.std.proofs.Common.{◌≡◌, ℕ, ◌+◌, ◌^◌, ◌<◌, ◌≤◌, Bool, true, false, max, length, List, refl, arith, Box, Option, None, Some, inl, inr}
use Rattle.std.proofs.lemmas.Bool.{cases_lt}
use Rattle.std.specs.Prelude.{is_some, IfNone, IfSome}
use Rattle.std.specs.declared.alloc.Global.{Global}
use Rattle.fk_tree.specs.declared.side.Node.{Node}
use Rattle.fk_json.specs.PairOrder.{comes_before, with_pair}
use Rattle.fk_tree.specs.Order.{AreOthers}
use Rattle.fk_tree.specs.Shape.{Shape, AreSides, IsFull, IsOver, pairs_over}
use Rattle.fk_tree.specs.Side.{pair_of, pairs_of, height_of, IsBalanced, IsNear, IsAllowed}
use Rattle.fk_tree.proofs.Halves.{low_height}
use Rattle.fk_tree.proofs.Tops.{over_is}
use Rattle.fk_tree.proofs.Puts.{IsPut, put_left, put_right, put_left_pairs, put_right_pairs}

-- a balanced side is full
pub full_top : (top : Option (Box Node Global)) → IsBalanced top → IsFull (record { pairs = pairs_of top; height = height_of top })
full_top None balanced = omega arith
full_top (Some node) balanced =
    (over_is (record { pairs = pairs_of (Some node); height = height_of (Some node) }) node.value.left node.value.right
    (pair_of node.value.key) refl balanced.1 balanced.0).full

-- a balanced side has a height that its sides allow
pub allowed_top : (top : Option (Box Node Global)) → IsBalanced top → IsAllowed top (height_of top)
allowed_top None balanced = refl
allowed_top (Some node) balanced =
    (omega (arith, balanced.1), omega (arith, balanced.1), (λ _. balanced.1))

-- what holds of what stands there, where something does
pub some_of : {X : Type 0} (option : Option X) (P : X → Type 0) → is_some option ≡ true → IfSome option P → (x : X) × P x
some_of None P is holds = absurd (cc is)
some_of (Some x) P is holds = (x, holds)

pub none_of : {X : Type 0} (option : Option X) (P : Type 0) → is_some option ≡ true → IfNone option P
none_of None P is = absurd (cc is)
none_of (Some x) P is = tt

pub then_none : {X : Type 0} (option : Option X) (P : Type 0) → is_some option ≡ false → IfNone option P → P
then_none None P is holds = holds
then_none (Some x) P is holds = absurd (cc is)

-- what a change of one side left: the pairs, and the heights that are allowed now
pub record IsChanged (all : List (ℕ × ℕ)) (height low high : ℕ) (moved : Bool) (top : Option (Box Node Global)) : Type 0 where
  pub near : IsNear top
  pub pairs : pairs_of top ≡ all
  pub before : height_of top ≡ height
  pub still : moved ≡ false → IsBalanced top
  pub within : (new : ℕ) → IsAllowed top new → (low ≤ new) × (new ≤ high)

-- two heights that differ by at most one, or are two apart
rises : (old one other new : ℕ) → old ≤ other + 1 → other ≤ old + 1 → old ≤ one → one ≤ old + 1 → max one other ≤ new
    → new ≤ max one other + 1 → ((one ≤ other + 1) × (other ≤ one + 1) → new ≡ max one other + 1)
    → (max old other + 1 ≤ new) × (new ≤ max old other + 2)
rises old one other new near far up low at_least at_most even =
    elim (cases_lt (other + 1) one) [
      | inl high ↦ (omega (arith, near, far, up, low, at_least, at_most, high), omega (arith, near, far, up, low, at_least, at_most, high))
      | inr level ↦
          let is : new ≡ max one other + 1 = even (level, omega (arith, far, up)) in
          (omega (arith, near, far, up, low, is), omega (arith, near, far, up, low, is))
    ]

falls : (old one other new : ℕ) → old ≤ other + 1 → other ≤ old + 1 → old ≤ one + 1 → one ≤ old → max one other ≤ new
    → new ≤ max one other + 1 → ((one ≤ other + 1) × (other ≤ one + 1) → new ≡ max one other + 1)
    → (max old other ≤ new) × (new ≤ max old other + 1)
falls old one other new near far up low at_least at_most even =
    elim (cases_lt (one + 1) other) [
      | inl high ↦ (omega (arith, near, far, up, low, at_least, at_most, high), omega (arith, near, far, up, low, at_least, at_most, high))
      | inr level ↦
          let is : new ≡ max one other + 1 = even (omega (arith, near, low), level) in
          (omega (arith, near, far, up, low, is), omega (arith, near, far, up, low, is))
    ]

-- where no height moved, the heights of both sides differ by at most one still
still_sides : (by : ℕ) (left right one other : Shape) (pair : ℕ × ℕ) → AreSides 1 left pair right → AreSides by one pair other
    → one.height ≡ left.height → other.height ≡ right.height → AreSides 1 one pair other
still_sides by left right one other pair before after first second = record {
  rising = after.rising;
  differ = (omega (arith, before.differ.0, first, second), omega (arith, before.differ.1, first, second));
  left_full = after.left_full;
  right_full = after.right_full;
}

pub raised_left : (side left : Shape) (node : Box Node Global) (pair : ℕ × ℕ) (rose : Bool)
    → IsOver side left (pair_of node.value.key) node.value.right → node.value.height ≡ side.height
    → length side.pairs + 1 < 2 ^ 64 → AreOthers pair side.pairs
    → comes_before pair (pair_of node.value.key) ≡ true → IsPut pair left node.value.left
    → (rose ≡ false → node.value.left.height ≡ left.height)
    → IsChanged (with_pair pair side.pairs) side.height side.height (side.height + 1) rose (Some node)
raised_left side left node pair rose over told few others before done same =
    let level : side.height ≡ max left.height node.value.right.height + 1 = over.height in
    let low : side.height < 130 = low_height side over.full (omega (arith, few)) in
    let sides = put_left side left node.value.right node.value.left (pair_of node.value.key) pair over others before done in
    record {
      near = (sides, omega (arith, level, low, done.not_higher));
      pairs = put_left_pairs side left node.value.right node.value.left (pair_of node.value.key) pair over before done;
      before = told;
      still = (λ is. (
        still_sides 2 left node.value.right node.value.left node.value.right (pair_of node.value.key) over.sides sides (same is) refl,
        omega (arith, told, level, same is),
      ));
      within = (λ new allowed. let bound = rises left.height node.value.left.height node.value.right.height new over.sides.differ.0 over.sides.differ.1
          done.not_lower done.not_higher allowed.0 allowed.1 allowed.2 in (omega (arith, bound.0, level), omega (arith, bound.1, level)));
    }

pub raised_right : (side right : Shape) (node : Box Node Global) (pair : ℕ × ℕ) (rose : Bool)
    → IsOver side node.value.left (pair_of node.value.key) right → node.value.height ≡ side.height
    → length side.pairs + 1 < 2 ^ 64 → AreOthers pair side.pairs
    → comes_before (pair_of node.value.key) pair ≡ true → IsPut pair right node.value.right
    → (rose ≡ false → node.value.right.height ≡ right.height)
    → IsChanged (with_pair pair side.pairs) side.height side.height (side.height + 1) rose (Some node)
raised_right side right node pair rose over told few others before done same =
    let level : side.height ≡ max node.value.left.height right.height + 1 = over.height in
    let low : side.height < 130 = low_height side over.full (omega (arith, few)) in
    let sides = put_right side node.value.left right node.value.right (pair_of node.value.key) pair over others before done in
    record {
      near = (sides, omega (arith, level, low, done.not_higher));
      pairs = put_right_pairs side node.value.left right node.value.right (pair_of node.value.key) pair over before done;
      before = told;
      still = (λ is. (
        still_sides 2 node.value.left right node.value.left node.value.right (pair_of node.value.key) over.sides sides refl (same is),
        omega (arith, told, level, same is),
      ));
      within = (λ new allowed. let bound = rises right.height node.value.right.height node.value.left.height new over.sides.differ.1 over.sides.differ.0
          done.not_lower done.not_higher (omega (arith, allowed.0)) (omega (arith, allowed.1))
          (λ even. let is : new ≡ max node.value.left.height node.value.right.height + 1 = allowed.2 (even.1, even.0) in omega (arith, is)) in
          (omega (arith, bound.0, level), omega (arith, bound.1, level)));
    }

-- a side of a node may have fallen by a level

pub lowered_left : (all : List (ℕ × ℕ)) (side left : Shape) (node : Box Node Global) (fell : Bool)
    → IsOver side left (pair_of node.value.key) node.value.right → node.value.height ≡ side.height
    → length side.pairs < 2 ^ 64 → AreSides 2 node.value.left (pair_of node.value.key) node.value.right
    → pairs_over node.value.left (pair_of node.value.key) node.value.right ≡ all
    → left.height ≤ node.value.left.height + 1 → node.value.left.height ≤ left.height
    → (fell ≡ false → node.value.left.height ≡ left.height)
    → IsChanged all side.height (max left.height node.value.right.height) side.height fell (Some node)
lowered_left all side left node fell over told few sides pairs not_lower not_higher same =
    let level : side.height ≡ max left.height node.value.right.height + 1 = over.height in
    let low : side.height < 130 = low_height side over.full few in
    record {
      near = (sides, omega (arith, level, low, not_higher));
      pairs = pairs;
      before = told;
      still = (λ is. (
        still_sides 2 left node.value.right node.value.left node.value.right (pair_of node.value.key) over.sides sides (same is) refl,
        omega (arith, told, level, same is),
      ));
      within = (λ new allowed. let bound = falls left.height node.value.left.height node.value.right.height new over.sides.differ.0 over.sides.differ.1
          not_lower not_higher allowed.0 allowed.1 allowed.2 in (bound.0, omega (arith, bound.1, level)));
    }

pub lowered_right : (all : List (ℕ × ℕ)) (side right : Shape) (node : Box Node Global) (fell : Bool)
    → IsOver side node.value.left (pair_of node.value.key) right → node.value.height ≡ side.height
    → length side.pairs < 2 ^ 64 → AreSides 2 node.value.left (pair_of node.value.key) node.value.right
    → pairs_over node.value.left (pair_of node.value.key) node.value.right ≡ all
    → right.height ≤ node.value.right.height + 1 → node.value.right.height ≤ right.height
    → (fell ≡ false → node.value.right.height ≡ right.height)
    → IsChanged all side.height (max node.value.left.height right.height) side.height fell (Some node)
lowered_right all side right node fell over told few sides pairs not_lower not_higher same =
    let level : side.height ≡ max node.value.left.height right.height + 1 = over.height in
    let low : side.height < 130 = low_height side over.full few in
    record {
      near = (sides, omega (arith, level, low, not_higher));
      pairs = pairs;
      before = told;
      still = (λ is. (
        still_sides 2 node.value.left right node.value.left node.value.right (pair_of node.value.key) over.sides sides refl (same is),
        omega (arith, told, level, same is),
      ));
      within = (λ new allowed. let bound = falls right.height node.value.right.height node.value.left.height new over.sides.differ.1 over.sides.differ.0
          not_lower not_higher (omega (arith, allowed.0)) (omega (arith, allowed.1))
          (λ even. let is : new ≡ max node.value.left.height node.value.right.height + 1 = allowed.2 (even.1, even.0) in omega (arith, is)) in
          (omega (arith, bound.0), omega (arith, bound.1, level)));
    }

-- Turns: the sides of each node after what stood on the higher side came to the top.
use Rattle.std.proofs.Common.{◌≡◌, ℕ, ◌+◌, ◌<◌, ◌≤◌, max, List, ◌∷◌, ◌++◌, sym, subst, arith}
use Rattle.fk_tree.specs.Order.{IsRising}
use Rattle.fk_tree.specs.Shape.{Shape, AreSides, IsOver}
use Rattle.fk_tree.proofs.Rising.{inner_left, inner_right, rising_back, regrouped}

-- pairs with a side taken apart, in their places
apart_left : (left right outer inner : Shape) (pair top : ℕ × ℕ) → AreSides 2 left pair right
    → IsOver left outer top inner → IsRising ((outer.pairs ++ top ∷ inner.pairs) ++ pair ∷ right.pairs)
apart_left left right outer inner pair top sides over =
    subst (λ (pairs : List (ℕ × ℕ)). IsRising (pairs ++ pair ∷ right.pairs)) over.pairs sides.rising

apart_right : (left right inner outer : Shape) (pair top : ℕ × ℕ) → AreSides 2 left pair right
    → IsOver right inner top outer → IsRising (left.pairs ++ pair ∷ (inner.pairs ++ top ∷ outer.pairs))
apart_right left right inner outer pair top sides over =
    subst (λ (pairs : List (ℕ × ℕ)). IsRising (left.pairs ++ pair ∷ pairs)) over.pairs sides.rising

-- ---- the left side is two levels higher, and its outer side is the higher of its sides

pub right_once : (left right outer inner : Shape) (pair top : ℕ × ℕ) → AreSides 2 left pair right
    → IsOver left outer top inner → left.height ≡ right.height + 2 → inner.height ≤ outer.height
    → AreSides 1 inner pair right
right_once left right outer inner pair top sides over two high =
    let level : left.height ≡ max outer.height inner.height + 1 = over.height in record {
      rising = inner_right outer.pairs top inner.pairs pair right.pairs (apart_left left right outer inner pair top sides over);
      differ = omega (arith, over.sides.differ.0, over.sides.differ.1, level, two, high);
      left_full = over.sides.right_full;
      right_full = sides.right_full;
    }

pub right_top : (left right outer inner turned : Shape) (pair top : ℕ × ℕ) → AreSides 2 left pair right
    → IsOver left outer top inner → left.height ≡ right.height + 2 → inner.height ≤ outer.height
    → IsOver turned inner pair right → AreSides 1 outer top turned
right_top left right outer inner turned pair top sides over two high other =
    let level : left.height ≡ max outer.height inner.height + 1 = over.height in
    let lower : turned.height ≡ max inner.height right.height + 1 = other.height in record {
      rising = rw other.pairs (subst IsRising (regrouped outer.pairs top inner.pairs pair right.pairs)
          (apart_left left right outer inner pair top sides over));
      differ = omega (arith, over.sides.differ.0, over.sides.differ.1, level, lower, two, high);
      left_full = over.sides.left_full;
      right_full = other.full;
    }

-- ---- the left side is two levels higher, and its inner side is the higher of its sides

-- all three nodes in their places
apart_inner : (left right outer inner near far : Shape) (pair top middle : ℕ × ℕ) → AreSides 2 left pair right
    → IsOver left outer top inner → IsOver inner near middle far
    → IsRising (outer.pairs ++ top ∷ (near.pairs ++ middle ∷ (far.pairs ++ pair ∷ right.pairs)))
apart_inner left right outer inner near far pair top middle sides over within =
    subst (λ (pairs : List (ℕ × ℕ)). IsRising (outer.pairs ++ top ∷ pairs))
    (regrouped near.pairs middle far.pairs pair right.pairs)
    (subst IsRising (regrouped outer.pairs top (near.pairs ++ middle ∷ far.pairs) pair right.pairs)
    (subst (λ (pairs : List (ℕ × ℕ)). IsRising ((outer.pairs ++ top ∷ pairs) ++ pair ∷ right.pairs)) within.pairs
    (apart_left left right outer inner pair top sides over)))

pub right_outer : (left right outer inner near far : Shape) (pair top middle : ℕ × ℕ) → AreSides 2 left pair right
    → IsOver left outer top inner → IsOver inner near middle far → left.height ≡ right.height + 2
    → outer.height < inner.height → AreSides 1 outer top near
right_outer left right outer inner near far pair top middle sides over within two high =
    let level : left.height ≡ max outer.height inner.height + 1 = over.height in
    let lower : inner.height ≡ max near.height far.height + 1 = within.height in record {
      rising = inner_left outer.pairs top near.pairs middle (far.pairs ++ pair ∷ right.pairs)
          (apart_inner left right outer inner near far pair top middle sides over within);
      differ = omega (arith, over.sides.differ.0, over.sides.differ.1, within.sides.differ.0, within.sides.differ.1, level, lower, two, high);
      left_full = over.sides.left_full;
      right_full = within.sides.left_full;
    }

pub right_inner : (left right outer inner near far : Shape) (pair top middle : ℕ × ℕ) → AreSides 2 left pair right
    → IsOver left outer top inner → IsOver inner near middle far → left.height ≡ right.height + 2
    → outer.height < inner.height → AreSides 1 far pair right
right_inner left right outer inner near far pair top middle sides over within two high =
    let level : left.height ≡ max outer.height inner.height + 1 = over.height in
    let lower : inner.height ≡ max near.height far.height + 1 = within.height in record {
      rising = (rising_back near.pairs (middle ∷ (far.pairs ++ pair ∷ right.pairs))
          (rising_back outer.pairs (top ∷ (near.pairs ++ middle ∷ (far.pairs ++ pair ∷ right.pairs)))
          (apart_inner left right outer inner near far pair top middle sides over within)).1).1;
      differ = omega (arith, over.sides.differ.0, over.sides.differ.1, within.sides.differ.0, within.sides.differ.1, level, lower, two, high);
      left_full = within.sides.right_full;
      right_full = sides.right_full;
    }

pub right_middle : (left right outer inner near far one other : Shape) (pair top middle : ℕ × ℕ)
    → AreSides 2 left pair right → IsOver left outer top inner → IsOver inner near middle far
    → left.height ≡ right.height + 2 → outer.height < inner.height
    → IsOver one outer top near → IsOver other far pair right → AreSides 1 one middle other
right_middle left right outer inner near far one other pair top middle sides over within two high first second =
    let level : left.height ≡ max outer.height inner.height + 1 = over.height in
    let lower : inner.height ≡ max near.height far.height + 1 = within.height in
    let first_level : one.height ≡ max outer.height near.height + 1 = first.height in
    let second_level : other.height ≡ max far.height right.height + 1 = second.height in record {
      rising = rw (first.pairs, second.pairs)
          (subst IsRising (sym (regrouped outer.pairs top near.pairs middle (far.pairs ++ pair ∷ right.pairs)))
          (apart_inner left right outer inner near far pair top middle sides over within));
      differ = omega (arith, over.sides.differ.0, over.sides.differ.1, within.sides.differ.0, within.sides.differ.1, level, lower, first_level, second_level, two, high);
      left_full = first.full;
      right_full = second.full;
    }

-- ---- the right side is two levels higher, and its outer side is the higher of its sides

pub left_once : (left right inner outer : Shape) (pair top : ℕ × ℕ) → AreSides 2 left pair right
    → IsOver right inner top outer → right.height ≡ left.height + 2 → inner.height ≤ outer.height
    → AreSides 1 left pair inner
left_once left right inner outer pair top sides over two high =
    let level : right.height ≡ max inner.height outer.height + 1 = over.height in record {
      rising = inner_left left.pairs pair inner.pairs top outer.pairs (apart_right left right inner outer pair top sides over);
      differ = omega (arith, over.sides.differ.0, over.sides.differ.1, level, two, high);
      left_full = sides.left_full;
      right_full = over.sides.left_full;
    }

pub left_top : (left right inner outer turned : Shape) (pair top : ℕ × ℕ) → AreSides 2 left pair right
    → IsOver right inner top outer → right.height ≡ left.height + 2 → inner.height ≤ outer.height
    → IsOver turned left pair inner → AreSides 1 turned top outer
left_top left right inner outer turned pair top sides over two high other =
    let level : right.height ≡ max inner.height outer.height + 1 = over.height in
    let lower : turned.height ≡ max left.height inner.height + 1 = other.height in record {
      rising = rw other.pairs (subst IsRising (sym (regrouped left.pairs pair inner.pairs top outer.pairs))
          (apart_right left right inner outer pair top sides over));
      differ = omega (arith, over.sides.differ.0, over.sides.differ.1, level, lower, two, high);
      left_full = other.full;
      right_full = over.sides.right_full;
    }

-- ---- the right side is two levels higher, and its inner side is the higher of its sides

-- all three nodes in their places
apart_within : (left right inner outer near far : Shape) (pair top middle : ℕ × ℕ) → AreSides 2 left pair right
    → IsOver right inner top outer → IsOver inner near middle far
    → IsRising (left.pairs ++ pair ∷ (near.pairs ++ middle ∷ (far.pairs ++ top ∷ outer.pairs)))
apart_within left right inner outer near far pair top middle sides over within =
    subst (λ (pairs : List (ℕ × ℕ)). IsRising (left.pairs ++ pair ∷ pairs))
    (regrouped near.pairs middle far.pairs top outer.pairs)
    (subst (λ (pairs : List (ℕ × ℕ)). IsRising (left.pairs ++ pair ∷ (pairs ++ top ∷ outer.pairs))) within.pairs
    (apart_right left right inner outer pair top sides over))

pub left_inner : (left right inner outer near far : Shape) (pair top middle : ℕ × ℕ) → AreSides 2 left pair right
    → IsOver right inner top outer → IsOver inner near middle far → right.height ≡ left.height + 2
    → outer.height < inner.height → AreSides 1 left pair near
left_inner left right inner outer near far pair top middle sides over within two high =
    let level : right.height ≡ max inner.height outer.height + 1 = over.height in
    let lower : inner.height ≡ max near.height far.height + 1 = within.height in record {
      rising = inner_left left.pairs pair near.pairs middle (far.pairs ++ top ∷ outer.pairs)
          (apart_within left right inner outer near far pair top middle sides over within);
      differ = omega (arith, over.sides.differ.0, over.sides.differ.1, within.sides.differ.0, within.sides.differ.1, level, lower, two, high);
      left_full = sides.left_full;
      right_full = within.sides.left_full;
    }

pub left_outer : (left right inner outer near far : Shape) (pair top middle : ℕ × ℕ) → AreSides 2 left pair right
    → IsOver right inner top outer → IsOver inner near middle far → right.height ≡ left.height + 2
    → outer.height < inner.height → AreSides 1 far top outer
left_outer left right inner outer near far pair top middle sides over within two high =
    let level : right.height ≡ max inner.height outer.height + 1 = over.height in
    let lower : inner.height ≡ max near.height far.height + 1 = within.height in record {
      rising = (rising_back near.pairs (middle ∷ (far.pairs ++ top ∷ outer.pairs))
          (rising_back left.pairs (pair ∷ (near.pairs ++ middle ∷ (far.pairs ++ top ∷ outer.pairs)))
          (apart_within left right inner outer near far pair top middle sides over within)).1).1;
      differ = omega (arith, over.sides.differ.0, over.sides.differ.1, within.sides.differ.0, within.sides.differ.1, level, lower, two, high);
      left_full = within.sides.right_full;
      right_full = over.sides.right_full;
    }

pub left_middle : (left right inner outer near far one other : Shape) (pair top middle : ℕ × ℕ)
    → AreSides 2 left pair right → IsOver right inner top outer → IsOver inner near middle far
    → right.height ≡ left.height + 2 → outer.height < inner.height
    → IsOver one left pair near → IsOver other far top outer → AreSides 1 one middle other
left_middle left right inner outer near far one other pair top middle sides over within two high first second =
    let level : right.height ≡ max inner.height outer.height + 1 = over.height in
    let lower : inner.height ≡ max near.height far.height + 1 = within.height in
    let first_level : one.height ≡ max left.height near.height + 1 = first.height in
    let second_level : other.height ≡ max far.height outer.height + 1 = second.height in record {
      rising = rw (first.pairs, second.pairs)
          (subst IsRising (sym (regrouped left.pairs pair near.pairs middle (far.pairs ++ top ∷ outer.pairs)))
          (apart_within left right inner outer near far pair top middle sides over within));
      differ = omega (arith, over.sides.differ.0, over.sides.differ.1, within.sides.differ.0, within.sides.differ.1, level, lower, first_level, second_level, two, high);
      left_full = first.full;
      right_full = second.full;
    }

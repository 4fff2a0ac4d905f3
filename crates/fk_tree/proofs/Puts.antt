-- A pair is put into one of the sides of a node.
use Rattle.std.proofs.Common.{◌≡◌, ℕ, ◌+◌, ◌≤◌, true, List, ◌∷◌, ◌++◌, sym, ap, subst, ◌∙◌, arith}
use Rattle.fk_json.specs.PairOrder.{comes_before, with_pair}
use Rattle.fk_tree.specs.Order.{AreOthers, IsRising}
use Rattle.fk_tree.specs.Shape.{Shape, AreSides, IsFull, IsOver, pairs_over}
use Rattle.fk_tree.proofs.Kept.{all_front, all_back}
use Rattle.fk_tree.proofs.Around.{with_left, with_right, rising_with}

pub others_left : (side left right : Shape) (node pair : ℕ × ℕ) → IsOver side left node right
    → AreOthers pair side.pairs → AreOthers pair left.pairs
others_left side left right node pair over others =
    all_front _ left.pairs (node ∷ right.pairs) (subst (AreOthers pair) over.pairs others)

pub others_right : (side left right : Shape) (node pair : ℕ × ℕ) → IsOver side left node right
    → AreOthers pair side.pairs → AreOthers pair right.pairs
others_right side left right node pair over others =
    (all_back _ left.pairs (node ∷ right.pairs) (subst (AreOthers pair) over.pairs others)).1

-- the pair of the node is another one
pub not_node : (side left right : Shape) (node pair : ℕ × ℕ) → IsOver side left node right
    → AreOthers pair side.pairs → pair ≡ node → ⊥
not_node side left right node pair over others same =
    (all_back _ left.pairs (node ∷ right.pairs) (subst (AreOthers pair) over.pairs others)).0 (sym same)

-- what a put left of a side: its pairs, a height that rose by at most one, and a full side
pub record IsPut (pair : ℕ × ℕ) (before after : Shape) : Type 0 where
  pub pairs : after.pairs ≡ with_pair pair before.pairs
  pub not_lower : before.height ≤ after.height
  pub not_higher : after.height ≤ before.height + 1
  pub full : IsFull after

pub put_left_pairs : (side left right after : Shape) (node pair : ℕ × ℕ) → IsOver side left node right
    → comes_before pair node ≡ true → IsPut pair left after
    → pairs_over after node right ≡ with_pair pair side.pairs
put_left_pairs side left right after node pair over before done =
    ap (λ (pairs : List (ℕ × ℕ)). pairs ++ node ∷ right.pairs) done.pairs
    ∙ sym (with_left pair left.pairs node right.pairs over.sides.rising before)
    ∙ ap (λ (pairs : List (ℕ × ℕ)). with_pair pair pairs) (sym over.pairs)

pub put_right_pairs : (side left right after : Shape) (node pair : ℕ × ℕ) → IsOver side left node right
    → comes_before node pair ≡ true → IsPut pair right after
    → pairs_over left node after ≡ with_pair pair side.pairs
put_right_pairs side left right after node pair over before done =
    ap (λ (pairs : List (ℕ × ℕ)). left.pairs ++ node ∷ pairs) done.pairs
    ∙ sym (with_right pair left.pairs node right.pairs over.sides.rising before)
    ∙ ap (λ (pairs : List (ℕ × ℕ)). with_pair pair pairs) (sym over.pairs)

whole_rising : (side left right : Shape) (node pair : ℕ × ℕ) → IsOver side left node right
    → AreOthers pair side.pairs → IsRising (with_pair pair side.pairs)
whole_rising side left right node pair over others =
    rising_with pair side.pairs (subst IsRising (sym over.pairs) over.sides.rising) others

pub put_left : (side left right after : Shape) (node pair : ℕ × ℕ) → IsOver side left node right
    → AreOthers pair side.pairs → comes_before pair node ≡ true → IsPut pair left after
    → AreSides 2 after node right
put_left side left right after node pair over others before done = record {
  rising = subst IsRising (sym (put_left_pairs side left right after node pair over before done))
      (whole_rising side left right node pair over others);
  differ = omega (arith, over.sides.differ.0, over.sides.differ.1, done.not_lower, done.not_higher);
  left_full = done.full;
  right_full = over.sides.right_full;
}

pub put_right : (side left right after : Shape) (node pair : ℕ × ℕ) → IsOver side left node right
    → AreOthers pair side.pairs → comes_before node pair ≡ true → IsPut pair right after
    → AreSides 2 left node after
put_right side left right after node pair over others before done = record {
  rising = subst IsRising (sym (put_right_pairs side left right after node pair over before done))
      (whole_rising side left right node pair over others);
  differ = omega (arith, over.sides.differ.0, over.sides.differ.1, done.not_lower, done.not_higher);
  left_full = over.sides.left_full;
  right_full = done.full;
}

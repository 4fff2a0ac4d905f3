-- A pair is taken out of one of the sides of a node, or from between them.
use Rattle.std.proofs.Common.{◌≡◌, ℕ, ◌+◌, ◌≤◌, true, List, ◌∷◌, ◌++◌, sym, ap, subst, ◌∙◌, arith}
use Rattle.std.specs.Prelude.{◌↔◌, Contains}
use Rattle.std.proofs.lemmas.List.Elements.{Contains-append_left}
use Rattle.fk_json.specs.PairOrder.{comes_before}
use Rattle.fk_tree.specs.Order.{without_pair, IsRising}
use Rattle.fk_tree.specs.Shape.{Shape, AreSides, IsBare, IsFull, IsOver, pairs_over}
use Rattle.fk_tree.proofs.Rising.{rising_filter, rising_less}
use Rattle.fk_tree.proofs.Around.{without_left, without_right, without_middle, found_left, found_right, found_in_right, found_middle}

-- what a take left of a side: its pairs, a height that fell by at most one, and a full side
pub record IsTaken (rest : List (ℕ × ℕ)) (before after : Shape) : Type 0 where
  pub pairs : after.pairs ≡ rest
  pub not_lower : before.height ≤ after.height + 1
  pub not_higher : after.height ≤ before.height
  pub full : IsFull after

pub take_left_pairs : (side left right after : Shape) (node pair : ℕ × ℕ) → IsOver side left node right
    → comes_before pair node ≡ true → after.pairs ≡ without_pair pair left.pairs
    → pairs_over after node right ≡ without_pair pair side.pairs
take_left_pairs side left right after node pair over before pairs =
    ap (λ (front : List (ℕ × ℕ)). front ++ node ∷ right.pairs) pairs
    ∙ sym (without_left pair left.pairs node right.pairs over.sides.rising before)
    ∙ ap (λ (all : List (ℕ × ℕ)). without_pair pair all) (sym over.pairs)

pub take_right_pairs : (side left right after : Shape) (node pair : ℕ × ℕ) → IsOver side left node right
    → comes_before node pair ≡ true → after.pairs ≡ without_pair pair right.pairs
    → pairs_over left node after ≡ without_pair pair side.pairs
take_right_pairs side left right after node pair over before pairs =
    ap (λ (back : List (ℕ × ℕ)). left.pairs ++ node ∷ back) pairs
    ∙ sym (without_right pair left.pairs node right.pairs over.sides.rising before)
    ∙ ap (λ (all : List (ℕ × ℕ)). without_pair pair all) (sym over.pairs)

whole_rising : (side left right : Shape) (node pair : ℕ × ℕ) → IsOver side left node right
    → IsRising (without_pair pair side.pairs)
whole_rising side left right node pair over =
    rising_filter _ side.pairs (subst IsRising (sym over.pairs) over.sides.rising)

pub take_left : (side left right after : Shape) (node pair : ℕ × ℕ) → IsOver side left node right
    → comes_before pair node ≡ true → IsTaken (without_pair pair left.pairs) left after → AreSides 2 after node right
take_left side left right after node pair over before done = record {
  rising = subst IsRising (sym (take_left_pairs side left right after node pair over before done.pairs))
      (whole_rising side left right node pair over);
  differ = omega (arith, over.sides.differ.0, over.sides.differ.1, done.not_lower, done.not_higher);
  left_full = done.full;
  right_full = over.sides.right_full;
}

pub take_right : (side left right after : Shape) (node pair : ℕ × ℕ) → IsOver side left node right
    → comes_before node pair ≡ true → IsTaken (without_pair pair right.pairs) right after → AreSides 2 left node after
take_right side left right after node pair over before done = record {
  rising = subst IsRising (sym (take_right_pairs side left right after node pair over before done.pairs))
      (whole_rising side left right node pair over);
  differ = omega (arith, over.sides.differ.0, over.sides.differ.1, done.not_lower, done.not_higher);
  left_full = over.sides.left_full;
  right_full = done.full;
}

-- ---- whether it was there

pub told_left : (Found : Type 0) (side left right : Shape) (node pair : ℕ × ℕ) → IsOver side left node right
    → comes_before pair node ≡ true → (Found ↔ Contains left.pairs pair)
    → (Found ↔ Contains side.pairs pair)
told_left Found side left right node pair over before told =
    let Told : List (ℕ × ℕ) → Type 0 = λ pairs. Found ↔ Contains pairs pair in subst Told (sym over.pairs) (
      (λ yes. Contains-append_left left.pairs (node ∷ right.pairs) pair (told.0 yes)),
      (λ there. told.1 (found_left pair left.pairs node right.pairs over.sides.rising before there)),
    )

pub told_right : (Found : Type 0) (side left right : Shape) (node pair : ℕ × ℕ) → IsOver side left node right
    → comes_before node pair ≡ true → (Found ↔ Contains right.pairs pair)
    → (Found ↔ Contains side.pairs pair)
told_right Found side left right node pair over before told =
    let Told : List (ℕ × ℕ) → Type 0 = λ pairs. Found ↔ Contains pairs pair in subst Told (sym over.pairs) (
      (λ yes. found_in_right pair left.pairs node right.pairs (told.0 yes)),
      (λ there. told.1 (found_right pair left.pairs node right.pairs over.sides.rising before there)),
    )

pub there_middle : (side left right : Shape) (node pair : ℕ × ℕ) → IsOver side left node right → pair ≡ node
    → Contains side.pairs pair
there_middle side left right node pair over same =
    rw (over.pairs, same) (found_middle left.pairs node right.pairs)

-- ---- from between the sides

pub take_middle : (side left right : Shape) (node pair : ℕ × ℕ) → IsOver side left node right → pair ≡ node
    → left.pairs ++ right.pairs ≡ without_pair pair side.pairs
take_middle side left right node pair over same =
    rw (over.pairs, same) (sym (without_middle left.pairs node right.pairs over.sides.rising))

-- the first pair of the right side comes between
pub next_between : (left right after : Shape) (pair first : ℕ × ℕ) → AreSides 1 left pair right
    → right.pairs ≡ first ∷ after.pairs → right.height ≤ after.height + 1 → after.height ≤ right.height → IsFull after
    → AreSides 2 left first after
next_between left right after pair first sides pairs not_lower not_higher full = record {
  rising = subst (λ (back : List (ℕ × ℕ)). IsRising (left.pairs ++ back)) pairs
      (rising_less left.pairs pair right.pairs sides.rising);
  differ = omega (arith, sides.differ.0, sides.differ.1, not_lower, not_higher);
  left_full = sides.left_full;
  right_full = full;
}

-- with no left side, the pair between is the first
pub bare_left : (side left right : Shape) (node : ℕ × ℕ) → IsOver side left node right → IsBare left
    → side.pairs ≡ node ∷ right.pairs
bare_left side left right node over bare =
    over.pairs ∙ ap (λ (front : List (ℕ × ℕ)). front ++ node ∷ right.pairs) bare.pairs

-- a left side without its first pair
pub first_left : (side left right after : Shape) (node first : ℕ × ℕ) → IsOver side left node right
    → left.pairs ≡ first ∷ after.pairs → side.pairs ≡ first ∷ pairs_over after node right
first_left side left right after node first over pairs =
    over.pairs ∙ ap (λ (front : List (ℕ × ℕ)). front ++ node ∷ right.pairs) pairs

pub without_first : (side left right after : Shape) (node first : ℕ × ℕ) → IsOver side left node right
    → left.pairs ≡ first ∷ after.pairs → left.height ≤ after.height + 1 → after.height ≤ left.height → IsFull after
    → AreSides 2 after node right
without_first side left right after node first over pairs not_lower not_higher full = record {
  rising = (subst (λ (front : List (ℕ × ℕ)). IsRising (front ++ node ∷ right.pairs)) pairs over.sides.rising).1;
  differ = omega (arith, over.sides.differ.0, over.sides.differ.1, not_lower, not_higher);
  left_full = full;
  right_full = over.sides.right_full;
}

-- What a side of a node is seen as, and two sides with a pair between them.
use Rattle.std.specs.Prelude.{◌≡◌, ℕ, ◌+◌, ◌/◌, ◌^◌, ◌≤◌, max, List, [], ◌∷◌, ◌++◌, length}
use Rattle.fk_tree.specs.Order.{IsRising}

pub record Shape : Type 0 where
  pub pairs : List (ℕ × ℕ)
  pub height : ℕ

-- two levels more take at least twice the pairs
abbrev pub IsFull : Shape → Type 0
IsFull side = 2 ^ (side.height / 2) ≤ length side.pairs + 1

-- the pairs of the left side, the one between, those of the right side
abbrev pub pairs_over : Shape → ℕ × ℕ → Shape → List (ℕ × ℕ)
pairs_over left pair right = left.pairs ++ pair ∷ right.pairs

-- one level above the higher side
abbrev pub height_over : Shape → Shape → ℕ
height_over left right = max left.height right.height + 1

-- neither height is more than this above the other
abbrev pub DifferByAtMost : ℕ → Shape → Shape → Type 0
DifferByAtMost by left right = (left.height ≤ right.height + by) × (right.height ≤ left.height + by)

-- the pairs are in order, the heights differ by at most so many, and both sides are full
pub record AreSides (by : ℕ) (left : Shape) (pair : ℕ × ℕ) (right : Shape) : Type 0 where
  pub rising : IsRising (pairs_over left pair right)
  pub differ : DifferByAtMost by left right
  pub left_full : IsFull left
  pub right_full : IsFull right

-- a side at whose top a pair stands between two sides
pub record IsOver (side left : Shape) (pair : ℕ × ℕ) (right : Shape) : Type 0 where
  pub pairs : side.pairs ≡ pairs_over left pair right
  pub height : side.height ≡ height_over left right
  pub sides : AreSides 1 left pair right
  pub full : IsFull side

-- a side without a node
pub record IsBare (side : Shape) : Type 0 where
  pub pairs : side.pairs ≡ []
  pub height : side.height ≡ 0

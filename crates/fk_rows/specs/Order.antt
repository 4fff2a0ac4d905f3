-- Rows by ticket: which come before a ticket, which behind it, and that they are in order.
use Rattle.std.specs.Prelude.{ℕ, ◌<◌, List, [], ◌∷◌}
use Rattle.std.specs.List.{AllByRecursion}

-- each ticket is above this one
abbrev pub AreAbove : {X : Type 0} → ℕ → List (ℕ × X) → Type 0
AreAbove ticket pairs = AllByRecursion (λ pair. ticket < pair.0) pairs

-- each ticket is below this one
abbrev pub AreBelow : {X : Type 0} → ℕ → List (ℕ × X) → Type 0
AreBelow ticket pairs = AllByRecursion (λ pair. pair.0 < ticket) pairs

-- each ticket is below those that come later
abbrev pub AreRising : {X : Type 0} → List (ℕ × X) → Type 0
AreRising [] = Unit {0}
AreRising (pair ∷ pairs) = AreAbove pair.0 pairs × AreRising pairs

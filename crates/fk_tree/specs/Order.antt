-- The order of pairs of a moment and a ticket, and lists of pairs in that order.
use Rattle.std.specs.Prelude.{ℕ, ◌==◌, ◌&&◌, ◌||◌, ◌≢◌, nat_lt, not, Bool, IsTrue, List, [], ◌∷◌, ◌++◌, filter}
use Rattle.std.specs.List.{AllByRecursion}
use Rattle.fk_json.specs.PairOrder.{comes_before}

-- each pair comes before all that stand behind it, so that each stands once
abbrev pub IsRising : List (ℕ × ℕ) → Type 0
IsRising [] = Unit {0}
IsRising (pair ∷ pairs) =
    AllByRecursion (λ other. IsTrue (comes_before pair other)) pairs × IsRising pairs

-- no pair among them is this one
abbrev pub AreOthers : ℕ × ℕ → List (ℕ × ℕ) → Type 0
AreOthers pair pairs = AllByRecursion (λ other. other ≢ pair) pairs

-- the pairs but this one
abbrev pub without_pair : ℕ × ℕ → List (ℕ × ℕ) → List (ℕ × ℕ)
without_pair pair pairs =
    filter (λ other. not ((other.0 == pair.0) && (other.1 == pair.1))) pairs

-- the pairs whose moment is at most this one
abbrev pub up_to : ℕ → List (ℕ × ℕ) → List (ℕ × ℕ)
up_to moment pairs = filter (λ pair. not (nat_lt moment pair.0)) pairs

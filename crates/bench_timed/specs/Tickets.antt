-- Tickets that rise: a pair with the next ticket isn't in the set.
use Rattle.std.specs.Prelude.{ℕ, ◌<◌, List, All}

-- the tickets of all pairs are below this one
abbrev pub AreBelow : ℕ → List (ℕ × ℕ) → Type 0
AreBelow ticket pairs = All (λ pair. pair.1 < ticket) pairs

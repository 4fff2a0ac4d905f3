-- Sets by moment: pairs of a moment, in milliseconds since 1970-01-01T00:00:00Z, and a row's ticket.
use Rattle.std.specs.Prelude.{ℕ, ◌≢◌, List, All}
use Rattle.fk_model.specs.Orders.{ticket_in}

-- no pair is of this ticket
abbrev pub IsAbsent : ℕ → List (ℕ × ℕ) → Type 0
IsAbsent ticket pairs = All (λ pair. ticket_in pair ≢ ticket) pairs

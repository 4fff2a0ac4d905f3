-- Rows under their tickets: a list of pairs in order of ticket, so that equal maps are equal lists.
use Rattle.std.specs.Prelude.{ℕ, ◌==◌, nat_lt, not, if◌then◌else◌, List, ◌∷◌, ◌++◌, Option, option_map, map, filter, find}
use Rattle.std.specs.List.Sorted.{IsStrictlyIncreasing}
use Rattle.fk_model.specs.declared.row.Row.{Row}

-- the ticket under which a row stands
abbrev pub ticket_of : ℕ × Row → ℕ
ticket_of filed = filed.0

-- the row that stands there
abbrev pub row_of : ℕ × Row → Row
row_of filed = filed.1

-- each ticket is below the next one
abbrev pub IsByTicket : List (ℕ × Row) → Type 0
IsByTicket rows = IsStrictlyIncreasing (map ticket_of rows)

-- a ticket with its row, if a row stands there
abbrev pub filed_at : List (ℕ × Row) → ℕ → Option (ℕ × Row)
filed_at rows ticket = find (λ filed. ticket_of filed == ticket) rows

-- the row of a ticket, if there is one
abbrev pub row_at : List (ℕ × Row) → ℕ → Option Row
row_at rows ticket = option_map row_of (filed_at rows ticket)

-- with this row under the ticket, in the place of the one that may stand there
abbrev pub with_row : List (ℕ × Row) → ℕ → Row → List (ℕ × Row)
with_row rows ticket row =
    filter (λ filed. nat_lt (ticket_of filed) ticket) rows
    ++ (ticket, row) ∷ filter (λ filed. nat_lt ticket (ticket_of filed)) rows

-- with the row of this ticket changed, if there is one
abbrev pub with_changed : List (ℕ × Row) → ℕ → (Row → Row) → List (ℕ × Row)
with_changed rows ticket change =
    map (λ filed. if ticket_of filed == ticket then (ticket, change (row_of filed)) else filed) rows

-- without the row of this ticket
abbrev pub without_row : List (ℕ × Row) → ℕ → List (ℕ × Row)
without_row rows ticket = filter (λ filed. not (ticket_of filed == ticket)) rows

-- What a set by moment is as rows come and go: each line is one of the numbers of rows, read of moments.
use Rattle.std.proofs.Common.{◌≡◌, ◌∙◌, ap, ℕ, List, filter}
use Rattle.std.specs.Prelude.{Option, None, Some}
use Rattle.fk_model.specs.declared.row.Row.{Row}
use Rattle.fk_model.specs.declared.mutation.Target.{Target}
use Rattle.fk_model.specs.Rows.{IsByTicket, row_at, with_row, with_changed, without_row}
use Rattle.fk_json.specs.PairOrder.{with_pair}
use Rattle.fk_model.specs.Orders.{moment_in, timed}
use Rattle.fk_model.proofs.Numbered.{gained, numbered_new, numbered_changed, numbered_stays, numbered_none_less}
use Rattle.fk_model.proofs.Ends.{numbered_without, is_of_other}

-- the moment of a row in a set
abbrev pub row_moment : Target → Row → Option ℕ
row_moment target row = moment_in target row.place

-- a new row of the set is one more, and any other leaves it
pub timed_new : (target : Target) (rows : List (ℕ × Row)) (ticket : ℕ) (row : Row)
    → IsByTicket rows → row_at rows ticket ≡ None
    → timed target (with_row rows ticket row)
    ≡ gained (row_moment target row) ticket (timed target rows)
timed_new target rows ticket row by_ticket none =
    numbered_new (row_moment target) rows ticket row by_ticket none

-- a row that comes into the set is one more
pub timed_joined : (target : Target) (rows : List (ℕ × Row)) (ticket : ℕ) (change : Row → Row)
    (row : Row) (moment : ℕ) → IsByTicket rows → row_at rows ticket ≡ Some row
    → row_moment target row ≡ None → row_moment target (change row) ≡ Some moment
    → timed target (with_changed rows ticket change)
    ≡ with_pair (moment, ticket) (timed target rows)
timed_joined target rows ticket change row moment by_ticket at had has =
    numbered_changed (row_moment target) rows ticket change row by_ticket at
    ∙ ap (λ o. gained o ticket (timed target (without_row rows ticket))) has
    ∙ ap (with_pair (moment, ticket)) (numbered_none_less (row_moment target) rows ticket row by_ticket at had)

-- a row that leaves the set takes its pair out
pub timed_left : (target : Target) (rows : List (ℕ × Row)) (ticket : ℕ) (change : Row → Row)
    (row : Row) → IsByTicket rows → row_at rows ticket ≡ Some row
    → row_moment target (change row) ≡ None
    → timed target (with_changed rows ticket change)
    ≡ filter (is_of_other ticket) (timed target rows)
timed_left target rows ticket change row by_ticket at none =
    numbered_changed (row_moment target) rows ticket change row by_ticket at
    ∙ ap (λ o. gained o ticket (timed target (without_row rows ticket))) none
    ∙ numbered_without (row_moment target) rows ticket

-- a row whose moment stays leaves the set as it is
pub timed_unchanged : (target : Target) (rows : List (ℕ × Row)) (ticket : ℕ) (change : Row → Row)
    (row : Row) → IsByTicket rows → row_at rows ticket ≡ Some row
    → row_moment target (change row) ≡ row_moment target row
    → timed target (with_changed rows ticket change) ≡ timed target rows
timed_unchanged target rows ticket change row by_ticket at same =
    numbered_stays (row_moment target) rows ticket change row by_ticket at same

-- a row that is taken away takes its pair out
pub timed_without : (target : Target) (rows : List (ℕ × Row)) (ticket : ℕ)
    → timed target (without_row rows ticket) ≡ filter (is_of_other ticket) (timed target rows)
timed_without target rows ticket = numbered_without (row_moment target) rows ticket

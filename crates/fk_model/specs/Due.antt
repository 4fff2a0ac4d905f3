-- Which rows are due at a moment. Each list is chosen by where the rows stand, and names them in the order in
-- which they are taken.
use Rattle.std.specs.Prelude.{ℕ, ◌<◌, nat_lt, not, Bool, false, List, Option, None, Some, IfSome, All, filter, filter_map}
use Rattle.fk_model.specs.declared.row.Row.{Row}
use Rattle.fk_model.specs.declared.place.Place.{Place}
use Rattle.fk_model.specs.declared.place.Place.TheVariants.{Queued, Scheduled, Retry, Dead, Working}
use Rattle.fk_model.specs.declared.mutation.Target.TheVariants as target
use Rattle.fk_model.specs.Rows.{row_of, filed_at}
use Rattle.fk_model.specs.Orders.{number_in, ticket_in, in_order, leased_until, timed, with_ticket}
use Rattle.fk_model.specs.State.{KeptState}

-- ---- nothing is due

-- when a row leaves its place by time alone, if it does
abbrev pub leaves_at : Place → Option ℕ
leaves_at (Queued rank) = None
leaves_at (Scheduled at) = Some at
leaves_at (Retry at) = Some at
leaves_at (Dead until) = Some until
leaves_at (Working wid since until) = Some until

-- no row is due at a moment: each that leaves its place by time alone does so later
abbrev pub IsUpToDate : ℕ → KeptState → Type 0
IsUpToDate moment kept =
    All (λ filed. IfSome (leaves_at (row_of filed).place) (λ at. moment < at)) kept.rows

-- ---- what is due

-- a moment that may be told has come
abbrev pub has_come : ℕ → Option ℕ → Bool
has_come moment None = false
has_come moment (Some at) = not (nat_lt moment at)

-- the pairs whose moment has come
abbrev pub up_to : ℕ → List (ℕ × ℕ) → List (ℕ × ℕ)
up_to moment pairs = filter (λ pair. not (nat_lt moment (number_in pair))) pairs

-- the rows of pairs, in their order
abbrev pub rows_of : List (ℕ × Row) → List (ℕ × ℕ) → List (ℕ × Row)
rows_of rows pairs = filter_map (λ pair. filed_at rows (ticket_in pair)) pairs

-- the dead rows whose time is over, by moment and ticket
abbrev pub over : KeptState → ℕ → List (ℕ × Row)
over kept moment = rows_of kept.rows (up_to moment (timed target.Dead kept.rows))

-- the rows that workers have and whose reservation has run out, by ticket
abbrev pub expired : KeptState → ℕ → List (ℕ × Row)
expired kept moment =
    filter (λ filed. has_come moment (leased_until (row_of filed).place)) kept.rows

-- when a row that is scheduled or to be tried again is put into its queue
abbrev pub waits_until : Place → Option ℕ
waits_until (Scheduled at) = Some at
waits_until (Retry at) = Some at
waits_until elsewhere = None

-- the scheduled rows and those to be tried again whose moment has come, both sets together by moment and ticket
abbrev pub due : KeptState → ℕ → List (ℕ × Row)
due kept moment =
    rows_of kept.rows
    (up_to moment (in_order (filter_map (with_ticket (λ row. waits_until row.place)) kept.rows)))

-- What is looked up of the leases, beside the least ticket of a jid, and whether moments are still to come.
use Rattle.std.specs.Prelude.{ℕ, ◌<◌, nat_lt, Bool, false, List, Option, option_map, bytes_eq, filter, filter_map, find, All}
use Rattle.std.specs.Option.{option_map_or}
use Rattle.fk_model.specs.declared.row.Row.{Row}
use Rattle.fk_model.specs.declared.place.Place.{Place}
use Rattle.fk_model.specs.Rows.{ticket_of, row_of}
use Rattle.fk_model.specs.Orders.{number_in, leased_until}
use Rattle.fk_model.specs.State.{KeptState}

-- the leases of rows: their tickets, each with the moment until which it is a worker's
abbrev pub leases_of : List (ℕ × Row) → List (ℕ × ℕ)
leases_of rows =
    filter_map
    (λ filed. option_map (λ until. (ticket_of filed, until)) (leased_until (row_of filed).place)) rows

-- the lease outlasts a moment
abbrev pub outlasts : ℕ → Place → Bool
outlasts moment place = option_map_or (nat_lt moment) (leased_until place) false

-- of the rows with this jid that workers have beyond a moment, the first, which is the one of the least ticket
abbrev pub leased_beyond : KeptState → List ℕ → ℕ → Option (ℕ × Row)
leased_beyond kept jid moment =
    find (λ filed. bytes_eq (row_of filed).job.jid jid)
    (filter (λ filed. outlasts moment (row_of filed).place) kept.rows)

-- the moment of each pair is beyond this one
abbrev pub AreLater : ℕ → List (ℕ × ℕ) → Type 0
AreLater moment pairs = All (λ pair. moment < number_in pair) pairs

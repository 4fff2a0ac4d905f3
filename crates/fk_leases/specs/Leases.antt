-- Leases: under each jid, the tickets of the rows of that jid that workers have, each with the moment
-- until which it is theirs, in milliseconds since 1970-01-01T00:00:00Z.
use Rattle.std.specs.Prelude.{ℕ, ◌==◌, ◌&&◌, ◌≢◌, not, nat_lt, if◌then◌else◌, List, Option, None, Some, map, filter, All}
use Rattle.std.specs.List.Sorted.{IsStrictlyIncreasing}
use Rattle.fk_model.specs.Orders.{in_order}
use Rattle.fk_lists.specs.Room.{Named, list_at, all_pairs}
use Rattle.fk_lists.specs.Least.{least}

-- the ticket of a lease
abbrev pub leased_ticket : ℕ × ℕ → ℕ
leased_ticket lease = lease.0

-- the moment until which it runs
abbrev pub until_in : ℕ × ℕ → ℕ
until_in lease = lease.1

-- the ticket of a lease, if it runs beyond a moment
abbrev pub ticket_beyond : ℕ → ℕ × ℕ → Option ℕ
ticket_beyond moment lease = if nat_lt moment (until_in lease) then Some (leased_ticket lease) else None

-- the leases of each jid are in order of ticket
abbrev pub AreByTicket : Named → Type 0
AreByTicket leases = (jid : List ℕ) → IsStrictlyIncreasing (map leased_ticket (list_at leases jid))

-- no lease is of this ticket
abbrev pub IsAbsent : ℕ → List (ℕ × ℕ) → Type 0
IsAbsent ticket leases = All (λ lease. leased_ticket lease ≢ ticket) leases

-- no lease of any jid is of this ticket
abbrev pub IsUnleased : ℕ → Named → Type 0
IsUnleased ticket leases = (jid : List ℕ) → IsAbsent ticket (list_at leases jid)

-- without the lease of this ticket until this moment
abbrev pub without_lease : ℕ → ℕ → List (ℕ × ℕ) → List (ℕ × ℕ)
without_lease ticket until leases =
    filter (λ lease. not ((leased_ticket lease == ticket) && (until_in lease == until))) leases

-- the least moment until which a lease runs
abbrev pub first_until : Named → Option ℕ
first_until leases = least (map until_in (all_pairs leases))

-- the leases that run at most until a moment, in order of ticket
abbrev pub run_out : ℕ → Named → List (ℕ × ℕ)
run_out moment leases =
    in_order (filter (λ lease. not (nat_lt moment (until_in lease))) (all_pairs leases))

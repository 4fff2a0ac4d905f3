-- The least ticket that has a lease under a jid is that of the first row of this jid that a worker has, and so
-- it is beyond a moment.
use Rattle.std.proofs.Common.{◌≡◌, refl, ℕ, List, [], ◌∷◌, Bool, true, false}
use Rattle.std.specs.Prelude.{option_map, filter, find, nat_lt, slice_get, bytes_eq}
use Rattle.fk_model.specs.declared.row.Row.{Row}
use Rattle.fk_model.specs.declared.place.Place.{Place}
use Rattle.fk_model.specs.declared.place.Place.TheVariants.{Queued, Scheduled, Retry, Dead, Working}
use Rattle.fk_model.specs.Rows.{ticket_of, row_of}
use Rattle.fk_model.specs.Orders.{leases, working}
use Rattle.fk_leases.specs.Leases.{leased_ticket, until_in}
use Rattle.fk_core.specs.Lookups.{outlasts}

-- the least ticket is the same in both ways
abbrev FindsTheLeast : List (ℕ × Row) → List ℕ → Type 0
FindsTheLeast rows jid = option_map leased_ticket (slice_get (leases rows jid) 0)
    ≡ option_map ticket_of (find (λ filed. bytes_eq (row_of filed).job.jid jid) (working rows))

one_more : (filed : ℕ × Row) (rows : List (ℕ × Row)) (jid : List ℕ) (place : Place) (same : Bool)
    → (row_of filed).place ≡ place → bytes_eq (row_of filed).job.jid jid ≡ same
    → FindsTheLeast rows jid → FindsTheLeast (filed ∷ rows) jid
one_more filed rows jid (Working wid since until) true at e rest = rw (at, e) refl
one_more filed rows jid (Working wid since until) false at e rest = rw (at, e) rest
one_more filed rows jid (Queued rank) true at e rest = rw (at, e) rest
one_more filed rows jid (Queued rank) false at e rest = rw (at, e) rest
one_more filed rows jid (Scheduled moment) true at e rest = rw (at, e) rest
one_more filed rows jid (Scheduled moment) false at e rest = rw (at, e) rest
one_more filed rows jid (Retry moment) true at e rest = rw (at, e) rest
one_more filed rows jid (Retry moment) false at e rest = rw (at, e) rest
one_more filed rows jid (Dead until) true at e rest = rw (at, e) rest
one_more filed rows jid (Dead until) false at e rest = rw (at, e) rest

pub finds_the_least : (rows : List (ℕ × Row)) (jid : List ℕ) → FindsTheLeast rows jid
finds_the_least [] jid = refl
finds_the_least (filed ∷ rows) jid =
    one_more filed rows jid (row_of filed).place (bytes_eq (row_of filed).job.jid jid) refl refl
    (finds_the_least rows jid)

-- ---- beyond a moment

abbrev FindsBeyond : List (ℕ × Row) → List ℕ → ℕ → Type 0
FindsBeyond rows jid moment = option_map leased_ticket (find (λ lease. nat_lt moment (until_in lease)) (leases rows jid))
    ≡ option_map ticket_of
    (find (λ filed. bytes_eq (row_of filed).job.jid jid) (filter (λ filed. outlasts moment (row_of filed).place) rows))

beyond_more : (filed : ℕ × Row) (rows : List (ℕ × Row)) (jid : List ℕ) (moment : ℕ) (place : Place) (same lasts : Bool)
    → (row_of filed).place ≡ place → bytes_eq (row_of filed).job.jid jid ≡ same → outlasts moment place ≡ lasts
    → FindsBeyond rows jid moment → FindsBeyond (filed ∷ rows) jid moment
beyond_more filed rows jid moment (Working wid since until) true true at e lasts rest = rw (at, lasts, e, lasts) refl
beyond_more filed rows jid moment (Working wid since until) false true at e lasts rest = rw (at, lasts, e) rest
beyond_more filed rows jid moment (Working wid since until) true false at e lasts rest = rw (at, e, lasts) rest
beyond_more filed rows jid moment (Working wid since until) false false at e lasts rest = rw (at, e, lasts) rest
beyond_more filed rows jid moment (Queued rank) true lasts at e is rest = rw (at, e) rest
beyond_more filed rows jid moment (Queued rank) false lasts at e is rest = rw (at, e) rest
beyond_more filed rows jid moment (Scheduled when) true lasts at e is rest = rw (at, e) rest
beyond_more filed rows jid moment (Scheduled when) false lasts at e is rest = rw (at, e) rest
beyond_more filed rows jid moment (Retry when) true lasts at e is rest = rw (at, e) rest
beyond_more filed rows jid moment (Retry when) false lasts at e is rest = rw (at, e) rest
beyond_more filed rows jid moment (Dead until) true lasts at e is rest = rw (at, e) rest
beyond_more filed rows jid moment (Dead until) false lasts at e is rest = rw (at, e) rest

pub finds_beyond : (rows : List (ℕ × Row)) (jid : List ℕ) (moment : ℕ) → FindsBeyond rows jid moment
finds_beyond [] jid moment = refl
finds_beyond (filed ∷ rows) jid moment =
    beyond_more filed rows jid moment (row_of filed).place (bytes_eq (row_of filed).job.jid jid)
    (outlasts moment (row_of filed).place) refl refl refl (finds_beyond rows jid moment)

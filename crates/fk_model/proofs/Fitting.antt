-- Moves that fit keep what holds of a kept state: order and spelling stay, and the ranks of a queue
-- stay distinct.
use Rattle.std.proofs.Common.{◌≡◌, ◌∙◌, sym, refl, ℕ, ◌<◌, List, [], ◌∷◌, ◌++◌, Bool, true, false, map}
use Rattle.std.specs.Prelude.{All, if◌then◌else◌, Option, None, Some, IfSome, bytes_eq}
use Rattle.std.specs.List.Sorted.{IsStrictlyIncreasing}
use Rattle.std.proofs.lemmas.Slice.Eq.{bytes_eq-Decides}
use Rattle.fk_model.specs.declared.row.Row.{Row}
use Rattle.fk_model.specs.declared.place.Place.{Place}
use Rattle.fk_model.specs.declared.place.Place.TheVariants.{Queued, Scheduled, Retry, Dead, Working}
use Rattle.fk_model.specs.declared.move_.Move.TheVariants.{Add}
use Rattle.fk_model.specs.Rows.{ticket_of, row_of, IsByTicket, row_at, with_row, with_changed}
use Rattle.fk_model.specs.State.{KeptState}
use Rattle.fk_model.specs.Orders.{number_in, rank_of, rank_in, queue}
use Rattle.fk_model.specs.Spellings.{IsWord, HasSpelling}
use Rattle.fk_model.specs.Changes.{ComesLast}
use Rattle.fk_model.proofs.Rising.{rising_more}
use Rattle.fk_model.proofs.Ends.{rising_without}
use Rattle.fk_model.proofs.Queues.{queue_appends, queue_stays, queue_left, queue_joined, queue_unchanged}

-- what holds of a kept state whatever its next number is
pub record IsSound (kept : KeptState) : Type 0 where
  pub by_ticket : IsByTicket kept.rows
  pub distinct : (name : List ℕ) → IsStrictlyIncreasing (map number_in (queue kept.rows name))
  pub spelled : All (λ filed. HasSpelling (Add (ticket_of filed) (row_of filed))) kept.rows
  pub processed : IsWord kept.processed
  pub failures : IsWord kept.failures

-- ---- the ranks of a queue

-- a rank, if there is one, is above all of a queue
abbrev pub IsLast : List (ℕ × Row) → List ℕ → Option ℕ → Type 0
IsLast rows name given = IfSome given (λ rank. All (λ pair. number_in pair < rank) (queue rows name))

rising_appended : (rows : List (ℕ × Row)) (ticket : ℕ) (name : List ℕ) (rank : ℕ)
    (pairs : List (ℕ × ℕ)) → pairs ≡ queue rows name ++ (rank, ticket) ∷ []
    → IsStrictlyIncreasing (map number_in (queue rows name))
    → All (λ pair. number_in pair < rank) (queue rows name)
    → IsStrictlyIncreasing (map number_in pairs)
rising_appended rows ticket name rank pairs appended rising lower =
    rw appended (rising_more number_in (queue rows name) (rank, ticket) rising lower)

-- a new row that comes last
pub rising_new : (rows : List (ℕ × Row)) (ticket : ℕ) (row : Row) (name : List ℕ) (given : Option ℕ)
    → IsByTicket rows → row_at rows ticket ≡ None → rank_in name row ≡ given
    → IsLast rows name given
    → IsStrictlyIncreasing (map number_in (queue rows name))
    → IsStrictlyIncreasing (map number_in (queue (with_row rows ticket row) name))
rising_new rows ticket row name None by_ticket none at last rising =
    rw (queue_stays rows ticket row name by_ticket none at) rising
rising_new rows ticket row name (Some rank) by_ticket none at last rising =
    rising_appended rows ticket name rank (queue (with_row rows ticket row) name)
    (queue_appends rows ticket row name rank by_ticket none at last) rising last

-- a row that wasn't queued, and comes last where it goes
pub rising_joined : (rows : List (ℕ × Row)) (ticket : ℕ) (change : Row → Row) (row : Row)
    (name : List ℕ) (given : Option ℕ) → IsByTicket rows → row_at rows ticket ≡ Some row
    → rank_in name row ≡ None → rank_in name (change row) ≡ given → IsLast rows name given
    → IsStrictlyIncreasing (map number_in (queue rows name))
    → IsStrictlyIncreasing (map number_in (queue (with_changed rows ticket change) name))
rising_joined rows ticket change row name None by_ticket at had has last rising =
    rw (queue_unchanged rows ticket change row name by_ticket at (has ∙ sym had)) rising
rising_joined rows ticket change row name (Some rank) by_ticket at had has last rising =
    rising_appended rows ticket name rank (queue (with_changed rows ticket change) name)
    (queue_joined rows ticket change row name rank by_ticket at had has last) rising last

-- a row that is queued nowhere from then on
pub rising_left : (rows : List (ℕ × Row)) (ticket : ℕ) (change : Row → Row) (row : Row)
    (name : List ℕ) → IsByTicket rows → row_at rows ticket ≡ Some row
    → rank_in name (change row) ≡ None
    → IsStrictlyIncreasing (map number_in (queue rows name))
    → IsStrictlyIncreasing (map number_in (queue (with_changed rows ticket change) name))
rising_left rows ticket change row name by_ticket at none rising =
    rw (queue_left rows ticket change row name by_ticket at none)
    (rising_without (rank_in name) rows ticket rising)

-- ---- a place that comes last

last_if : (kept : KeptState) (own name : List ℕ) (place : Place) (test : Bool)
    → bytes_eq own name ≡ test → ComesLast kept own place
    → IsLast kept.rows name (if test then rank_of place else None)
last_if kept own name (Queued rank) true same last =
    let here : own ≡ name = (bytes_eq-Decides own name).0 same in
    rw here at last
last_if kept own name (Scheduled at) true same last = tt
last_if kept own name (Retry at) true same last = tt
last_if kept own name (Dead until) true same last = tt
last_if kept own name (Working wid since until) true same last = tt
last_if kept own name place false same last = tt

-- a place that is behind all others of its queue is last in each
pub comes_last : (kept : KeptState) (row : Row) (name : List ℕ)
    → ComesLast kept row.job.queue row.place → IsLast kept.rows name (rank_in name row)
comes_last kept row name last =
    last_if kept row.job.queue name row.place (bytes_eq row.job.queue name) refl last

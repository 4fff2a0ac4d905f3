-- A move that fits: its row may leave where it is, and enter where it goes.
use Rattle.std.proofs.Common.{◌≡◌, refl, ℕ, ◌<◌, ◌≤◌, ◌-◌, List, [], ◌∷◌, Bool, true, false, length, arith}
use Rattle.std.specs.Prelude.{IfSome, IsTrue, IsSomeAnd, Option, None, Some, option_map, slice_get, if◌then◌else◌, bytes_eq}
use Rattle.std.proofs.lemmas.List.Sums.{length-filter, count_by-le-length}
use Rattle.std.proofs.lemmas.List.Elements.{All-filter, All-weaker}
use Rattle.std.proofs.lemmas.Slice.Eq.{bytes_eq-Decides}
use Rattle.fk_job.specs.declared.failure.Failure.{Failure}
use Rattle.fk_model.specs.declared.row.Row.{Row}
use Rattle.fk_model.specs.declared.place.Place.{Place}
use Rattle.fk_model.specs.declared.place.Place.TheVariants.{Queued, Scheduled, Retry, Dead, Working}
use Rattle.fk_model.specs.declared.move_.Move.TheVariants.{Add, Drop}
use Rattle.fk_model.specs.State.{KeptState}
use Rattle.fk_model.specs.Limits.{greatest_next}
use Rattle.fk_model.specs.Rows.{ticket_of, row_of, row_at, without_row}
use Rattle.fk_model.specs.Orders.{number_in, ticket_in, rank_of, rank_in, is_queued, is_working, queue}
use Rattle.fk_model.specs.Between.{IsAboveAll}
use Rattle.fk_model.specs.Changes.{put_row, MayGo, Fits}
use Rattle.fk_model.proofs.Ends.{is_of_other}
use Rattle.fk_model.proofs.Queues.{unranked, queue_without}
use Rattle.fk_model.proofs.Fitting.{IsLast, comes_last}
use Rattle.fk_model.proofs.SoundMoves.{no_rank}
use Rattle.fk_core.specs.declared.tables.Tables.TheInside.{Inside}
use Rattle.fk_core.specs.Held.{Held}
use Rattle.fk_core.specs.Index.{Index, MayLeave}
use Rattle.fk_core.specs.Reserved.{waits_in, is_leased_under, stands_in, Reserved}
use Rattle.fk_core.specs.Tied.{IsNotBelow, AreTied}
use Rattle.fk_core.proofs.RoomLeft.{count_first}
use Rattle.fk_core.proofs.MovesMade.{held_in}
use Rattle.fk_core.proofs.RowEnters.{MayCome}

-- ---- how many rows workers have

-- no more than there are rows
pub working_within : (rows : List (ℕ × Row)) (index : Index) (next : ℕ) → AreTied rows index next
    → index.working ≤ length rows
working_within rows index next tied =
    let works = λ (filed : ℕ × Row). is_working (row_of filed).place in
    rw (tied.working, length-filter works rows) (count_by-le-length works rows)

-- ---- the numbers

rank_below : (given : Option ℕ) (next : ℕ) → IfSome given (λ rank. rank < next)
    → IfSome given (λ rank. rank ≤ next - 1)
rank_below None next below = tt
rank_below (Some rank) next below = omega (arith, below)

-- no ticket and no rank is above the number before one that is above all
not_below : (rows : List (ℕ × Row)) (next : ℕ) → IsAboveAll next rows → IsNotBelow (next - 1) rows
not_below rows next above = record {
  tickets = All-weaker (λ filed. ticket_of filed < next) (λ filed. ticket_of filed ≤ next - 1)
      (λ filed below. omega (arith, below)) rows above.tickets;
  ranks = All-weaker (λ filed. IfSome (rank_of (row_of filed).place) (λ rank. rank < next))
      (λ filed. IfSome (rank_of (row_of filed).place) (λ rank. rank ≤ next - 1))
      (λ filed. rank_below (rank_of (row_of filed).place) next) rows above.ranks;
}

-- the tables are tied with a next number that is within its limit and above all
pub renumbered : (rows : List (ℕ × Row)) (before after : Index) (next to : ℕ) → AreTied rows before next
    → to ≤ greatest_next → IsAboveAll to rows → after ≡ record before { greatest = to - 1 }
    → AreTied rows after to
renumbered rows before after next to tied within above changed = rw changed (record {
  by_ticket = tied.by_ticket;
  spelled = tied.spelled;
  queues = tied.queues;
  distinct = tied.distinct;
  leases = tied.leases;
  sets = tied.sets;
  working = tied.working;
  greatest = not_below rows to above;
  within = within;
})

-- ---- a row less

pub some_row : (found : Option Row) (P : Row → Type 0) → IsSomeAnd found P
    → (row : Row) × (found ≡ Some row) × P row
some_row None P holds = absurd holds
some_row (Some row) P holds = (row, refl, holds)

-- a Drop that fits is one of a row that stands there and waits nowhere
pub drop_of : (tables : Inside) (before : Held) (ticket : ℕ) → held_in tables ≡ before
    → Fits before.kept (Drop ticket)
    → (row : Row) × (row_at tables.rows.items ticket ≡ Some row) × (¬ IsTrue (is_queued row.place))
drop_of tables before ticket same fits =
    let fitted = rw (← same) at fits in
    some_row (row_at tables.rows.items ticket) (λ row. ¬ IsTrue (is_queued row.place)) fitted.allowed

-- ---- a new row

pub add_comes : (tables : Inside) (before : Held) (ticket : ℕ) (row : Row) → held_in tables ≡ before
    → Fits before.kept (Add ticket row) → Reserved before (Add ticket row ∷ [])
    → MayCome tables.rows.items tables.index ticket row
add_comes tables before ticket row same fits reserved =
    let fitted = rw (← same) at fits in
    let room = rw (← same) at reserved in
    record {
      absent = fitted.allowed.0;
      last = λ name. comes_last (held_in tables).kept row name fitted.allowed.1;
      queues = λ name. omega (
        arith,
        room.queues name,
        count_first (waits_in name) tables.rows.items (Add ticket row) [],
      );
      leases = λ jid. omega (
        arith,
        room.leases jid,
        count_first (is_leased_under jid) tables.rows.items (Add ticket row) [],
      );
      sets = λ target. omega (
        arith,
        room.sets target,
        count_first (stands_in target) tables.rows.items (Add ticket row) [],
      );
    }

-- ---- a row that leaves

first_if : (rows : List (ℕ × Row)) (own name : List ℕ) (ticket : ℕ) (given : Option ℕ) (test : Bool)
    → bytes_eq own name ≡ test
    → option_map ticket_in (slice_get (queue rows own) 0) ≡ Some ticket
    → IfSome (option_map (λ rank. (rank, ticket)) (if test then given else None))
    (λ (pair : ℕ × ℕ). option_map ticket_in (slice_get (queue rows name) 0) ≡ Some ticket)
first_if rows own name ticket None true same first = tt
first_if rows own name ticket (Some rank) true same first =
    let here : own ≡ name = (bytes_eq-Decides own name).0 same in rw (← here) first
first_if rows own name ticket given false same first = tt

-- the first of its queue may leave
pub first_leaves_it : (rows : List (ℕ × Row)) (index : Index) (next ticket : ℕ) (row : Row)
    → AreTied rows index next
    → option_map ticket_in (slice_get (queue rows row.job.queue) 0) ≡ Some ticket
    → MayLeave index ticket row
first_leaves_it rows index next ticket row tied first name =
    rw (tied.queues name)
    (first_if rows row.job.queue name ticket (rank_of row.place) (bytes_eq row.job.queue name) refl first)

-- a row that waits nowhere may leave
pub unqueued_leaves : (index : Index) (ticket : ℕ) (row : Row) → ¬ IsTrue (is_queued row.place)
    → MayLeave index ticket row
unqueued_leaves index ticket row not_queued name =
    rw (unranked name row (no_rank row.place not_queued)) tt

pub put_leaves : (kept : KeptState) (index : Index) (next ticket : ℕ) (row : Row) (place : Place)
    → AreTied kept.rows index next → MayGo kept ticket row place → MayLeave index ticket row
put_leaves kept index next ticket row (Working wid since until) tied goes =
    first_leaves_it kept.rows index next ticket row tied goes
put_leaves kept index next ticket row (Queued rank) tied goes = unqueued_leaves index ticket row goes.0
put_leaves kept index next ticket row (Scheduled at) tied goes = unqueued_leaves index ticket row goes.0
put_leaves kept index next ticket row (Retry at) tied goes = unqueued_leaves index ticket row goes.0
put_leaves kept index next ticket row (Dead until) tied goes = unqueued_leaves index ticket row goes.0

-- ---- where a Put may put a row

pub last_less : (rows : List (ℕ × Row)) (ticket : ℕ) (name : List ℕ) (given : Option ℕ)
    → IsLast rows name given → IsLast (without_row rows ticket) name given
last_less rows ticket name None last = tt
last_less rows ticket name (Some rank) last =
    rw (queue_without rows ticket name)
    (All-filter (is_of_other ticket) (λ pair. number_in pair < rank) (queue rows name) last)

-- it is behind all others of its queue, or waits in none
pub goes_last : (kept : KeptState) (ticket : ℕ) (enqueued : Option ℕ) (failure : Option Failure) (place : Place)
    (row : Row) → MayGo kept ticket row place → (name : List ℕ)
    → IsLast kept.rows name (rank_in name (put_row enqueued failure place row))
goes_last kept ticket enqueued failure (Working wid since until) row goes name =
    rw (unranked name (put_row enqueued failure (Working wid since until) row) refl) tt
goes_last kept ticket enqueued failure (Queued rank) row goes name =
    comes_last kept (put_row enqueued failure (Queued rank) row) name goes.1
goes_last kept ticket enqueued failure (Scheduled at) row goes name =
    rw (unranked name (put_row enqueued failure (Scheduled at) row) refl) tt
goes_last kept ticket enqueued failure (Retry at) row goes name =
    rw (unranked name (put_row enqueued failure (Retry at) row) refl) tt
goes_last kept ticket enqueued failure (Dead until) row goes name =
    rw (unranked name (put_row enqueued failure (Dead until) row) refl) tt

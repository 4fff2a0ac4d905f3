-- What a request makes of a row that a worker has, and of one that rests: the first stays up to the end of its
-- reservation, and no worker has the other behind it.
use Rattle.std.proofs.Common.{◌≡◌, ◌∙◌, refl, ℕ, ◌<◌, List, [], ◌∷◌, Bool, true, false, arith}
use Rattle.std.specs.Prelude.{Option, None, Some, IfSome, IsSome, option_and_then, ◌==◌}
use Rattle.std.specs.Option.{option_map_or}
use Rattle.std.proofs.lemmas.Option.{IfSome_then}
use Rattle.std.proofs.lemmas.Bool.{false≢true}
use Rattle.fk_model.specs.declared.row.Row.{Row}
use Rattle.fk_model.specs.declared.place.Place.{Place}
use Rattle.fk_model.specs.declared.ask.Ask.{Ask}
use Rattle.fk_model.specs.declared.ask.Ask.TheVariants.{Push, PushBatch, Fetch, Ack, Fail, Flush, Mutate}
use Rattle.fk_model.specs.Rows.{ticket_of, row_of, row_at}
use Rattle.fk_model.specs.State.{KeptState, State}
use Rattle.fk_model.specs.Orders.{rank_of, is_working, leased}
use Rattle.fk_model.specs.Failing.{Reason, failed_row}
use Rattle.fk_model.specs.Requests.{fetched, finished}
use Rattle.fk_model.specs.Mutated.{taken}
use Rattle.fk_model.specs.Said.{said}
use Rattle.fk_model.specs.ReservationEnds.{ReservationEnd, acknowledged, failed, ended_if, reservation_ended_of, reservation_ended_by_ask}
use Rattle.fk_model.proofs.Tickets.{row_holds}
use Rattle.fk_model.proofs.Orderly.{IsOrderly}
use Rattle.fk_model.proofs.Waiting.{leased_is}
use Rattle.fk_model.proofs.Requested.{fetched_is}
use Rattle.fk_model.proofs.Outcomes.{outcome_here}
use Rattle.fk_model.proofs.OfSets.{taken_are}
use Rattle.fk_model.proofs.Mutating.{are_mutated}
use Rattle.fk_model.proofs.EndsByTime.{IsAtRest, failed_rests}
use Rattle.fk_model.proofs.Asked.{lower_apart, pushes_at, fetch_at, is_of, ack_at, after_fail, fail_at}
use Rattle.fk_model.proofs.FirstUnder.{first_is_leased}
use Rattle.fk_model.proofs.Taken.{taken_idle, mutate_at}
use Rattle.std.proofs.lemmas.Bool.Decides.{nat_tests}
use Rattle.fk_model.specs.declared.place.Place.TheVariants.{Queued, Scheduled, Retry, Dead, Working}
use Rattle.fk_model.specs.Failing.{with_outcome}

-- no worker has a row
abbrev pub IsIdle : Row → Type 0
IsIdle row = is_working row.place ≡ false

-- ---- a row that a worker has

-- the row is as it was while its reservation goes on
abbrev pub Goes : Option ReservationEnd → Row → Option Row → Type 0
Goes None row becomes = becomes ≡ Some row
Goes (Some end) row becomes = Unit {0}

waits_not : (row : Row) (rank : ℕ) → rank_of row.place ≡ Some rank → is_working row.place ≡ true → ⊥
waits_not row rank waits works = by_place row.place rank waits works
  where
    by_place : (place : Place) (rank : ℕ) → rank_of place ≡ Some rank → is_working place ≡ true → ⊥
    by_place (Queued own) rank waits works = absurd (cc)
    by_place (Scheduled at) rank waits works = absurd (cc)
    by_place (Retry at) rank waits works = absurd (cc)
    by_place (Dead until) rank waits works = absurd (cc)
    by_place (Working wid since until) rank waits works = absurd (cc)

asked_goes : (s : State) (ask : Ask) (moment word ticket : ℕ) (row : Row) → IsOrderly s.kept
    → row_at s.kept.rows ticket ≡ Some row → is_working row.place ≡ true
    → Goes (reservation_ended_of ask s.kept.rows ticket row) row
    (row_at (said s ask moment word).state.kept.rows ticket)
unfolding said
asked_goes s (Push job) moment word ticket row well at works =
    let lower = row_holds (λ x. ticket_of x < s.kept.next) s.kept.rows ticket row well.above.tickets at in
    pushes_at moment (job ∷ []) s.kept ticket well.by_ticket (lower_apart s.kept.next ticket (job ∷ []) lower) ∙ at
asked_goes s (PushBatch jobs told) moment word ticket row well at works =
    let lower = row_holds (λ x. ticket_of x < s.kept.next) s.kept.rows ticket row well.above.tickets at in
    pushes_at moment jobs s.kept ticket well.by_ticket (lower_apart s.kept.next ticket jobs lower) ∙ at
asked_goes s (Fetch wid queues) moment word ticket row well at works =
    fetch_at (λ becomes. becomes ≡ Some row) s moment wid (fetched s wid queues) ticket row well at
    (λ filed found. fetched_is s wid queues filed well found)
    (λ rank waits. absurd (waits_not row rank waits works)) refl
asked_goes s (Ack jid) moment word ticket row well at works =
    rw (first_is_leased s.kept jid ticket row well.by_ticket at)
    (ack_at (λ so becomes. Goes (ended_if acknowledged so) row becomes) s.kept (leased s.kept jid) ticket row
    well.by_ticket at tt refl)
asked_goes s (Fail jid errtype message backtrace) moment word ticket row well at works =
    rw (first_is_leased s.kept jid ticket row well.by_ticket at)
    (fail_at (λ so becomes. Goes (ended_if failed so) row becomes) s
    (record { errtype = errtype; message = message; backtrace = backtrace }) moment word (leased s.kept jid) ticket
    row well.by_ticket at (λ filed found. leased_is s.kept jid filed well.by_ticket found) (λ filed same. tt) refl)
asked_goes s Flush moment word ticket row well at works = rw works tt
asked_goes s (Mutate cmd target filter) moment word ticket row well at works =
    let idle = taken_idle cmd target filter moment s.kept.next s.kept well in
    mutate_at (λ so filed becomes. is_working (row_of filed).place ≡ true → becomes ≡ Some (row_of filed)) cmd target
    filter moment s.kept ticket row well at
    (λ k d within there. let none = idle k d within in absurd (cc)) (λ there. refl) works
asked_goes s other moment word ticket row well at works = at

pub said_goes : (s : State) (ask : Ask) (moment word ticket : ℕ) (row : Row) → IsOrderly s.kept
    → row_at s.kept.rows ticket ≡ Some row → is_working row.place ≡ true
    → Goes (reservation_ended_by_ask s.kept ask ticket) row (row_at (said s ask moment word).state.kept.rows ticket)
said_goes s ask moment word ticket row well at works = rw at (asked_goes s ask moment word ticket row well at works)

-- ---- a row that no worker has, and that waits in no queue

-- no worker has a row whose job failed
pub failed_idle : (reason : Reason) (moment word : ℕ) (filed : ℕ × Row)
    → IfSome (failed_row reason moment word filed) IsIdle
failed_idle reason moment word filed =
    IfSome_then (failed_row reason moment word filed) (failed_rests reason moment word filed)
    (λ row rests. rests.idle)

pub said_rests : (s : State) (ask : Ask) (moment word ticket : ℕ) (row : Row) → IsOrderly s.kept
    → row_at s.kept.rows ticket ≡ Some row → IsAtRest row
    → IfSome (row_at (said s ask moment word).state.kept.rows ticket) IsIdle
unfolding said
said_rests s (Push job) moment word ticket row well at rests =
    let lower = row_holds (λ x. ticket_of x < s.kept.next) s.kept.rows ticket row well.above.tickets at in
    rw (
      pushes_at moment (job ∷ []) s.kept ticket well.by_ticket
          (lower_apart s.kept.next ticket (job ∷ []) lower),
      at,
    ) rests.idle
said_rests s (PushBatch jobs told) moment word ticket row well at rests =
    let lower = row_holds (λ x. ticket_of x < s.kept.next) s.kept.rows ticket row well.above.tickets at in
    rw (pushes_at moment jobs s.kept ticket well.by_ticket (lower_apart s.kept.next ticket jobs lower), at)
    rests.idle
said_rests s (Fetch wid queues) moment word ticket row well at rests =
    fetch_at (λ becomes. IfSome becomes IsIdle) s moment wid (fetched s wid queues) ticket row well at
    (λ filed found. fetched_is s wid queues filed well found)
    (λ rank waits. let none = rests.unranked in absurd (cc)) rests.idle
said_rests s (Ack jid) moment word ticket row well at rests =
    ack_at (λ so becomes. IfSome becomes IsIdle) s.kept (leased s.kept jid) ticket row well.by_ticket at tt rests.idle
said_rests s (Fail jid errtype message backtrace) moment word ticket row well at rests =
    fail_at (λ so becomes. IfSome becomes IsIdle) s
    (record { errtype = errtype; message = message; backtrace = backtrace }) moment word (leased s.kept jid) ticket row
    well.by_ticket at (λ filed found. leased_is s.kept jid filed well.by_ticket found)
    (λ filed same. failed_idle (record { errtype = errtype; message = message; backtrace = backtrace }) moment word
    filed) rests.idle
said_rests s Flush moment word ticket row well at rests = tt
said_rests s (Mutate cmd target filter) moment word ticket row well at rests =
    let rows = taken cmd target filter s.kept in
    let are = are_mutated cmd moment s.kept rows well (taken_are cmd target filter s.kept well.by_ticket) in
    mutate_at (λ so filed becomes. is_working (row_of filed).place ≡ false → IfSome becomes IsIdle) cmd target filter
    moment s.kept ticket row well at (λ k d within idle. (are.lawful k d within).idle) (λ idle. idle) rests.idle
said_rests s other moment word ticket row well at rests = rw at rests.idle

-- ---- a request that ends a reservation

one_over : (end : ReservationEnd) (rows : List (ℕ × Row)) (filed : ℕ × Row) (becomes : Option Row) (ticket : ℕ)
    (test : Bool) → (ticket_of filed == ticket) ≡ test → IsSome (ended_if end test) → IfSome becomes IsIdle
    → IfSome (row_at (with_outcome rows (ticket_of filed) becomes) ticket) IsIdle
one_over end rows filed becomes ticket true e some idle =
    let same : ticket_of filed ≡ ticket = grind (arith, nat_tests, e) in
    let there : row_at (with_outcome rows (ticket_of filed) becomes) ticket ≡ becomes =
    rw (← same) (outcome_here rows (ticket_of filed) becomes) in
    rw there idle
one_over end rows filed becomes ticket false e some idle = absurd (false≢true some)

ack_over : (kept : KeptState) (found : Option (ℕ × Row)) (ticket : ℕ) → IsSome (ended_if acknowledged (is_of ticket found))
    → IfSome (row_at (option_map_or (finished kept) found kept).rows ticket) IsIdle
ack_over kept None ticket some = absurd (false≢true some)
ack_over kept (Some filed) ticket some =
    one_over acknowledged kept.rows filed None ticket (ticket_of filed == ticket) refl some tt

fail_over : (s : State) (reason : Reason) (moment word : ℕ) (found : Option (ℕ × Row)) (ticket : ℕ)
    → IsSome (ended_if failed (is_of ticket found))
    → IfSome (row_at (after_fail s reason moment word found).rows ticket) IsIdle
fail_over s reason moment word None ticket some = absurd (false≢true some)
fail_over s reason moment word (Some filed) ticket some =
    one_over failed s.kept.rows filed (failed_row reason moment word filed) ticket (ticket_of filed == ticket) refl
    some (failed_idle reason moment word filed)

asked_over : (s : State) (ask : Ask) (moment word ticket : ℕ) (row : Row) → IsOrderly s.kept
    → row_at s.kept.rows ticket ≡ Some row → IsSome (reservation_ended_of ask s.kept.rows ticket row)
    → IfSome (row_at (said s ask moment word).state.kept.rows ticket) IsIdle
unfolding said
asked_over s (Ack jid) moment word ticket row well at some =
    ack_over s.kept (leased s.kept jid) ticket
    (rw (← first_is_leased s.kept jid ticket row well.by_ticket at) some)
asked_over s (Fail jid errtype message backtrace) moment word ticket row well at some =
    fail_over s (record { errtype = errtype; message = message; backtrace = backtrace }) moment word
    (leased s.kept jid) ticket (rw (← first_is_leased s.kept jid ticket row well.by_ticket at) some)
asked_over s Flush moment word ticket row well at some = tt
asked_over s other moment word ticket row well at some = absurd (false≢true some)

found_over : (s : State) (ask : Ask) (moment word ticket : ℕ) (found : Option Row) → IsOrderly s.kept
    → row_at s.kept.rows ticket ≡ found
    → IsSome (option_and_then (reservation_ended_of ask s.kept.rows ticket) found)
    → IfSome (row_at (said s ask moment word).state.kept.rows ticket) IsIdle
found_over s ask moment word ticket None well at some = absurd (false≢true some)
found_over s ask moment word ticket (Some row) well at some = asked_over s ask moment word ticket row well at some

pub said_over : (s : State) (ask : Ask) (moment word ticket : ℕ) → IsOrderly s.kept
    → IsSome (reservation_ended_by_ask s.kept ask ticket)
    → IfSome (row_at (said s ask moment word).state.kept.rows ticket) IsIdle
said_over s ask moment word ticket well some =
    found_over s ask moment word ticket (row_at s.kept.rows ticket) well refl some

-- A row that a FETCH gives has its place behind it, and its reservation stands from there on.
use Rattle.std.proofs.Common.{◌≡◌, ap, refl, ℕ, List, [], ◌∷◌, ◌++◌, true}
use Rattle.std.specs.Prelude.{Option, None, Some, option_map}
use Rattle.std.proofs.lemmas.List.Sums.{fold-append}
use Rattle.std.proofs.lemmas.Option.{same_Some}
use Rattle.fk_model.specs.declared.row.Row.{Row}
use Rattle.fk_model.specs.declared.place.Place.{Place}
use Rattle.fk_model.specs.declared.ask.Ask.{Ask}
use Rattle.fk_model.specs.declared.ask.Ask.TheVariants.{Fetch}
use Rattle.fk_model.specs.declared.answer.Answer.{Answer}
use Rattle.fk_model.specs.declared.answer.Answer.TheVariants.{Said}
use Rattle.fk_model.specs.declared.entry.Entry.{Entry}
use Rattle.fk_model.specs.Rows.{ticket_of, row_of, row_at}
use Rattle.fk_model.specs.State.{State}
use Rattle.fk_model.specs.Orders.{is_working}
use Rattle.fk_model.specs.Between.{IsWellKept, IsBetweenTurns}
use Rattle.fk_model.specs.Requests.{fetched, reserved_row}
use Rattle.fk_model.specs.Said.{said}
use Rattle.fk_model.specs.Turns.{turn, up_to_date}
use Rattle.fk_model.specs.History.{left_by, next_state, state_after, faults_after, IsLegalFrom}
use Rattle.fk_model.specs.ReservationEnds.{ReservationStands, reservation_ended}
use Rattle.fk_model.specs.Given.{given_to, given_by}
use Rattle.fk_model.proofs.Lookups.{row_at_changed}
use Rattle.fk_model.proofs.Orderly.{IsOrderly}
use Rattle.fk_model.proofs.Waiting.{IsFirstRow}
use Rattle.fk_model.proofs.Requested.{fetched_is, after_fetch}
use Rattle.fk_model.proofs.UpToDate.{up_orderly}
use Rattle.fk_model.proofs.BetweenTurns.{next_keeps}
use Rattle.fk_model.proofs.BetweenTurns.{beginnings_keep}
use Rattle.fk_model.proofs.Histories.{legal_goes_on}
use Rattle.fk_model.proofs.Reservations.{HasPlaceAt, history_stands}

-- the row of a ticket has this place, and a worker has it
record IsGiven (rows : List (ℕ × Row)) (ticket : ℕ) (place : Place) : Type 0 where
  pub works : is_working place ≡ true
  pub there : HasPlaceAt rows ticket place

fetch_given : (s : State) (moment : ℕ) (wid : List ℕ) (found : Option (ℕ × Row)) (ticket : ℕ) (place : Place)
    → IsOrderly s.kept → ((filed : ℕ × Row) → found ≡ Some filed → IsFirstRow s.kept filed)
    → option_map {U = ℕ × Place}
    (λ (filed : ℕ × Row). (ticket_of filed, (reserved_row moment wid (row_of filed)).place)) found
    ≡ Some (ticket, place)
    → IsGiven (after_fetch s moment wid found).kept.rows ticket place
fetch_given s moment wid None ticket place well first e = absurd (cc)
fetch_given s moment wid (Some filed) ticket place well first e =
    let given = (reserved_row moment wid (row_of filed)).place in
    let same : (ticket_of filed, given) ≡ (ticket, place) = same_Some (ticket_of filed, given) (ticket, place) e in
    let here : ticket_of filed ≡ ticket = ap (λ (x : ℕ × Place). x.0) same in
    let stands : given ≡ place = ap (λ (x : ℕ × Place). x.1) same in
    record {
      works = rw (← stands) refl;
      there = rw (← stands, ← here)
          (rw (
            row_at_changed s.kept.rows (ticket_of filed) (reserved_row moment wid) well.by_ticket,
            (first filed refl).stands,
          ) refl);
    }

said_given : (s : State) (wid : List ℕ) (queues : List (List ℕ)) (moment word ticket : ℕ) (place : Place)
    → IsOrderly s.kept → given_to s moment wid queues ≡ Some (ticket, place)
    → IsGiven (said s (Fetch wid queues) moment word).state.kept.rows ticket place
unfolding said
said_given s wid queues moment word ticket place well e =
    fetch_given s moment wid (fetched s wid queues) ticket place well
    (λ filed found. fetched_is s wid queues filed well found) e

left_given : (s : State) (entry : Entry) (answer : Answer) (ask : Ask) (ticket : ℕ) (place : Place)
    → IsWellKept s.kept → given_by s entry answer ask ≡ Some (ticket, place)
    → IsGiven (left_by answer s (turn s ask entry.told.moment entry.told.word)).kept.rows ticket place
left_given s entry (Said reply) (Fetch wid queues) ticket place well e =
    let moment = entry.told.moment in
    let word = entry.told.word in
    said_given (up_to_date s moment word) wid queues moment word ticket place (up_orderly s.kept moment word well) e
left_given s entry answer ask ticket place well e = absurd (cc)

next_given : (s : State) (entry : Entry) (ticket : ℕ) (place : Place) → IsWellKept s.kept
    → given_by s entry entry.answer entry.ask ≡ Some (ticket, place)
    → IsGiven (next_state s entry).kept.rows ticket place
unfolding next_state
next_given s entry ticket place well e = left_given s entry entry.answer entry.ask ticket place well e

from_fetch : (s : State) (n : ℕ) (entry : Entry) (later : List Entry) (ticket : ℕ) (place : Place)
    → IsBetweenTurns s → IsLegalFrom s n (entry ∷ later)
    → given_by s entry entry.answer entry.ask ≡ Some (ticket, place)
    → ReservationStands (reservation_ended (next_state s entry) later ticket) place
    (row_at (state_after (next_state s entry) later).kept.rows ticket)
unfolding IsLegalFrom
from_fetch s n entry later ticket place ready legal e =
    let is = next_given s entry ticket place ready.kept e in
    history_stands (next_state s entry) entry.told.after later ticket place (next_keeps s entry ready legal.0) legal.2
    is.works is.there

pub reservations_stand : (s : State) (n : ℕ) (before later : List Entry) (entry : Entry) (ticket : ℕ) (place : Place)
    → IsBetweenTurns s → IsLegalFrom s n (before ++ entry ∷ later)
    → given_by (state_after s before) entry entry.answer entry.ask ≡ Some (ticket, place)
    → ReservationStands (reservation_ended (state_after s (before ++ entry ∷ [])) later ticket) place
    (row_at (state_after s (before ++ entry ∷ later)).kept.rows ticket)
reservations_stand s n before later entry ticket place ready legal e =
    rw (fold-append next_state s before (entry ∷ []), fold-append next_state s before (entry ∷ later))
    (from_fetch (state_after s before) (faults_after n before) entry later ticket place
    (beginnings_keep s n before (entry ∷ later) ready legal)
    ((legal_goes_on s n before (entry ∷ later)).0 legal).1 e)

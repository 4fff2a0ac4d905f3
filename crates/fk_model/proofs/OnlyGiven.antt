-- No worker has a row but by a FETCH, and a FETCH gives none that a worker has.
use Rattle.std.proofs.Common.{◌≡◌, ◌⊎◌, ap, refl, ℕ, List, [], ◌∷◌, ◌++◌, true, false, inl, inr}
use Rattle.std.specs.Prelude.{All, Option, None, Some, IsSomeAnd, option_map}
use Rattle.std.proofs.lemmas.Option.{same_Some}
use Rattle.std.proofs.lemmas.List.Sums.{fold-append}
use Rattle.std.proofs.lemmas.List.Elements.{All-weaker}
use Rattle.fk_model.specs.declared.row.Row.{Row}
use Rattle.fk_model.specs.declared.place.Place.{Place}
use Rattle.fk_model.specs.declared.place.Place.TheVariants.{Queued, Scheduled, Retry, Dead, Working}
use Rattle.fk_model.specs.declared.ask.Ask.{Ask}
use Rattle.fk_model.specs.declared.ask.Ask.TheVariants.{Fetch}
use Rattle.fk_model.specs.declared.answer.Answer.{Answer}
use Rattle.fk_model.specs.declared.answer.Answer.TheVariants.{Said, NoMemory, Full, DiskFault}
use Rattle.fk_model.specs.declared.entry.Entry.{Entry}
use Rattle.fk_model.specs.Rows.{ticket_of, row_of, IsByTicket, filed_at, row_at}
use Rattle.fk_model.specs.State.{KeptState, State}
use Rattle.fk_model.specs.Orders.{rank_of, is_working}
use Rattle.fk_model.specs.Between.{IsWellKept, IsBetweenTurns}
use Rattle.fk_model.specs.Requests.{fetched, reserved_row}
use Rattle.fk_model.specs.Turns.{turn, up_to_date}
use Rattle.fk_model.specs.History.{left_by, next_state, state_after, IsLegalFrom}
use Rattle.fk_model.specs.Given.{up_for, given_by}
use Rattle.fk_model.proofs.Tickets.{row_holds}
use Rattle.fk_model.proofs.Standing.{each_found}
use Rattle.fk_model.proofs.Waiting.{IsFirstRow}
use Rattle.fk_model.proofs.Requested.{fetched_is}
use Rattle.fk_model.proofs.UpToDate.{up_orderly}
use Rattle.fk_model.proofs.BetweenTurns.{beginnings_keep}
use Rattle.fk_model.proofs.IdleRows.{HoldsIdle, up_keeps, said_keeps}

-- ---- what a worker has

-- a row that a worker has stood there before, or was given
abbrev WasThere : State → Option (ℕ × Place) → ℕ × Row → Type 0
WasThere s given filed =
    is_working (row_of filed).place ≡ true
    → (row_at s.kept.rows (ticket_of filed) ≡ Some (row_of filed))
    ⊎ (given ≡ Some (ticket_of filed, (row_of filed).place))

before_there : (s : State) (given : Option (ℕ × Place)) → IsByTicket s.kept.rows → All (WasThere s given) s.kept.rows
before_there s given by_ticket =
    All-weaker (λ filed. filed_at s.kept.rows (ticket_of filed) ≡ Some filed) (WasThere s given)
    (λ filed at works. inl (ap (option_map row_of) at)) s.kept.rows (each_found s.kept.rows by_ticket)

left_there : (s : State) (entry : Entry) (answer : Answer) (ask : Ask) → IsWellKept s.kept
    → All (WasThere s (given_by s entry answer ask))
    (left_by answer s (turn s ask entry.told.moment entry.told.word)).kept.rows
left_there s entry (Said reply) ask well =
    let moment = entry.told.moment in
    let word = entry.told.word in
    let P = WasThere s (given_by s entry (Said reply) ask) in
    let idle : HoldsIdle P = λ filed none works. absurd (cc) in
    said_keeps P (up_to_date s moment word) ask moment word (up_orderly s.kept moment word well)
    (record { idle = idle; given = λ wid queues filed same found works. inr (rw (same, found) refl) })
    (up_keeps P s.kept moment word idle (before_there s (given_by s entry (Said reply) ask) well.by_ticket))
left_there s entry NoMemory ask well = before_there s None well.by_ticket
left_there s entry Full ask well = before_there s None well.by_ticket
left_there s entry DiskFault ask well = before_there s None well.by_ticket

next_there : (s : State) (entry : Entry) → IsWellKept s.kept
    → All (WasThere s (given_by s entry entry.answer entry.ask)) (next_state s entry).kept.rows
unfolding next_state
next_there s entry well = left_there s entry entry.answer entry.ask well

-- a row that a worker has behind an entry stood there before it, or the entry gave it
pub rows_alone : (s : State) (n : ℕ) (before : List Entry) (entry : Entry) (ticket : ℕ) (row : Row) → IsBetweenTurns s
    → IsLegalFrom s n (before ++ entry ∷ [])
    → row_at (state_after s (before ++ entry ∷ [])).kept.rows ticket ≡ Some row → is_working row.place ≡ true
    → (row_at (state_after s before).kept.rows ticket ≡ Some row)
    ⊎ (given_by (state_after s before) entry entry.answer entry.ask ≡ Some (ticket, row.place))
rows_alone s n before entry ticket row ready legal at works =
    let last = state_after s before in
    let there : row_at (next_state last entry).kept.rows ticket ≡ Some row =
    rw (← fold-append next_state s before (entry ∷ [])) at in
    row_holds (WasThere last (given_by last entry entry.answer entry.ask)) (next_state last entry).kept.rows ticket row
    (next_there last entry (beginnings_keep s n before (entry ∷ []) ready legal).kept) there works

-- ---- what a FETCH gives

waits_idle : (place : Place) (rank : ℕ) → rank_of place ≡ Some rank → is_working place ≡ false
waits_idle (Queued own) rank waits = refl
waits_idle (Scheduled at) rank waits = refl
waits_idle (Retry at) rank waits = refl
waits_idle (Dead until) rank waits = refl
waits_idle (Working wid since until) rank waits = absurd (cc)

found_free : (kept : KeptState) (moment : ℕ) (wid : List ℕ) (found : Option (ℕ × Row)) (ticket : ℕ) (place : Place)
    → ((filed : ℕ × Row) → found ≡ Some filed → IsFirstRow kept filed)
    → option_map {U = ℕ × Place}
    (λ (filed : ℕ × Row). (ticket_of filed, (reserved_row moment wid (row_of filed)).place)) found
    ≡ Some (ticket, place)
    → IsSomeAnd (row_at kept.rows ticket) (λ row. is_working row.place ≡ false)
found_free kept moment wid None ticket place first e = absurd (cc)
found_free kept moment wid (Some filed) ticket place first e =
    let is = first filed refl in
    let given = (reserved_row moment wid (row_of filed)).place in
    let here : ticket_of filed ≡ ticket =
    ap (λ (x : ℕ × Place). x.0) (same_Some (ticket_of filed, given) (ticket, place) e) in
    rw (← here, is.stands) (waits_idle (row_of filed).place is.rank is.waits)

entry_free : (s : State) (entry : Entry) (answer : Answer) (ask : Ask) (ticket : ℕ) (place : Place)
    → IsWellKept s.kept → given_by s entry answer ask ≡ Some (ticket, place)
    → IsSomeAnd (row_at (up_for s entry).kept.rows ticket) (λ row. is_working row.place ≡ false)
entry_free s entry (Said reply) (Fetch wid queues) ticket place well e =
    let up = up_for s entry in
    found_free up.kept entry.told.moment wid (fetched up wid queues) ticket place
    (λ filed found. fetched_is up wid queues filed
    (up_orderly s.kept entry.told.moment entry.told.word well) found) e
entry_free s entry answer ask ticket place well e = absurd (cc)

-- a row that an entry gives was with no worker
pub rows_free : (s : State) (n : ℕ) (before : List Entry) (entry : Entry) (ticket : ℕ) (place : Place)
    → IsBetweenTurns s → IsLegalFrom s n (before ++ entry ∷ [])
    → given_by (state_after s before) entry entry.answer entry.ask ≡ Some (ticket, place)
    → IsSomeAnd (row_at (up_for (state_after s before) entry).kept.rows ticket) (λ row. is_working row.place ≡ false)
rows_free s n before entry ticket place ready legal e =
    entry_free (state_after s before) entry entry.answer entry.ask ticket place
    (beginnings_keep s n before (entry ∷ []) ready legal).kept e

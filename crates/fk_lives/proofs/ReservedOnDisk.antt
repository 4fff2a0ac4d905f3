-- Reservations in a history on disk: they stand and end as in the same history without a disk.
use Rattle.std.proofs.Common.{◌≡◌, ◌∙◌, refl, ℕ, List, [], ◌∷◌, ◌++◌, ◌⊎◌, map, true, false}
use Rattle.std.specs.Prelude.{Some, IfSome, IsSome, IsSomeAnd}
use Rattle.fk_model.specs.declared.answer.Answer.{Answer}
use Rattle.fk_model.specs.declared.answer.Answer.TheVariants.{Said, NoMemory, Full, DiskFault}
use Rattle.fk_model.specs.declared.ask.Ask.{Ask}
use Rattle.fk_model.specs.declared.ask.Ask.TheVariants.{Fetch}
use Rattle.fk_model.specs.declared.entry.Entry.{Entry}
use Rattle.fk_model.specs.declared.place.Place.{Place}
use Rattle.fk_model.specs.declared.row.Row.{Row}
use Rattle.fk_model.specs.Orders.{is_working}
use Rattle.fk_model.specs.Rows.{row_at}
use Rattle.fk_model.specs.State.{State}
use Rattle.fk_model.specs.Between.{IsBetweenTurns}
use Rattle.fk_model.specs.History.{next_state, state_after}
use Rattle.fk_model.specs.ReservationEnds.{ReservationStands, reservation_ended_at, reservation_ended}
use Rattle.fk_model.specs.Given.{given_by, up_for}
use Rattle.fk_model.proofs.GivenRows.{reservations_stand}
use Rattle.fk_model.proofs.Reservations.{reservations_over}
use Rattle.fk_model.proofs.OnlyGiven.{rows_free, rows_alone}
use Rattle.fk_lives.specs.OnDisk.{Server, IsLegalOnDisk}
use Rattle.fk_lives.proofs.AsWithout.{calm, calm_answer, next_calm, state_calm, parts_calm, front_calm}

-- ---- the same is given, and ends

given_calm : (s : State) (entry : Entry) (answer : Answer) (ask : Ask)
    → given_by s (calm entry) (calm_answer answer) ask ≡ given_by s entry answer ask
given_calm s entry (Said reply) (Fetch wid queues) = refl
given_calm s entry (Said reply) other = refl
given_calm s entry NoMemory ask = refl
given_calm s entry Full ask = refl
given_calm s entry DiskFault ask = refl

ended_at_calm : (s : State) (entry : Entry) (ticket : ℕ) (answer : Answer)
    → reservation_ended_at s (calm entry) ticket (calm_answer answer) ≡ reservation_ended_at s entry ticket answer
ended_at_calm s entry ticket (Said reply) = refl
ended_at_calm s entry ticket NoMemory = refl
ended_at_calm s entry ticket Full = refl
ended_at_calm s entry ticket DiskFault = refl

ended_calm : (s : State) (entries : List Entry) (ticket : ℕ)
    → reservation_ended s (map calm entries) ticket ≡ reservation_ended s entries ticket
ended_calm s [] ticket = refl
ended_calm s (entry ∷ entries) ticket =
    rw (
      ended_at_calm s entry ticket entry.answer,
      next_calm s entry,
      ended_calm (next_state s entry) entries ticket,
    ) refl

-- what the entry behind a front gives
given_behind : (s : State) (front : List Entry) (entry : Entry)
    → given_by (state_after s (map calm front)) (calm entry) (calm entry).answer entry.ask
    ≡ given_by (state_after s front) entry entry.answer entry.ask
given_behind s front entry =
    rw (state_calm s front) (given_calm (state_after s front) entry entry.answer entry.ask)

-- ---- on disk

-- a reservation that a FETCH gave stands up to its first end
pub stand_on_disk : (server : Server) (faults : ℕ) (before later : List Entry) (entry : Entry)
    → (ticket : ℕ) (place : Place) → IsBetweenTurns server.state → IsLegalOnDisk server faults (before ++ entry ∷ later)
    → given_by (state_after server.state before) entry entry.answer entry.ask ≡ Some (ticket, place)
    → ReservationStands (reservation_ended (state_after server.state (before ++ entry ∷ [])) later ticket) place
    (row_at (state_after server.state (before ++ entry ∷ later)).kept.rows ticket)
stand_on_disk server faults before later entry ticket place ready legal given =
    let s = server.state in
    rw (
      ← parts_calm s before (entry ∷ []),
      ← parts_calm s before (entry ∷ later),
      ← ended_calm (state_after s (map calm before ++ calm entry ∷ [])) later ticket,
    )
    (reservations_stand s 0 (map calm before) (map calm later) (calm entry) ticket place ready
    (front_calm server faults before (entry ∷ later) legal) (given_behind s before entry ∙ given))

-- right behind its end no worker has the row
pub over_on_disk : (server : Server) (faults : ℕ) (before : List Entry) (entry : Entry) (ticket : ℕ)
    → IsBetweenTurns server.state → IsLegalOnDisk server faults (before ++ entry ∷ [])
    → IsSome (reservation_ended_at (state_after server.state before) entry ticket entry.answer)
    → IfSome (row_at (state_after server.state (before ++ entry ∷ [])).kept.rows ticket)
    (λ row. is_working row.place ≡ false)
over_on_disk server faults before entry ticket ready legal some =
    let s = server.state in
    rw (← parts_calm s before (entry ∷ []))
    (reservations_over s 0 (map calm before) (calm entry) ticket ready
    (front_calm server faults before (entry ∷ []) legal)
    (rw (state_calm s before, ended_at_calm (state_after s before) entry ticket entry.answer) some))

-- a FETCH gives a row that no worker has
pub free_on_disk : (server : Server) (faults : ℕ) (before : List Entry) (entry : Entry) (ticket : ℕ) (place : Place)
    → IsBetweenTurns server.state → IsLegalOnDisk server faults (before ++ entry ∷ [])
    → given_by (state_after server.state before) entry entry.answer entry.ask ≡ Some (ticket, place)
    → IsSomeAnd (row_at (up_for (state_after server.state before) entry).kept.rows ticket)
    (λ row. is_working row.place ≡ false)
free_on_disk server faults before entry ticket place ready legal given =
    let s = server.state in
    rw (← state_calm s before)
    (rows_free s 0 (map calm before) (calm entry) ticket place ready
    (front_calm server faults before (entry ∷ []) legal) (given_behind s before entry ∙ given))

-- and no worker has a row but by a FETCH
pub alone_on_disk : (server : Server) (faults : ℕ) (before : List Entry) (entry : Entry) (ticket : ℕ) (row : Row)
    → IsBetweenTurns server.state → IsLegalOnDisk server faults (before ++ entry ∷ [])
    → row_at (state_after server.state (before ++ entry ∷ [])).kept.rows ticket ≡ Some row
    → is_working row.place ≡ true
    → (row_at (state_after server.state before).kept.rows ticket ≡ Some row)
    ⊎ (given_by (state_after server.state before) entry entry.answer entry.ask ≡ Some (ticket, row.place))
alone_on_disk server faults before entry ticket row ready legal at works =
    let s = server.state in
    rw (← given_behind s before entry, ← state_calm s before)
    (rows_alone s 0 (map calm before) (calm entry) ticket row ready
    (front_calm server faults before (entry ∷ []) legal) (rw (parts_calm s before (entry ∷ [])) at) works)

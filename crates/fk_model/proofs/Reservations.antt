-- A reservation stands up to its end, and behind that no worker has the row: in a turn, and in a history.
use Rattle.std.proofs.Common.{◌≡◌, refl, ℕ, ◌<◌, List, [], ◌∷◌, true, arith}
use Rattle.std.specs.Prelude.{Option, None, Some, IfSome, IsSome, option_and_then}
use Rattle.std.specs.Option.{option_or}
use Rattle.std.proofs.lemmas.Bool.{false≢true}
use Rattle.fk_model.specs.declared.row.Row.{Row}
use Rattle.fk_model.specs.declared.place.Place.{Place}
use Rattle.fk_model.specs.declared.ask.Ask.{Ask}
use Rattle.fk_model.specs.Rows.{ticket_of, row_at}
use Rattle.fk_model.specs.State.{State}
use Rattle.fk_model.specs.Orders.{is_working}
use Rattle.fk_model.specs.Between.{IsWellKept}
use Rattle.fk_model.specs.Said.{said}
use Rattle.fk_model.specs.Turns.{turn, up_to_date}
use Rattle.fk_model.specs.ReservationEnds.{ReservationEnd, reservation_ended_by_time, reservation_ended_by_ask, reservation_ended_in}
use Rattle.fk_model.specs.Given.{jobs_in}
use Rattle.fk_model.proofs.Tickets.{row_holds}
use Rattle.fk_model.proofs.Orderly.{IsOrderly}
use Rattle.fk_model.proofs.UpToDate.{up_orderly}
use Rattle.fk_model.proofs.EndsByTime.{IsAtRest, ReservationGoes, reservation_by_time}
use Rattle.fk_model.proofs.Asked.{lower_apart}
use Rattle.fk_model.proofs.Absent.{said_none}
use Rattle.fk_model.proofs.NextTickets.{up_rises}
use Rattle.std.proofs.Common.{◌≡◌, refl, ℕ, List, [], ◌∷◌, ◌++◌, true}
use Rattle.std.specs.Prelude.{Option, None, Some, IfSome, IsSome, IsSomeAnd}
use Rattle.std.specs.Option.{option_or}
use Rattle.std.proofs.lemmas.List.Sums.{fold-append}
use Rattle.fk_model.specs.declared.answer.Answer.{Answer}
use Rattle.fk_model.specs.declared.answer.Answer.TheVariants.{Said, NoMemory, Full, DiskFault}
use Rattle.fk_model.specs.declared.entry.Entry.{Entry}
use Rattle.fk_model.specs.Rows.{row_at}
use Rattle.fk_model.specs.State.{State}
use Rattle.fk_model.specs.Orders.{is_working}
use Rattle.fk_model.specs.Between.{IsWellKept, IsBetweenTurns}
use Rattle.fk_model.specs.History.{turn_of, left_by, next_state, state_after, IsLegalFrom}
use Rattle.fk_model.specs.ReservationEnds.{ReservationStands, reservation_ended_at, reservation_ended}
use Rattle.fk_model.proofs.BetweenTurns.{next_keeps}
use Rattle.fk_model.proofs.BetweenTurns.{beginnings_keep}
use Rattle.fk_model.proofs.ReservedRows.{IsIdle, Goes, said_goes, said_rests, said_over}

-- ---- a turn

goes_both : (time by_ask : Option ReservationEnd) (row : Row) (middle after : Option Row)
    → ReservationGoes time row middle → is_working row.place ≡ true
    → (middle ≡ Some row → Goes by_ask row after) → Goes (option_or time by_ask) row after
goes_both None by_ask row middle after goes works on = on (goes works)
goes_both (Some end) by_ask row middle after goes works on = tt

turn_goes : (s : State) (ask : Ask) (moment word ticket : ℕ) (row : Row) → IsWellKept s.kept
    → row_at s.kept.rows ticket ≡ Some row → is_working row.place ≡ true
    → Goes (reservation_ended_in s ask moment word ticket) row
    (row_at (turn s ask moment word).state.kept.rows ticket)
turn_goes s ask moment word ticket row well at works =
    let up = up_to_date s moment word in
    rw at
    (goes_both (reservation_ended_by_time moment row.place) (reservation_ended_by_ask up.kept ask ticket) row
    (row_at up.kept.rows ticket) (row_at (turn s ask moment word).state.kept.rows ticket)
    (reservation_by_time s.kept moment word ticket row well at) works
    (λ same. said_goes up ask moment word ticket row (up_orderly s.kept moment word well) same works))

rests_on : (s : State) (ask : Ask) (moment word ticket : ℕ) (found : Option Row) → IsOrderly s.kept
    → ticket < s.kept.next → row_at s.kept.rows ticket ≡ found → IfSome found IsAtRest
    → IfSome (row_at (said s ask moment word).state.kept.rows ticket) IsIdle
rests_on s ask moment word ticket None well lower at rests =
    rw (said_none s ask moment word ticket well at (lower_apart s.kept.next ticket (jobs_in ask) lower)) tt
rests_on s ask moment word ticket (Some row) well lower at rests =
    said_rests s ask moment word ticket row well at rests

over_both : (s : State) (ask : Ask) (moment word ticket : ℕ) (row : Row) (time : Option ReservationEnd)
    → IsOrderly s.kept → ticket < s.kept.next → ReservationGoes time row (row_at s.kept.rows ticket)
    → IsSome (option_or time (reservation_ended_by_ask s.kept ask ticket))
    → IfSome (row_at (said s ask moment word).state.kept.rows ticket) IsIdle
over_both s ask moment word ticket row None well lower goes some = said_over s ask moment word ticket well some
over_both s ask moment word ticket row (Some end) well lower goes some =
    rests_on s ask moment word ticket (row_at s.kept.rows ticket) well lower refl goes

over_found : (s : State) (ask : Ask) (moment word ticket : ℕ) (found : Option Row) → IsWellKept s.kept
    → row_at s.kept.rows ticket ≡ found
    → IsSome (option_or (option_and_then (λ (row : Row). reservation_ended_by_time moment row.place) found)
    (reservation_ended_by_ask (up_to_date s moment word).kept ask ticket))
    → IfSome (row_at (turn s ask moment word).state.kept.rows ticket) IsIdle
over_found s ask moment word ticket None well at some =
    said_over (up_to_date s moment word) ask moment word ticket (up_orderly s.kept moment word well) some
over_found s ask moment word ticket (Some row) well at some =
    let lower = row_holds (λ x. ticket_of x < s.kept.next) s.kept.rows ticket row well.above.tickets at in
    let risen = up_rises s moment word in
    over_both (up_to_date s moment word) ask moment word ticket row (reservation_ended_by_time moment row.place)
    (up_orderly s.kept moment word well) (omega (arith, lower, risen))
    (reservation_by_time s.kept moment word ticket row well at) some

-- ---- an entry

left_goes : (s : State) (entry : Entry) (answer : Answer) (ticket : ℕ) (row : Row) → IsWellKept s.kept
    → row_at s.kept.rows ticket ≡ Some row → is_working row.place ≡ true
    → Goes (reservation_ended_at s entry ticket answer) row
    (row_at (left_by answer s (turn_of s entry)).kept.rows ticket)
left_goes s entry (Said reply) ticket row well at works =
    turn_goes s entry.ask entry.told.moment entry.told.word ticket row well at works
left_goes s entry NoMemory ticket row well at works = at
left_goes s entry Full ticket row well at works = at
left_goes s entry DiskFault ticket row well at works = at

left_over : (s : State) (entry : Entry) (answer : Answer) (ticket : ℕ) → IsWellKept s.kept
    → IsSome (reservation_ended_at s entry ticket answer)
    → IfSome (row_at (left_by answer s (turn_of s entry)).kept.rows ticket) IsIdle
left_over s entry (Said reply) ticket well some =
    over_found s entry.ask entry.told.moment entry.told.word ticket (row_at s.kept.rows ticket) well refl some
left_over s entry NoMemory ticket well some = absurd (false≢true some)
left_over s entry Full ticket well some = absurd (false≢true some)
left_over s entry DiskFault ticket well some = absurd (false≢true some)

-- behind an entry that ends a reservation no worker has the row
next_over : (s : State) (entry : Entry) (ticket : ℕ) → IsWellKept s.kept
    → IsSome (reservation_ended_at s entry ticket entry.answer)
    → IfSome (row_at (next_state s entry).kept.rows ticket) IsIdle
unfolding next_state
next_over s entry ticket well some = left_over s entry entry.answer ticket well some

pub reservations_over : (s : State) (n : ℕ) (before : List Entry) (entry : Entry) (ticket : ℕ) → IsBetweenTurns s
    → IsLegalFrom s n (before ++ entry ∷ [])
    → IsSome (reservation_ended_at (state_after s before) entry ticket entry.answer)
    → IfSome (row_at (state_after s (before ++ entry ∷ [])).kept.rows ticket) IsIdle
reservations_over s n before entry ticket ready legal some =
    rw (fold-append next_state s before (entry ∷ []))
    (next_over (state_after s before) entry ticket (beginnings_keep s n before (entry ∷ []) ready legal).kept some)

-- ---- a history

-- the row of a ticket has this place
abbrev pub HasPlaceAt : List (ℕ × Row) → ℕ → Place → Type 0
HasPlaceAt rows ticket place = IsSomeAnd (row_at rows ticket) (λ row. row.place ≡ place)

goes_stands : (end : Option ReservationEnd) (row : Row) (place : Place) (after : Option Row) → row.place ≡ place
    → Goes end row after → ReservationStands end place after
goes_stands None row place after same goes = rw goes same
goes_stands (Some end) row place after same goes = tt

next_stands : (s : State) (entry : Entry) (ticket : ℕ) (place : Place) (found : Option Row) → IsWellKept s.kept
    → row_at s.kept.rows ticket ≡ found → is_working place ≡ true → IsSomeAnd found (λ row. row.place ≡ place)
    → ReservationStands (reservation_ended_at s entry ticket entry.answer) place
    (row_at (next_state s entry).kept.rows ticket)
unfolding next_state
next_stands s entry ticket place None well at works has = absurd has
next_stands s entry ticket place (Some row) well at works has =
    goes_stands (reservation_ended_at s entry ticket entry.answer) row place
    (row_at (left_by entry.answer s (turn_of s entry)).kept.rows ticket) has
    (left_goes s entry entry.answer ticket row well at (rw has works))

later_stands : (first rest : Option ReservationEnd) (place : Place) (after last : Option Row)
    → ReservationStands first place after
    → (IsSomeAnd after (λ row. row.place ≡ place) → ReservationStands rest place last)
    → ReservationStands (option_or first rest) place last
later_stands None rest place after last stands on = on stands
later_stands (Some end) rest place after last stands on = tt

-- a reservation stands up to the first of its ends
pub history_stands : (s : State) (n : ℕ) (later : List Entry) (ticket : ℕ) (place : Place) → IsBetweenTurns s
    → IsLegalFrom s n later → is_working place ≡ true → HasPlaceAt s.kept.rows ticket place
    → ReservationStands (reservation_ended s later ticket) place (row_at (state_after s later).kept.rows ticket)
unfolding IsLegalFrom
history_stands s n [] ticket place ready legal works has = has
history_stands s n (entry ∷ later) ticket place ready legal works has =
    let next = next_state s entry in
    later_stands (reservation_ended_at s entry ticket entry.answer) (reservation_ended next later ticket) place
    (row_at next.kept.rows ticket) (row_at (state_after next later).kept.rows ticket)
    (next_stands s entry ticket place (row_at s.kept.rows ticket) ready.kept refl works has)
    (λ some. history_stands next entry.told.after later ticket place (next_keeps s entry ready legal.0) legal.2 works
    some)

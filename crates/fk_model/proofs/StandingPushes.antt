-- A push stands up to its end, and behind it no row has its ticket: in one request, in a turn, and in a history.
use Rattle.std.proofs.Common.{◌≡◌, refl, subst, ℕ, ◌<◌, List, [], ◌∷◌, arith}
use Rattle.std.specs.Prelude.{Option, None, Some, IsSomeAnd, ◌&&◌, if◌then◌else◌}
use Rattle.std.specs.Option.{option_or}
use Rattle.fk_job.specs.declared.job.Job.{Job}
use Rattle.fk_model.specs.declared.row.Row.{Row}
use Rattle.fk_model.specs.declared.ask.Ask.{Ask}
use Rattle.fk_model.specs.declared.ask.Ask.TheVariants.{Push, PushBatch, Fetch, Ack, Fail, Flush, Mutate}
use Rattle.fk_model.specs.declared.answer.Answer.{Answer}
use Rattle.fk_model.specs.declared.answer.Answer.TheVariants.{Said, NoMemory, Full, DiskFault}
use Rattle.fk_model.specs.declared.entry.Entry.{Entry}
use Rattle.fk_model.specs.Rows.{ticket_of, row_of, IsByTicket, row_at}
use Rattle.fk_model.specs.State.{KeptState, State}
use Rattle.fk_model.specs.Orders.{leased}
use Rattle.fk_model.specs.Between.{IsWellKept, IsBetweenTurns}
use Rattle.fk_model.specs.Failing.{Reason, failed_row}
use Rattle.fk_model.specs.Requests.{fetched}
use Rattle.fk_model.specs.Mutated.{taken}
use Rattle.fk_model.specs.Said.{said}
use Rattle.fk_model.specs.Turns.{turn, up_to_date}
use Rattle.fk_model.specs.History.{turn_of, left_by, next_state, state_after, IsLegalFrom}
use Rattle.fk_model.specs.ReservationEnds.{ended_if}
use Rattle.fk_model.specs.PushEnds.{PushEnd, PushStands, acknowledged, failed, leaves_once_failed, push_ended_by_time, push_ended_of, push_ended_by_ask, push_ended_in, push_ended_at, push_ended}
use Rattle.fk_model.specs.Given.{jobs_in}
use Rattle.fk_model.proofs.Tickets.{row_holds}
use Rattle.fk_model.proofs.Orderly.{IsOrderly}
use Rattle.fk_model.proofs.Waiting.{IsLeased, leased_is}
use Rattle.fk_model.proofs.Requested.{fetched_is}
use Rattle.fk_model.proofs.UpToDate.{up_orderly}
use Rattle.fk_model.proofs.BetweenTurns.{next_keeps}
use Rattle.fk_model.proofs.EndsByTime.{failed_stands, push_by_time}
use Rattle.fk_model.proofs.Asked.{lower_apart, pushes_at, fetch_at, is_of, ack_at, after_fail, fail_at}
use Rattle.fk_model.proofs.FirstUnder.{first_is_leased}
use Rattle.fk_model.proofs.InSets.{push_ended_taken, mutate_ends}
use Rattle.fk_model.proofs.Taken.{taken_stand, mutate_at}
use Rattle.fk_model.proofs.Absent.{said_none, history_none}
use Rattle.fk_model.proofs.NextTickets.{up_rises, next_rises}

-- ---- one request

fail_stands : (s : State) (reason : Reason) (moment word : ℕ) (found : Option (ℕ × Row)) (ticket : ℕ) (row : Row)
    → IsByTicket s.kept.rows → row_at s.kept.rows ticket ≡ Some row
    → ((filed : ℕ × Row) → found ≡ Some filed → IsLeased s.kept filed)
    → PushStands (ended_if failed (is_of ticket found && leaves_once_failed row.job.retry)) row.job
    (row_at (after_fail s reason moment word found).rows ticket)
fail_stands s reason moment word found ticket row by_ticket at held =
    fail_at
    (λ so becomes. PushStands (ended_if failed (so && leaves_once_failed row.job.retry)) row.job becomes)
    s reason moment word found ticket row by_ticket at held
    (λ filed same.
    subst (λ r. PushStands (ended_if failed (leaves_once_failed r.job.retry)) r.job
    (failed_row reason moment word filed)) same (failed_stands failed reason moment word filed)) refl

asked_stands : (s : State) (ask : Ask) (moment word ticket : ℕ) (row : Row) → IsOrderly s.kept
    → row_at s.kept.rows ticket ≡ Some row
    → PushStands (push_ended_of ask s.kept.rows ticket row) row.job
    (row_at (said s ask moment word).state.kept.rows ticket)
unfolding said
asked_stands s (Push job) moment word ticket row well at =
    let lower = row_holds (λ x. ticket_of x < s.kept.next) s.kept.rows ticket row well.above.tickets at in
    rw (
      pushes_at moment (job ∷ []) s.kept ticket well.by_ticket
          (lower_apart s.kept.next ticket (job ∷ []) lower),
      at,
    ) refl
asked_stands s (PushBatch jobs told) moment word ticket row well at =
    let lower = row_holds (λ x. ticket_of x < s.kept.next) s.kept.rows ticket row well.above.tickets at in
    rw (pushes_at moment jobs s.kept ticket well.by_ticket (lower_apart s.kept.next ticket jobs lower), at) refl
asked_stands s (Fetch wid queues) moment word ticket row well at =
    fetch_at (λ becomes. PushStands None row.job becomes) s moment wid (fetched s wid queues) ticket row well at
    (λ filed found. fetched_is s wid queues filed well found) (λ rank waits. refl) refl
asked_stands s (Ack jid) moment word ticket row well at =
    rw (first_is_leased s.kept jid ticket row well.by_ticket at)
    (ack_at (λ so becomes. PushStands (ended_if acknowledged so) row.job becomes) s.kept (leased s.kept jid) ticket
    row well.by_ticket at refl refl)
asked_stands s (Fail jid errtype message backtrace) moment word ticket row well at =
    rw (first_is_leased s.kept jid ticket row well.by_ticket at)
    (fail_stands s (record { errtype = errtype; message = message; backtrace = backtrace }) moment word
    (leased s.kept jid) ticket row well.by_ticket at
    (λ filed found. leased_is s.kept jid filed well.by_ticket found))
asked_stands s Flush moment word ticket row well at = refl
asked_stands s (Mutate cmd target filter) moment word ticket row well at =
    rw (mutate_ends cmd target filter s.kept ticket row well.by_ticket at)
    (mutate_at
    (λ so filed becomes. PushStands (if so then push_ended_taken cmd else None) (row_of filed).job becomes) cmd
    target filter moment s.kept ticket row well at
    (taken_stand cmd moment s.kept.next (taken cmd target filter s.kept)) refl)
asked_stands s other moment word ticket row well at = rw at refl

said_stands : (s : State) (ask : Ask) (moment word ticket : ℕ) (row : Row) → IsOrderly s.kept
    → row_at s.kept.rows ticket ≡ Some row
    → PushStands (push_ended_by_ask s.kept ask ticket) row.job
    (row_at (said s ask moment word).state.kept.rows ticket)
said_stands s ask moment word ticket row well at = rw at (asked_stands s ask moment word ticket row well at)

-- ---- a turn

both_stand : (time by_ask : Option PushEnd) (job : Job) (middle after : Option Row) → PushStands time job middle
    → (middle ≡ None → after ≡ None)
    → ((row : Row) → middle ≡ Some row → PushStands by_ask row.job after)
    → PushStands (option_or time by_ask) job after
both_stand None by_ask job None after stands none some = absurd stands
both_stand None by_ask job (Some row) after stands none some =
    subst (λ one. PushStands by_ask one after) stands (some row refl)
both_stand (Some end) by_ask job middle after stands none some = none stands

-- a push stands as its end in a turn says
pub turn_stands : (s : State) (ask : Ask) (moment word ticket : ℕ) (row : Row) → IsWellKept s.kept
    → row_at s.kept.rows ticket ≡ Some row
    → PushStands (push_ended_in s ask moment word ticket) row.job
    (row_at (turn s ask moment word).state.kept.rows ticket)
turn_stands s ask moment word ticket row well at =
    let up = up_to_date s moment word in
    let up_well = up_orderly s.kept moment word well in
    let lower = row_holds (λ x. ticket_of x < s.kept.next) s.kept.rows ticket row well.above.tickets at in
    let risen = up_rises s moment word in
    rw at
    (both_stand (push_ended_by_time moment row.job.retry row.place) (push_ended_by_ask up.kept ask ticket) row.job
    (row_at up.kept.rows ticket) (row_at (turn s ask moment word).state.kept.rows ticket)
    (push_by_time s.kept moment word ticket row well at)
    (λ none. said_none up ask moment word ticket up_well none
    (lower_apart up.kept.next ticket (jobs_in ask) (omega (arith, lower, risen))))
    (λ new stands. said_stands up ask moment word ticket new up_well stands))

left_stands : (s : State) (entry : Entry) (answer : Answer) (ticket : ℕ) (row : Row) → IsWellKept s.kept
    → row_at s.kept.rows ticket ≡ Some row
    → PushStands (push_ended_at s entry ticket answer) row.job
    (row_at (left_by answer s (turn_of s entry)).kept.rows ticket)
left_stands s entry (Said reply) ticket row well at =
    turn_stands s entry.ask entry.told.moment entry.told.word ticket row well at
left_stands s entry NoMemory ticket row well at = rw at refl
left_stands s entry Full ticket row well at = rw at refl
left_stands s entry DiskFault ticket row well at = rw at refl

next_stands : (s : State) (entry : Entry) (ticket : ℕ) (row : Row) → IsWellKept s.kept
    → row_at s.kept.rows ticket ≡ Some row
    → PushStands (push_ended_at s entry ticket entry.answer) row.job (row_at (next_state s entry).kept.rows ticket)
unfolding next_state
next_stands s entry ticket row well at = left_stands s entry entry.answer ticket row well at

-- ---- a history

-- the row of a ticket has this job
abbrev pub HasJobAt : List (ℕ × Row) → ℕ → Job → Type 0
HasJobAt rows ticket job = IsSomeAnd (row_at rows ticket) (λ row. row.job ≡ job)

found_stands : (s : State) (entry : Entry) (ticket : ℕ) (job : Job) (found : Option Row) → IsWellKept s.kept
    → row_at s.kept.rows ticket ≡ found → IsSomeAnd found (λ row. row.job ≡ job)
    → PushStands (push_ended_at s entry ticket entry.answer) job (row_at (next_state s entry).kept.rows ticket)
found_stands s entry ticket job None well at has = absurd has
found_stands s entry ticket job (Some row) well at has =
    subst (λ one. PushStands (push_ended_at s entry ticket entry.answer) one
    (row_at (next_state s entry).kept.rows ticket)) has (next_stands s entry ticket row well at)

later_stand : (first rest : Option PushEnd) (job : Job) (after last : Option Row) → PushStands first job after
    → (after ≡ None → last ≡ None) → (IsSomeAnd after (λ row. row.job ≡ job) → PushStands rest job last)
    → PushStands (option_or first rest) job last
later_stand None rest job after last stands none some = some stands
later_stand (Some end) rest job after last stands none some = none stands

lower_of : (kept : KeptState) (ticket : ℕ) (job : Job) (found : Option Row) → IsWellKept kept
    → row_at kept.rows ticket ≡ found → IsSomeAnd found (λ row. row.job ≡ job) → ticket < kept.next
lower_of kept ticket job None well at has = absurd has
lower_of kept ticket job (Some row) well at has =
    row_holds (λ x. ticket_of x < kept.next) kept.rows ticket row well.above.tickets at

-- a job that stands does so up to the first end of its push, and behind it no row has its ticket
pub history_stands : (s : State) (n : ℕ) (later : List Entry) (ticket : ℕ) (job : Job) → IsBetweenTurns s
    → IsLegalFrom s n later → HasJobAt s.kept.rows ticket job
    → PushStands (push_ended s later ticket) job (row_at (state_after s later).kept.rows ticket)
unfolding IsLegalFrom
history_stands s n [] ticket job ready legal has = has
history_stands s n (entry ∷ later) ticket job ready legal has =
    let next = next_state s entry in
    let ready_next = next_keeps s entry ready legal.0 in
    let lower = lower_of s.kept ticket job (row_at s.kept.rows ticket) ready.kept refl has in
    let risen = next_rises s entry in
    later_stand (push_ended_at s entry ticket entry.answer) (push_ended next later ticket) job
    (row_at next.kept.rows ticket) (row_at (state_after next later).kept.rows ticket)
    (found_stands s entry ticket job (row_at s.kept.rows ticket) ready.kept refl has)
    (λ none. history_none next entry.told.after later ticket ready_next legal.2 (omega (arith, lower, risen)) none)
    (λ some. history_stands next entry.told.after later ticket job ready_next legal.2 some)

-- and so does the job of a row that stands in the first state
pub rows_stand : (s : State) (n : ℕ) (later : List Entry) (ticket : ℕ) (row : Row) → IsBetweenTurns s
    → IsLegalFrom s n later → row_at s.kept.rows ticket ≡ Some row
    → PushStands (push_ended s later ticket) row.job (row_at (state_after s later).kept.rows ticket)
rows_stand s n later ticket row ready legal at =
    history_stands s n later ticket row.job ready legal (rw at refl)

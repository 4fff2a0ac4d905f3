-- Where no row stands under a ticket, none stands there later, unless a push brings one.
use Rattle.std.proofs.Common.{◌≡◌, ◌≢◌, ◌∙◌, refl, ℕ, ◌<◌, List, [], ◌∷◌, arith}
use Rattle.std.specs.Prelude.{All, Option, None, Some}
use Rattle.std.specs.List.{enumerate_from}
use Rattle.std.specs.Option.{option_map_or}
use Rattle.fk_model.specs.declared.row.Row.{Row}
use Rattle.fk_model.specs.declared.ask.Ask.{Ask}
use Rattle.fk_model.specs.declared.ask.Ask.TheVariants.{Push, PushBatch, Fetch, Ack, Fail, Flush, Mutate}
use Rattle.fk_model.specs.declared.answer.Answer.{Answer}
use Rattle.fk_model.specs.declared.answer.Answer.TheVariants.{Said, NoMemory, Full, DiskFault}
use Rattle.fk_model.specs.declared.entry.Entry.{Entry}
use Rattle.fk_model.specs.Rows.{ticket_of, row_of, IsByTicket, row_at}
use Rattle.fk_model.specs.State.{KeptState, State}
use Rattle.fk_model.specs.Orders.{leased}
use Rattle.fk_model.specs.Between.{IsWellKept, IsBetweenTurns}
use Rattle.fk_model.specs.Failing.{Reason, failed_row}
use Rattle.fk_model.specs.Requests.{fetched, finished, reserved_row}
use Rattle.fk_model.specs.Said.{said}
use Rattle.fk_model.specs.Turns.{up_to_date}
use Rattle.fk_model.specs.History.{turn_of, left_by, next_state, state_after, IsLegalFrom}
use Rattle.fk_model.specs.Given.{jobs_in, added_by}
use Rattle.fk_model.proofs.Lookups.{row_at_without_other, row_at_changed_other}
use Rattle.fk_model.proofs.Orderly.{IsOrderly}
use Rattle.fk_model.proofs.Waiting.{IsFirstRow, IsLeased, leased_is}
use Rattle.fk_model.proofs.Requested.{fetched_is, after_fetch}
use Rattle.fk_model.proofs.Outcomes.{outcome_other}
use Rattle.fk_model.proofs.UpToDate.{up_orderly}
use Rattle.fk_model.proofs.BetweenTurns.{next_keeps}
use Rattle.fk_model.proofs.ByTime.{none_by_time}
use Rattle.fk_model.proofs.Asked.{pushes_at, after_fail}
use Rattle.fk_model.proofs.Taken.{mutate_none}
use Rattle.fk_model.proofs.NextTickets.{added_apart, next_rises}

-- ---- one request

none_apart : (rows : List (ℕ × Row)) (one ticket : ℕ) (row : Row) → row_at rows one ≡ Some row
    → row_at rows ticket ≡ None → ticket ≢ one
none_apart rows one ticket row stands at same =
    let there : row_at rows one ≡ None = rw (← same) at in absurd (cc)

fetch_none : (s : State) (moment : ℕ) (wid : List ℕ) (found : Option (ℕ × Row)) (ticket : ℕ) → IsOrderly s.kept
    → ((filed : ℕ × Row) → found ≡ Some filed → IsFirstRow s.kept filed) → row_at s.kept.rows ticket ≡ None
    → row_at (after_fetch s moment wid found).kept.rows ticket ≡ None
fetch_none s moment wid None ticket well first at = at
fetch_none s moment wid (Some filed) ticket well first at =
    let apart = none_apart s.kept.rows (ticket_of filed) ticket (row_of filed) (first filed refl).stands at in
    row_at_changed_other s.kept.rows (ticket_of filed) (reserved_row moment wid) ticket well.by_ticket apart ∙ at

ack_none : (kept : KeptState) (found : Option (ℕ × Row)) (ticket : ℕ)
    → ((filed : ℕ × Row) → found ≡ Some filed → IsLeased kept filed) → row_at kept.rows ticket ≡ None
    → row_at (option_map_or (finished kept) found kept).rows ticket ≡ None
ack_none kept None ticket held at = at
ack_none kept (Some filed) ticket held at =
    let apart = none_apart kept.rows (ticket_of filed) ticket (row_of filed) (held filed refl).stands at in
    row_at_without_other kept.rows (ticket_of filed) ticket apart ∙ at

fail_none : (s : State) (reason : Reason) (moment word : ℕ) (found : Option (ℕ × Row)) (ticket : ℕ)
    → IsByTicket s.kept.rows → ((filed : ℕ × Row) → found ≡ Some filed → IsLeased s.kept filed)
    → row_at s.kept.rows ticket ≡ None → row_at (after_fail s reason moment word found).rows ticket ≡ None
fail_none s reason moment word None ticket by_ticket held at = at
fail_none s reason moment word (Some filed) ticket by_ticket held at =
    let apart = none_apart s.kept.rows (ticket_of filed) ticket (row_of filed) (held filed refl).stands at in
    outcome_other s.kept.rows (ticket_of filed) (failed_row reason moment word filed) ticket by_ticket apart ∙ at

-- a request brings no row but those of the jobs that are pushed
pub said_none : (s : State) (ask : Ask) (moment word ticket : ℕ) → IsOrderly s.kept
    → row_at s.kept.rows ticket ≡ None → All (λ one. one.0 ≢ ticket) (enumerate_from s.kept.next (jobs_in ask))
    → row_at (said s ask moment word).state.kept.rows ticket ≡ None
unfolding said
said_none s (Push job) moment word ticket well at apart =
    pushes_at moment (job ∷ []) s.kept ticket well.by_ticket apart ∙ at
said_none s (PushBatch jobs told) moment word ticket well at apart =
    pushes_at moment jobs s.kept ticket well.by_ticket apart ∙ at
said_none s (Fetch wid queues) moment word ticket well at apart =
    fetch_none s moment wid (fetched s wid queues) ticket well
    (λ filed found. fetched_is s wid queues filed well found) at
said_none s (Ack jid) moment word ticket well at apart =
    ack_none s.kept (leased s.kept jid) ticket
    (λ filed found. leased_is s.kept jid filed well.by_ticket found) at
said_none s (Fail jid errtype message backtrace) moment word ticket well at apart =
    fail_none s (record { errtype = errtype; message = message; backtrace = backtrace }) moment word
    (leased s.kept jid) ticket well.by_ticket
    (λ filed found. leased_is s.kept jid filed well.by_ticket found) at
said_none s Flush moment word ticket well at apart = refl
said_none s (Mutate cmd target filter) moment word ticket well at apart =
    mutate_none cmd target filter moment s.kept ticket well at
said_none s other moment word ticket well at apart = at

-- ---- one entry

entry_none : (s : State) (entry : Entry) (answer : Answer) (ticket : ℕ) → IsWellKept s.kept
    → row_at s.kept.rows ticket ≡ None → All (λ one. one.0 ≢ ticket) (added_by s entry answer)
    → row_at (left_by answer s (turn_of s entry)).kept.rows ticket ≡ None
entry_none s entry (Said reply) ticket well at apart =
    let moment = entry.told.moment in
    let word = entry.told.word in
    said_none (up_to_date s moment word) entry.ask moment word ticket (up_orderly s.kept moment word well)
    (none_by_time s.kept moment word ticket well at) apart
entry_none s entry NoMemory ticket well at apart = at
entry_none s entry Full ticket well at apart = at
entry_none s entry DiskFault ticket well at apart = at

-- an entry brings no row but those that it adds
pub next_none : (s : State) (entry : Entry) (ticket : ℕ) → IsWellKept s.kept → row_at s.kept.rows ticket ≡ None
    → All (λ one. one.0 ≢ ticket) (added_by s entry entry.answer)
    → row_at (next_state s entry).kept.rows ticket ≡ None
unfolding next_state
next_none s entry ticket well at apart = entry_none s entry entry.answer ticket well at apart

-- ---- a history

-- below the next number none comes again
pub history_none : (s : State) (n : ℕ) (later : List Entry) (ticket : ℕ) → IsBetweenTurns s
    → IsLegalFrom s n later → ticket < s.kept.next → row_at s.kept.rows ticket ≡ None
    → row_at (state_after s later).kept.rows ticket ≡ None
unfolding IsLegalFrom
history_none s n [] ticket ready legal lower at = at
history_none s n (entry ∷ later) ticket ready legal lower at =
    let risen = next_rises s entry in
    history_none (next_state s entry) entry.told.after later ticket (next_keeps s entry ready legal.0) legal.2
    (omega (arith, lower, risen))
    (next_none s entry ticket ready.kept at (added_apart s entry entry.answer ticket lower))

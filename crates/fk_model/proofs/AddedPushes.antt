-- Each job that an entry adds has a row under its ticket behind it, and its push stands from there on.
use Rattle.std.proofs.Common.{◌≡◌, ◌∙◌, refl, ℕ, ◌+◌, List, [], ◌∷◌, ◌++◌, Bool, true, false, arith}
use Rattle.std.specs.Prelude.{All, Some, Contains}
use Rattle.std.specs.List.{enumerate_from}
use Rattle.std.proofs.lemmas.List.Sums.{fold-append}
use Rattle.std.proofs.lemmas.List.Elements.{All-nil, All-cons, All-contains}
use Rattle.fk_job.specs.declared.job.Job.{Job}
use Rattle.fk_model.specs.declared.ask.Ask.{Ask}
use Rattle.fk_model.specs.declared.ask.Ask.TheVariants.{Push, PushBatch}
use Rattle.fk_model.specs.declared.answer.Answer.{Answer}
use Rattle.fk_model.specs.declared.answer.Answer.TheVariants.{Said, NoMemory, Full, DiskFault}
use Rattle.fk_model.specs.declared.entry.Entry.{Entry}
use Rattle.fk_model.specs.Rows.{IsByTicket, row_at}
use Rattle.fk_model.specs.State.{KeptState, State}
use Rattle.fk_model.specs.Between.{IsWellKept, IsBetweenTurns}
use Rattle.fk_model.specs.Requests.{is_later, pushed, pushed_row, all_pushed}
use Rattle.fk_model.specs.Said.{said}
use Rattle.fk_model.specs.Turns.{up_to_date}
use Rattle.fk_model.specs.History.{turn_of, left_by, next_state, state_after, faults_after, IsLegalFrom}
use Rattle.fk_model.specs.PushEnds.{PushStands, push_ended}
use Rattle.fk_model.specs.Given.{jobs_in, added_by}
use Rattle.fk_model.proofs.Lookups.{row_at_with}
use Rattle.fk_model.proofs.Tickets.{by_ticket_with}
use Rattle.fk_model.proofs.Orderly.{IsOrderly}
use Rattle.fk_model.proofs.UpToDate.{up_orderly}
use Rattle.fk_model.proofs.Histories.{legal_goes_on}
use Rattle.fk_model.proofs.BetweenTurns.{next_keeps, beginnings_keep}
use Rattle.fk_model.proofs.Asked.{lower_apart, pushes_at}
use Rattle.fk_model.proofs.StandingPushes.{HasJobAt, history_stands}

pushed_job : (moment ticket : ℕ) (job : Job) (later : Bool) → is_later moment job ≡ later
    → (pushed_row moment ticket job).job ≡ job
pushed_job moment ticket job true e = rw e refl
pushed_job moment ticket job false e = rw e refl

-- each job that is pushed has a row under its ticket
all_pushed_stand : (moment : ℕ) (jobs : List Job) (kept : KeptState) → IsByTicket kept.rows
    → All (λ one. HasJobAt (all_pushed moment kept jobs).rows one.0 one.1) (enumerate_from kept.next jobs)
all_pushed_stand moment [] kept by_ticket = All-nil (λ one. HasJobAt kept.rows one.0 one.1)
all_pushed_stand moment (job ∷ jobs) kept by_ticket =
    let row = pushed_row moment kept.next job in
    let ordered = by_ticket_with kept.rows kept.next row by_ticket in
    let there : row_at (all_pushed moment kept (job ∷ jobs)).rows kept.next ≡ Some row =
    pushes_at moment jobs (pushed moment kept job) kept.next ordered
    (lower_apart (kept.next + 1) kept.next jobs (omega arith))
    ∙ row_at_with kept.rows kept.next row in
    All-cons (λ one. HasJobAt (all_pushed moment kept (job ∷ jobs)).rows one.0 one.1) (kept.next, job)
    (enumerate_from (kept.next + 1) jobs)
    (rw there (pushed_job moment kept.next job (is_later moment job) refl))
    (all_pushed_stand moment jobs (pushed moment kept job) ordered)

said_added : (s : State) (ask : Ask) (moment word : ℕ) → IsOrderly s.kept
    → All (λ one. HasJobAt (said s ask moment word).state.kept.rows one.0 one.1)
    (enumerate_from s.kept.next (jobs_in ask))
unfolding said
said_added s (Push job) moment word well = all_pushed_stand moment (job ∷ []) s.kept well.by_ticket
said_added s (PushBatch jobs told) moment word well = all_pushed_stand moment jobs s.kept well.by_ticket
said_added s other moment word well = λ k d within. absurd (omega (arith, within))

left_added : (s : State) (entry : Entry) (answer : Answer) → IsWellKept s.kept
    → All (λ one. HasJobAt (left_by answer s (turn_of s entry)).kept.rows one.0 one.1) (added_by s entry answer)
left_added s entry (Said reply) well =
    let moment = entry.told.moment in
    let word = entry.told.word in
    said_added (up_to_date s moment word) entry.ask moment word (up_orderly s.kept moment word well)
left_added s entry NoMemory well = λ k d within. absurd (omega (arith, within))
left_added s entry Full well = λ k d within. absurd (omega (arith, within))
left_added s entry DiskFault well = λ k d within. absurd (omega (arith, within))

-- each job that an entry adds has a row behind it
next_added : (s : State) (entry : Entry) → IsWellKept s.kept
    → All (λ one. HasJobAt (next_state s entry).kept.rows one.0 one.1) (added_by s entry entry.answer)
unfolding next_state
next_added s entry well = left_added s entry entry.answer well

-- what an entry adds stands from there on
from_entry : (s : State) (n : ℕ) (entry : Entry) (later : List Entry) (ticket : ℕ) (job : Job) → IsBetweenTurns s
    → IsLegalFrom s n (entry ∷ later) → Contains (added_by s entry entry.answer) (ticket, job)
    → PushStands (push_ended (next_state s entry) later ticket) job
    (row_at (state_after (next_state s entry) later).kept.rows ticket)
unfolding IsLegalFrom
from_entry s n entry later ticket job ready legal there =
    history_stands (next_state s entry) entry.told.after later ticket job (next_keeps s entry ready legal.0) legal.2
    (All-contains (λ one. HasJobAt (next_state s entry).kept.rows one.0 one.1) (added_by s entry entry.answer)
    (ticket, job) (next_added s entry ready.kept) there)

-- what was acknowledged stands
pub pushes_stand : (s : State) (n : ℕ) (before later : List Entry) (entry : Entry) (ticket : ℕ) (job : Job)
    → IsBetweenTurns s → IsLegalFrom s n (before ++ entry ∷ later)
    → Contains (added_by (state_after s before) entry entry.answer) (ticket, job)
    → PushStands (push_ended (state_after s (before ++ entry ∷ [])) later ticket) job
    (row_at (state_after s (before ++ entry ∷ later)).kept.rows ticket)
pushes_stand s n before later entry ticket job ready legal there =
    rw (fold-append next_state s before (entry ∷ []), fold-append next_state s before (entry ∷ later))
    (from_entry (state_after s before) (faults_after n before) entry later ticket job
    (beginnings_keep s n before (entry ∷ later) ready legal)
    ((legal_goes_on s n before (entry ∷ later)).0 legal).1 there)

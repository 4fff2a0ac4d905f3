-- The next number rises by all that an entry adds, so each ticket is added once.
use Rattle.std.proofs.Common.{◌≢◌, ℕ, ◌<◌, ◌≤◌, ◌+◌, List, [], ◌∷◌, length, arith}
use Rattle.std.specs.Prelude.{All}
use Rattle.std.specs.List.{enumerate_from}
use Rattle.std.proofs.lemmas.List.Elements.{All-nil, All-weaker}
use Rattle.fk_job.specs.declared.job.Job.{Job}
use Rattle.fk_model.specs.declared.ask.Ask.{Ask}
use Rattle.fk_model.specs.declared.ask.Ask.TheVariants.{Push, PushBatch}
use Rattle.fk_model.specs.declared.answer.Answer.{Answer}
use Rattle.fk_model.specs.declared.answer.Answer.TheVariants.{Said, NoMemory, Full, DiskFault}
use Rattle.fk_model.specs.declared.entry.Entry.{Entry}
use Rattle.fk_model.specs.State.{KeptState, State}
use Rattle.fk_model.specs.Requests.{pushed, all_pushed}
use Rattle.fk_model.specs.Said.{said}
use Rattle.fk_model.specs.Turns.{up_to_date}
use Rattle.fk_model.specs.History.{turn_of, left_by, next_state}
use Rattle.fk_model.specs.Given.{jobs_in, added_by, up_for}
use Rattle.fk_model.proofs.UpToDate.{up_next}
use Rattle.fk_model.proofs.Turning.{next_grows}
use Rattle.fk_model.proofs.Asked.{numbers_from}

-- the ticket that is added with a job
abbrev pub ticket_in : ℕ × Job → ℕ
ticket_in one = one.0

-- ---- the numbers of an entry

-- it is as many higher as jobs are pushed
pushes_next : (moment : ℕ) (jobs : List Job) (kept : KeptState)
    → kept.next + length jobs ≤ (all_pushed moment kept jobs).next
pushes_next moment [] kept = omega arith
pushes_next moment (job ∷ jobs) kept =
    let rest = pushes_next moment jobs (pushed moment kept job) in omega (arith, rest)

pub said_next : (s : State) (ask : Ask) (moment word : ℕ)
    → s.kept.next + length (jobs_in ask) ≤ (said s ask moment word).state.kept.next
unfolding said
said_next s (Push job) moment word = pushes_next moment (job ∷ []) s.kept
said_next s (PushBatch jobs told) moment word = pushes_next moment jobs s.kept
said_next s other moment word = let grown = next_grows s other moment word in omega (arith, grown)

pub up_rises : (s : State) (moment word : ℕ) → s.kept.next ≤ (up_to_date s moment word).kept.next
up_rises s moment word = let next = up_next s.kept moment word in omega (arith, next)

-- each that is added is no lower than the next number
pub added_from : (s : State) (entry : Entry) (answer : Answer)
    → All (λ one. s.kept.next ≤ ticket_in one) (added_by s entry answer)
added_from s entry (Said reply) =
    let up = (up_for s entry).kept.next in
    let risen = up_rises s entry.told.moment entry.told.word in
    All-weaker (λ one. up ≤ ticket_in one) (λ one. s.kept.next ≤ ticket_in one)
    (λ one higher. omega (arith, risen, higher)) (enumerate_from up (jobs_in entry.ask))
    (numbers_from up (jobs_in entry.ask))
added_from s entry NoMemory = All-nil (λ one. s.kept.next ≤ ticket_in one)
added_from s entry Full = All-nil (λ one. s.kept.next ≤ ticket_in one)
added_from s entry DiskFault = All-nil (λ one. s.kept.next ≤ ticket_in one)

-- so no lower ticket is
pub added_apart : (s : State) (entry : Entry) (answer : Answer) (ticket : ℕ) → ticket < s.kept.next
    → All (λ one. one.0 ≢ ticket) (added_by s entry answer)
added_apart s entry answer ticket lower =
    All-weaker (λ one. s.kept.next ≤ ticket_in one) (λ one. ticket_in one ≢ ticket)
    (λ one higher same. omega (arith, lower, higher, same)) (added_by s entry answer) (added_from s entry answer)

left_rises : (s : State) (entry : Entry) (answer : Answer)
    → s.kept.next ≤ (left_by answer s (turn_of s entry)).kept.next
left_rises s entry (Said reply) =
    let moment = entry.told.moment in
    let word = entry.told.word in
    let risen = up_rises s moment word in
    let grown = next_grows (up_to_date s moment word) entry.ask moment word in
    omega (arith, risen, grown)
left_rises s entry NoMemory = omega arith
left_rises s entry Full = omega arith
left_rises s entry DiskFault = omega arith

-- an entry doesn't lower the next number
pub next_rises : (s : State) (entry : Entry) → s.kept.next ≤ (next_state s entry).kept.next
unfolding next_state
next_rises s entry = left_rises s entry entry.answer

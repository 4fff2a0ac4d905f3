-- No two entries of a history add a row under one ticket, no other entry adds one, and the next number never falls.
use Rattle.std.proofs.Common.{◌≡◌, ◌≢◌, ◌⊎◌, refl, ℕ, suc, ◌<◌, ◌≤◌, ◌+◌, List, [], ◌∷◌, ◌++◌, inl, inr, length, map, arith}
use Rattle.std.specs.Prelude.{All, AllPairs, Contains, None, IsSome, ◌==◌}
use Rattle.std.specs.List.{enumerate_from}
use Rattle.std.specs.List.Sorted.{IsStrictlyIncreasing}
use Rattle.std.proofs.lemmas.Bool.{false≢true}
use Rattle.std.proofs.lemmas.List.Sums.{fold-append}
use Rattle.std.proofs.lemmas.List.Elements.{All-nil, All-cons, All-append, All-weaker}
use Rattle.std.proofs.lemmas.List.Kept.{AllPairs-cons}
use Rattle.fk_job.specs.declared.job.Job.{Job}
use Rattle.fk_model.specs.declared.answer.Answer.{Answer}
use Rattle.fk_model.specs.declared.answer.Answer.TheVariants.{Said, NoMemory, Full, DiskFault}
use Rattle.fk_model.specs.declared.entry.Entry.{Entry}
use Rattle.fk_model.specs.Rows.{row_at}
use Rattle.fk_model.specs.State.{State}
use Rattle.fk_model.specs.Between.{IsBetweenTurns}
use Rattle.fk_model.specs.Turns.{up_to_date}
use Rattle.fk_model.specs.History.{turn_of, left_by, next_state, state_after, IsLegalFrom}
use Rattle.fk_model.specs.Given.{jobs_in, added_by, added}
use Rattle.fk_model.proofs.Rising.{IsUnder, by_rising_pairs}
use Rattle.fk_model.proofs.Sorting.{joined}
use Rattle.fk_model.proofs.BetweenTurns.{beginnings_keep}
use Rattle.fk_model.proofs.AtTicket.{one_or_other}
use Rattle.fk_model.proofs.Asked.{numbers_from}
use Rattle.fk_model.proofs.NextTickets.{ticket_in, said_next, added_from, next_rises}
use Rattle.fk_model.proofs.Absent.{next_none}

-- ---- the tickets of one entry

numbers_below : (n m : ℕ) (jobs : List Job) → m ≡ n + length jobs
    → All (λ one. ticket_in one < m) (enumerate_from n jobs)
numbers_below n m [] e = All-nil (λ one. ticket_in one < m)
numbers_below n m (job ∷ jobs) e =
    All-cons (λ one. ticket_in one < m) (n, job) (enumerate_from (n + 1) jobs) (omega (arith, e))
    (numbers_below (n + 1) m jobs (omega (arith, e)))

numbers_rise : (n : ℕ) (jobs : List Job) → AllPairs (IsUnder ticket_in) (enumerate_from n jobs)
numbers_rise n [] = λ i j d ahead within. absurd (omega (arith, within))
numbers_rise n (job ∷ jobs) =
    AllPairs-cons (IsUnder ticket_in) (n, job) (enumerate_from (n + 1) jobs)
    (All-weaker (λ one. n + 1 ≤ ticket_in one) (IsUnder ticket_in (n, job))
    (λ one higher. omega (arith, higher)) (enumerate_from (n + 1) jobs) (numbers_from (n + 1) jobs))
    (numbers_rise (n + 1) jobs)

-- each ticket that an entry adds is below the next number behind it
left_below : (s : State) (entry : Entry) (answer : Answer)
    → All (λ one. ticket_in one < (left_by answer s (turn_of s entry)).kept.next) (added_by s entry answer)
left_below s entry (Said reply) =
    let moment = entry.told.moment in
    let word = entry.told.word in
    let up = up_to_date s moment word in
    let jobs = jobs_in entry.ask in
    let grown = said_next up entry.ask moment word in
    All-weaker (λ one. ticket_in one < up.kept.next + length jobs)
    (λ one. ticket_in one < (turn_of s entry).state.kept.next) (λ one lower. omega (arith, grown, lower))
    (enumerate_from up.kept.next jobs)
    (numbers_below up.kept.next (up.kept.next + length jobs) jobs refl)
left_below s entry NoMemory = λ k d within. absurd (omega (arith, within))
left_below s entry Full = λ k d within. absurd (omega (arith, within))
left_below s entry DiskFault = λ k d within. absurd (omega (arith, within))

next_below : (s : State) (entry : Entry)
    → All (λ one. ticket_in one < (next_state s entry).kept.next) (added_by s entry entry.answer)
unfolding next_state
next_below s entry = left_below s entry entry.answer

added_rise : (s : State) (entry : Entry) (answer : Answer) → AllPairs (IsUnder ticket_in) (added_by s entry answer)
added_rise s entry (Said reply) =
    numbers_rise (up_to_date s entry.told.moment entry.told.word).kept.next (jobs_in entry.ask)
added_rise s entry NoMemory = λ i j d ahead within. absurd (omega (arith, within))
added_rise s entry Full = λ i j d ahead within. absurd (omega (arith, within))
added_rise s entry DiskFault = λ i j d ahead within. absurd (omega (arith, within))

-- ---- those of a history

-- each is no lower than the number before it
pub all_from : (s : State) (entries : List Entry) → All (λ one. s.kept.next ≤ ticket_in one) (added s entries)
all_from s [] = All-nil (λ one. s.kept.next ≤ ticket_in one)
all_from s (entry ∷ entries) =
    let next = next_state s entry in
    let risen = next_rises s entry in
    All-append (λ one. s.kept.next ≤ ticket_in one) (added_by s entry entry.answer) (added next entries)
    (added_from s entry entry.answer)
    (All-weaker (λ one. next.kept.next ≤ ticket_in one) (λ one. s.kept.next ≤ ticket_in one)
    (λ one higher. omega (arith, risen, higher)) (added next entries) (all_from next entries))

all_rise : (s : State) (entries : List Entry) → AllPairs (IsUnder ticket_in) (added s entries)
all_rise s [] = λ i j d ahead within. absurd (omega (arith, within))
all_rise s (entry ∷ entries) =
    let next = next_state s entry in
    let later = all_from next entries in
    joined (IsUnder ticket_in) (added_by s entry entry.answer) (added next entries)
    (added_rise s entry entry.answer) (all_rise next entries)
    (All-weaker (λ one. ticket_in one < next.kept.next) (λ one. All (IsUnder ticket_in one) (added next entries))
    (λ one lower. All-weaker (λ other. next.kept.next ≤ ticket_in other) (IsUnder ticket_in one)
    (λ other higher. omega (arith, lower, higher)) (added next entries) later)
    (added_by s entry entry.answer) (next_below s entry))

-- they rise, so none comes twice
pub added_once : (s : State) (entries : List Entry) → IsStrictlyIncreasing (map ticket_in (added s entries))
added_once s entries = by_rising_pairs ticket_in (added s entries) (all_rise s entries)

history_rises : (s : State) (entries : List Entry) → s.kept.next ≤ (state_after s entries).kept.next
history_rises s [] = omega arith
history_rises s (entry ∷ entries) =
    let next = next_state s entry in
    let risen = next_rises s entry in
    let rest = history_rises next entries in
    omega (arith, risen, rest)

-- the next number never falls
pub never_falls : (s : State) (front back : List Entry)
    → (state_after s front).kept.next ≤ (state_after s (front ++ back)).kept.next
never_falls s front back = rw (fold-append next_state s front back) (history_rises (state_after s front) back)

-- ---- no other entry adds one

first_there : (ticket : ℕ) (one : ℕ × Job) (all : List (ℕ × Job)) → ticket_in one ≡ ticket
    → Contains (map ticket_in (one ∷ all)) ticket
first_there ticket one all here = (0, omega arith, here)

rest_there : (ticket : ℕ) (one : ℕ × Job) (all : List (ℕ × Job)) → Contains (map ticket_in all) ticket
    → Contains (map ticket_in (one ∷ all)) ticket
rest_there ticket one all there = let within = there.1 in (suc there.0, omega (arith, within), there.2)

there_or_apart : (ticket : ℕ) (all : List (ℕ × Job))
    → Contains (map ticket_in all) ticket ⊎ All (λ one. ticket_in one ≢ ticket) all
there_or_apart ticket [] = inr (All-nil (λ one. ticket_in one ≢ ticket))
there_or_apart ticket (one ∷ all) =
    first_or_rest ticket one all (one_or_other (ticket_in one) ticket (ticket_in one == ticket) refl)
    (there_or_apart ticket all)
  where
    first_or_rest : (ticket : ℕ) (one : ℕ × Job) (all : List (ℕ × Job))
        → (ticket_in one ≡ ticket) ⊎ (ticket_in one ≢ ticket)
        → Contains (map ticket_in all) ticket ⊎ All (λ x. ticket_in x ≢ ticket) all
        → Contains (map ticket_in (one ∷ all)) ticket ⊎ All (λ x. ticket_in x ≢ ticket) (one ∷ all)
    first_or_rest ticket one all (inl here) rest = inl (first_there ticket one all here)
    first_or_rest ticket one all (inr apart) (inl there) = inl (rest_there ticket one all there)
    first_or_rest ticket one all (inr apart) (inr rest) =
        inr (All-cons (λ x. ticket_in x ≢ ticket) one all apart rest)

alone_if : (s : State) (entry : Entry) (ticket : ℕ) → IsBetweenTurns s
    → IsSome (row_at (next_state s entry).kept.rows ticket) → row_at s.kept.rows ticket ≡ None
    → Contains (map ticket_in (added_by s entry entry.answer)) ticket
    ⊎ All (λ one. ticket_in one ≢ ticket) (added_by s entry entry.answer)
    → Contains (map ticket_in (added_by s entry entry.answer)) ticket
alone_if s entry ticket ready some none (inl there) = there
alone_if s entry ticket ready some none (inr apart) =
    let gone : row_at (next_state s entry).kept.rows ticket ≡ None =
    next_none s entry ticket ready.kept none apart in
    absurd (false≢true (rw gone at some))

-- where a row has come under a ticket, the entry added it
pub added_alone : (s : State) (n : ℕ) (before : List Entry) (entry : Entry) (ticket : ℕ) → IsBetweenTurns s
    → IsLegalFrom s n (before ++ entry ∷ [])
    → IsSome (row_at (state_after s (before ++ entry ∷ [])).kept.rows ticket)
    → row_at (state_after s before).kept.rows ticket ≡ None
    → Contains (map ticket_in (added_by (state_after s before) entry entry.answer)) ticket
added_alone s n before entry ticket ready legal some none =
    let mid = state_after s before in
    let after : IsSome (row_at (next_state mid entry).kept.rows ticket) =
    rw (fold-append next_state s before (entry ∷ [])) at some in
    alone_if mid entry ticket (beginnings_keep s n before (entry ∷ []) ready legal) after none
    (there_or_apart ticket (added_by mid entry entry.answer))

-- The tickets that runs bring rise from each to the next, and lie between the next numbers before and behind them.
use Rattle.std.proofs.Common.{◌≡◌, refl, ap, subst, ℕ, ◌<◌, ◌≤◌, ◌+◌, List, [], ◌∷◌, ◌++◌, map, length, arith}
use Rattle.std.specs.Prelude.{All, AllPairs, Option, None, Some}
use Rattle.std.specs.List.{enumerate_from}
use Rattle.std.specs.List.Sorted.{IsStrictlyIncreasing}
use Rattle.std.proofs.lemmas.List.{append-nil}
use Rattle.std.proofs.lemmas.List.Elements.{All-nil, All-cons, All-append, All-weaker}
use Rattle.fk_job.specs.declared.job.Job.{Job}
use Rattle.fk_model.specs.declared.answer.Answer.{Answer}
use Rattle.fk_model.specs.declared.answer.Answer.TheVariants.{Said, NoMemory, Full, DiskFault}
use Rattle.fk_model.specs.declared.entry.Entry.{Entry}
use Rattle.fk_model.specs.State.{KeptState, State, empty}
use Rattle.fk_model.specs.Between.{IsWellKept}
use Rattle.fk_model.specs.Turns.{up_to_date}
use Rattle.fk_model.specs.History.{turn_of, left_by, next_state, state_after}
use Rattle.fk_model.specs.Given.{jobs_in, added_by, added}
use Rattle.fk_model.proofs.Rising.{IsUnder, rising_pairs, by_rising_pairs}
use Rattle.fk_model.proofs.Sorting.{joined}
use Rattle.fk_model.proofs.NextTickets.{ticket_in, said_next}
use Rattle.fk_model.proofs.OneTicket.{added_once, all_from}
use Rattle.fk_model.proofs.BetweenTurns.{empty_well}
use Rattle.fk_lives.specs.Lives.{AddedCommand, Run, kept_behind, with_added, added_by_command, added_in_runs, GoesOnFrom, IsLife, kept_after}
use Rattle.fk_lives.proofs.Additions.{IsAdditionTo, entry_of, added_kept}
use Rattle.fk_lives.proofs.Rests.{IsRest, entries_rise, rest_goes_on, rest_rises}
use Rattle.fk_lives.proofs.Runs.{goes_on, kept_goes_on, kept_of_rest, kept_of_run, onward, runs_keep, runs_rise}

-- tickets that rise, from one number on and below another
record LieBetween (low high : ℕ) (all : List (ℕ × Job)) : Type 0 where
  risen : low ≤ high
  from : All (λ one. low ≤ ticket_in one) all
  below : All (λ one. ticket_in one < high) all
  rise : AllPairs (IsUnder ticket_in) all

none_between : (n : ℕ) → LieBetween n n []
none_between n = record {
  risen = omega arith;
  from = All-nil (λ one. n ≤ ticket_in one);
  below = All-nil (λ one. ticket_in one < n);
  rise = λ i j d ahead within. absurd (omega (arith, within));
}

both_between : (low middle high : ℕ) (front back : List (ℕ × Job)) → LieBetween low middle front
    → LieBetween middle high back → LieBetween low high (front ++ back)
both_between low middle high front back first second =
    let up = first.risen in
    let on = second.risen in
    let higher : All (λ one. low ≤ ticket_in one) back =
    All-weaker (λ one. middle ≤ ticket_in one) (λ one. low ≤ ticket_in one)
    (λ one more. omega (arith, up, more)) back second.from in
    let lower : All (λ one. ticket_in one < high) front =
    All-weaker (λ one. ticket_in one < middle) (λ one. ticket_in one < high)
    (λ one less. omega (arith, on, less)) front first.below in
    record {
      risen = omega (arith, up, on);
      from = All-append (λ one. low ≤ ticket_in one) front back first.from higher;
      below = All-append (λ one. ticket_in one < high) front back lower second.below;
      rise = joined (IsUnder ticket_in) front back first.rise second.rise
          (All-weaker (λ one. ticket_in one < middle) (λ one. All (IsUnder ticket_in one) back)
          (λ one less. All-weaker (λ other. middle ≤ ticket_in other) (IsUnder ticket_in one)
          (λ other more. omega (arith, less, more)) back second.from) front first.below);
    }

-- ---- those of a history

numbers_below : (n m : ℕ) (jobs : List Job) → m ≡ n + length jobs
    → All (λ one. ticket_in one < m) (enumerate_from n jobs)
numbers_below n m [] e = All-nil (λ one. ticket_in one < m)
numbers_below n m (job ∷ jobs) e =
    All-cons (λ one. ticket_in one < m) (n, job) (enumerate_from (n + 1) jobs) (omega (arith, e))
    (numbers_below (n + 1) m jobs (omega (arith, e)))

left_below : (s : State) (entry : Entry) (answer : Answer)
    → All (λ one. ticket_in one < (left_by answer s (turn_of s entry)).kept.next) (added_by s entry answer)
left_below s entry (Said reply) =
    let up = up_to_date s entry.told.moment entry.told.word in
    let jobs = jobs_in entry.ask in
    let grown = said_next up entry.ask entry.told.moment entry.told.word in
    All-weaker (λ one. ticket_in one < up.kept.next + length jobs)
    (λ one. ticket_in one < (turn_of s entry).state.kept.next) (λ one lower. omega (arith, grown, lower))
    (enumerate_from up.kept.next jobs)
    (numbers_below up.kept.next (up.kept.next + length jobs) jobs refl)
left_below s entry NoMemory = All-nil (λ one. ticket_in one < s.kept.next)
left_below s entry Full = All-nil (λ one. ticket_in one < s.kept.next)
left_below s entry DiskFault = All-nil (λ one. ticket_in one < s.kept.next)

next_below : (s : State) (entry : Entry)
    → All (λ one. ticket_in one < (next_state s entry).kept.next) (added_by s entry entry.answer)
unfolding next_state
next_below s entry = left_below s entry entry.answer

all_below : (s : State) (entries : List Entry)
    → All (λ one. ticket_in one < (state_after s entries).kept.next) (added s entries)
all_below s [] = All-nil (λ one. ticket_in one < s.kept.next)
all_below s (entry ∷ entries) =
    let next = next_state s entry in
    let end = (state_after next entries).kept.next in
    let risen = entries_rise next entries in
    All-append (λ one. ticket_in one < end) (added_by s entry entry.answer) (added next entries)
    (All-weaker (λ one. ticket_in one < next.kept.next) (λ one. ticket_in one < end)
    (λ one lower. omega (arith, risen, lower)) (added_by s entry entry.answer) (next_below s entry))
    (all_below next entries)

history_between : (s : State) (entries : List Entry)
    → LieBetween s.kept.next (state_after s entries).kept.next (added s entries)
history_between s entries = record {
  risen = entries_rise s entries;
  from = all_from s entries;
  below = all_below s entries;
  rise = rising_pairs ticket_in (added s entries) (added_once s entries);
}

-- ---- those of a command that a crash added

command_between : (kept : KeptState) (added : Option AddedCommand) → IsAdditionTo kept added
    → LieBetween kept.next (with_added kept added).next (added_by_command added)
command_between kept None may = none_between kept.next
command_between kept (Some command) may =
    let entries = entry_of command ∷ [] in
    let brought = added_by_command (Some command) in
    let between = subst (λ all. LieBetween command.state.kept.next (state_after command.state entries).kept.next all)
    (append-nil brought) (history_between command.state entries) in
    rw (added_kept kept command may.0 may.1)
    (subst (λ k. LieBetween k.next (state_after command.state entries).kept.next brought) may.0 between)

-- ---- those of runs

runs_between : (kept : KeptState) (runs : List Run) → IsWellKept kept → GoesOnFrom kept runs
    → LieBetween kept.next (kept_after kept runs).next (added_in_runs runs)
unfolding kept_after added_in_runs
runs_between kept [] well life = none_between kept.next
runs_between kept (run ∷ runs) well life =
    let on = onward kept run runs well life in
    let s = run.start.state in
    let end = (state_after s run.entries).kept in
    let first : LieBetween kept.next end.next (added s run.entries) =
    rw (← on.starts) (history_between s run.entries) in
    let second : LieBetween end.next (kept_behind run).next (added_by_command run.added) =
    rw (kept_of_run run) (command_between end run.added on.rest.addition) in
    let last = runs_between (kept_behind run) runs on.well on.life in
    both_between kept.next (kept_behind run).next (kept_after (kept_behind run) runs).next
    (added s run.entries ++ added_by_command run.added) (added_in_runs runs)
    (both_between kept.next end.next (kept_behind run).next (added s run.entries) (added_by_command run.added)
    first second) last

-- they rise, so none comes twice
pub life_adds_once : (runs : List Run) → IsLife runs → IsStrictlyIncreasing (map ticket_in (added_in_runs runs))
life_adds_once runs life =
    by_rising_pairs ticket_in (added_in_runs runs) (runs_between empty runs empty_well life.1).rise

-- The next number never falls: from any place in a run on to the end of the runs.
from_place : (kept : KeptState) (run : Run) (later : List Run) (front back : List Entry) → IsWellKept kept
    → GoesOnFrom kept (run ∷ later) → run.entries ≡ front ++ back
    → (state_after run.start.state front).kept.next ≤ (kept_after kept (run ∷ later)).next
unfolding kept_after
from_place kept run later front back well life same =
    let s = run.start.state in
    let on = onward kept run later well life in
    let rest = rest_goes_on s front back run.added (subst (λ all. IsRest s all run.added) same on.rest) in
    let risen = rest_rises (state_after s front) back run.added rest in
    let behind = ap (λ kept. kept.next) (kept_of_rest run front back same) in
    let more = runs_rise (kept_behind run) later on.well on.life in
    omega (arith, risen, behind, more)

pub life_rises : (earlier later : List Run) (run : Run) (front back : List Entry) → IsLife (earlier ++ run ∷ later)
    → run.entries ≡ front ++ back
    → (state_after run.start.state front).kept.next ≤ (kept_after empty (earlier ++ run ∷ later)).next
life_rises earlier later run front back life same =
    let parts = (goes_on empty earlier (run ∷ later)).0 life.1 in
    rw (kept_goes_on empty earlier (run ∷ later))
    (from_place (kept_after empty earlier) run later front back (runs_keep empty earlier empty_well parts.0) parts.1
    same)

-- What holds between turns holds when a server begins, and behind each legal history, and the next
-- number stays within its greatest.
use Rattle.std.proofs.Common.{ℕ, ◌≤◌, List, [], ◌∷◌, ◌++◌, arith}
use Rattle.std.specs.List.{IsDistinct}
use Rattle.fk_model.specs.declared.answer.Answer.{Answer}
use Rattle.fk_model.specs.declared.answer.Answer.TheVariants.{Said, NoMemory, Full, DiskFault}
use Rattle.fk_model.specs.declared.entry.Entry.{Entry}
use Rattle.fk_model.specs.Limits.{greatest_next}
use Rattle.fk_model.specs.State.{State, empty, without_workers}
use Rattle.fk_model.specs.Orders.{in_order}
use Rattle.fk_model.specs.Between.{IsWellKept, IsBetweenTurns}
use Rattle.fk_model.specs.History.{turn_of, left_by, next_state, state_after, IsRightAnswer, IsRight, IsLegalFrom}
use Rattle.fk_model.proofs.Histories.{legal_goes_on}
use Rattle.fk_model.proofs.Turning.{turn_keeps}

-- the empty kept state is well kept
pub empty_well : IsWellKept empty
unfolding in_order
empty_well = record {
  by_ticket = λ k within. absurd (omega (arith, within));
  above = record {
    tickets = λ k d within. absurd (omega (arith, within));
    ranks = λ k d within. absurd (omega (arith, within));
  };
  distinct = λ name k within. absurd (omega (arith, within));
  spelled = λ k d within. absurd (omega (arith, within));
  processed = omega arith;
  failures = omega arith;
}

-- and so a server begins as it is between turns
pub empty_between : IsBetweenTurns (without_workers empty)
unfolding IsDistinct
empty_between = record {
  kept = empty_well;
  names = tt;
}

-- what an answer leaves
left_keeps : (s : State) (entry : Entry) (answer : Answer) → IsBetweenTurns s → IsRight s entry
    → IsRightAnswer s entry answer → IsBetweenTurns (left_by answer s (turn_of s entry))
left_keeps s entry (Said reply) ready right said =
    turn_keeps s entry.ask entry.told.moment entry.told.word ready right.in_range right.told.moment said.0
left_keeps s entry NoMemory ready right said = ready
left_keeps s entry Full ready right said = ready
left_keeps s entry DiskFault ready right said = ready

-- an entry that is right keeps it
pub next_keeps : (s : State) (entry : Entry) → IsBetweenTurns s → IsRight s entry
    → IsBetweenTurns (next_state s entry)
unfolding next_state
next_keeps s entry ready right = left_keeps s entry entry.answer ready right right.answer

-- and so does each legal history
pub history_keeps : (s : State) (n : ℕ) (entries : List Entry) → IsBetweenTurns s
    → IsLegalFrom s n entries → IsBetweenTurns (state_after s entries)
unfolding IsLegalFrom
history_keeps s n [] ready legal = ready
history_keeps s n (entry ∷ entries) ready legal =
    history_keeps (next_state s entry) entry.told.after entries (next_keeps s entry ready legal.0) legal.2

-- behind each beginning of it
pub beginnings_keep : (s : State) (n : ℕ) (front back : List Entry) → IsBetweenTurns s
    → IsLegalFrom s n (front ++ back) → IsBetweenTurns (state_after s front)
beginnings_keep s n front back ready legal =
    history_keeps s n front ready ((legal_goes_on s n front back).0 legal).0

-- ---- the next number

left_within : (s : State) (entry : Entry) (answer : Answer) → s.kept.next ≤ greatest_next
    → IsRightAnswer s entry answer → (left_by answer s (turn_of s entry)).kept.next ≤ greatest_next
left_within s entry (Said reply) within said = omega (arith, said.0)
left_within s entry NoMemory within said = within
left_within s entry Full within said = within
left_within s entry DiskFault within said = within

next_within : (s : State) (entry : Entry) → s.kept.next ≤ greatest_next → IsRight s entry
    → (next_state s entry).kept.next ≤ greatest_next
unfolding next_state
next_within s entry within right = left_within s entry entry.answer within right.answer

-- a legal history keeps it within its greatest
history_within : (s : State) (n : ℕ) (entries : List Entry) → s.kept.next ≤ greatest_next
    → IsLegalFrom s n entries → (state_after s entries).kept.next ≤ greatest_next
unfolding IsLegalFrom
history_within s n [] within legal = within
history_within s n (entry ∷ entries) within legal =
    history_within (next_state s entry) entry.told.after entries (next_within s entry within legal.0) legal.2

pub beginnings_within : (s : State) (n : ℕ) (front back : List Entry) → s.kept.next ≤ greatest_next
    → IsLegalFrom s n (front ++ back) → (state_after s front).kept.next ≤ greatest_next
beginnings_within s n front back within legal =
    history_within s n front within ((legal_goes_on s n front back).0 legal).0

pub new_within : (n : ℕ) (front back : List Entry) → IsLegalFrom (without_workers empty) n (front ++ back)
    → (state_after (without_workers empty) front).kept.next ≤ greatest_next
new_within n front back legal = beginnings_within (without_workers empty) n front back (omega arith) legal

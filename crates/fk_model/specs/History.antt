-- The history of a server: one turn behind the other, and which histories are right.
use Rattle.std.specs.Prelude.{◌≡◌, ℕ, ◌<◌, ◌≤◌, List, [], ◌∷◌, Option, fold}
use Rattle.fk_time.specs.Moments.{greatest}
use Rattle.fk_model.specs.declared.row.Row.{Row}
use Rattle.fk_model.specs.declared.ask.Ask.{Ask}
use Rattle.fk_model.specs.declared.answer.Answer.{Answer}
use Rattle.fk_model.specs.declared.answer.Answer.TheVariants.{Said, NoMemory, Full, DiskFault}
use Rattle.fk_model.specs.declared.told.Told.{Told}
use Rattle.fk_model.specs.declared.told.Compaction.TheVariants.{NotDue}
use Rattle.fk_model.specs.declared.entry.Entry.{Entry}
use Rattle.fk_model.specs.Limits.{greatest_next}
use Rattle.fk_model.specs.Rows.{row_at}
use Rattle.fk_model.specs.State.{State}
use Rattle.fk_model.specs.Spellings.{IsWord}
use Rattle.fk_model.specs.Range.{IsInRange}
use Rattle.fk_model.specs.Said.{Effect}
use Rattle.fk_model.specs.Turns.{turn}

-- ---- the state after a turn

-- what the turn of an entry does, if it can be made
abbrev pub turn_of : State → Entry → Effect
turn_of state entry = turn state entry.ask entry.told.moment entry.told.word

-- the state that an answer leaves: but after Said it is as before
abbrev pub left_by : Answer → State → Effect → State
left_by (Said reply) state effect = effect.state
left_by NoMemory state effect = state
left_by Full state effect = state
left_by DiskFault state effect = state

-- the next state
unfoldable pub next_state : State → Entry → State
next_state state entry = left_by entry.answer state (turn_of state entry)

-- the state after a history
abbrev pub state_after : State → List Entry → State
state_after state entries = fold next_state state entries

-- the row of a ticket behind a history, if there is one
abbrev pub row_after : State → List Entry → ℕ → Option Row
row_after state entries ticket = row_at (state_after state entries).kept.rows ticket

-- ---- what makes an entry right

-- a turn would be over its limit: the next number would be beyond the greatest
abbrev pub IsOverLimit : State → Ask → ℕ → ℕ → Type 0
IsOverLimit state ask moment word = greatest_next < (turn state ask moment word).state.kept.next

-- the turn of an entry would be
abbrev pub EntryIsOverLimit : State → Entry → Type 0
EntryIsOverLimit state entry = IsOverLimit state entry.ask entry.told.moment entry.told.word

-- what is told of a turn: a moment below the greatest, a word of 64 bits, and, as long as there is no
-- disk, neither a fault nor a compaction
pub record IsTold (told : Told) : Type 0 where
  pub moment : told.moment < greatest
  pub word : IsWord told.word
  pub before : told.before ≡ 0
  pub after : told.after ≡ 0
  pub compaction : told.compaction ≡ NotDue

-- An answer is right: Said, with the turn's reply, where the turn isn't over its limit, and Full where
-- it is. Memory may run out in any turn, and there is no disk yet.
abbrev pub IsRightAnswer : State → Entry → Answer → Type 0
IsRightAnswer state entry (Said reply) =
    (¬ EntryIsOverLimit state entry) × (reply ≡ (turn_of state entry).reply)
IsRightAnswer state entry NoMemory = Unit {0}
IsRightAnswer state entry Full = EntryIsOverLimit state entry
IsRightAnswer state entry DiskFault = ⊥

-- an entry is right in a state: its ask is one that a turn may be made of, what is told of the turn is
-- as it has to be, and its answer is right
pub record IsRight (state : State) (entry : Entry) : Type 0 where
  pub in_range : IsInRange entry.ask
  pub told : IsTold entry.told
  pub answer : IsRightAnswer state entry entry.answer

-- a step: the entry is right, and leads from one state to the other
pub record IsStep (state : State) (entry : Entry) (after_state : State) : Type 0 where
  pub right : IsRight state entry
  pub leads : after_state ≡ next_state state entry

-- ---- histories

-- the count of faults behind a history, which has at least this many before it
abbrev pub faults_after : ℕ → List Entry → ℕ
faults_after faults entries = fold (λ before entry. entry.told.after) faults entries

-- A history is legal from a state and a count of faults on: each entry is right in the state that
-- those before it leave, and begins with no fewer faults than the one before it ended with.
unfoldable pub IsLegalFrom : State → ℕ → List Entry → Type 0
IsLegalFrom state faults [] = Unit {0}
IsLegalFrom state faults (entry ∷ entries) =
    IsRight state entry × (faults ≤ entry.told.before)
    × IsLegalFrom (next_state state entry) entry.told.after entries

-- a history is legal from a state on
abbrev pub IsLegal : State → List Entry → Type 0
IsLegal state entries = IsLegalFrom state 0 entries

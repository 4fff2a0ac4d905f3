-- What a turn makes of the parts of a store: its two files, the moves in doubt, the tables, and the room for a turn.
use Rattle.std.specs.Prelude.{◌≡◌, ◌≢◌, ◌⊎◌, ℕ, ◌+◌, ◌-◌, ◌<◌, Bool, IsTrue, is_some, List, [], ◌∷◌, length, Option, IsSomeAnd, slice_get}
use Rattle.fk_frame.specs.declared.reply.Reply.{Reply}
use Rattle.fk_journal.specs.JournalState.{JournalState}
use Rattle.fk_journal.specs.Limits.{greatest_file, greatest_number, overhead}
use Rattle.fk_model.specs.declared.ask.Ask.{Ask}
use Rattle.fk_model.specs.declared.answer.Answer.{Answer}
use Rattle.fk_model.specs.declared.answer.Answer.TheVariants.{Said, NoMemory, Full, DiskFault}
use Rattle.fk_model.specs.declared.move_.Move.{Move}
use Rattle.fk_model.specs.declared.move_.Move.TheVariants.{Totals}
use Rattle.fk_model.specs.declared.told.Compaction.TheVariants.{NotDue}
use Rattle.fk_model.specs.declared.told.Told.{Told}
use Rattle.fk_model.specs.Between.{IsBetweenTurns}
use Rattle.fk_model.specs.Changes.{after_moves}
use Rattle.fk_model.specs.Limits.{greatest_next}
use Rattle.fk_model.specs.State.{KeptState, State, Worker}
use Rattle.fk_model.specs.Workers.{after_turn}
use Rattle.fk_model.specs.Turns.{moves_of_turn}
use Rattle.fk_moves.specs.Spelling.{moves_bytes}
use Rattle.fk_lives.specs.Causes.{HasDiskCause}
use Rattle.fk_lives.specs.Doubt.{IsDoubtAfter, IsSound}
use Rattle.fk_lives.specs.OnDisk.{HasRisen, IsStepOnDisk}
use Rattle.fk_lives.specs.Ways.{Disks, disks}
use Rattle.fk_shelf.specs.ShelfState.{ShelfState}
use Rattle.fk_desk.specs.Keeping.{CallsNoDisk, TurnGoesOn, entry_of}
use Rattle.fk_store.specs.StoreState.{IsOwedFor, IsWritten, server_of}
use Rattle.fk_store.specs.RoomForTurns.{IsOneDrop}

-- ---- the two files

-- the moments of both disks, and what a crash may leave at each
abbrev pub disks_of : {D : Type 0} → (D → ℕ) → (D → ℕ → List ℕ → Type 0) → ShelfState D → Disks
disks_of moment images shelf =
    disks (moment shelf.live.disk) (images shelf.live.disk) (moment shelf.other) (images shelf.other)

-- how often a call of a disk has failed, of both together
abbrev pub faults_of : {D : Type 0} → (D → ℕ) → ShelfState D → ℕ
faults_of count shelf = count shelf.live.disk + count shelf.other

-- The closed gate of the live file was reached. What the file tells up to there, if it tells anything, is what is
-- kept, and a piece is owed exactly where moves are in doubt: it is theirs.
pub record TellsKept {D : Type 0} (told : Bool) (shelf : ShelfState D) (kept : KeptState) (doubt : Option (List Move)) :
    Type 0 where
  pub done : IsTrue shelf.live.done
  pub both : is_some doubt ≡ is_some shelf.live.owed
  pub written : IsTrue told → IsWritten shelf.live.front kept shelf.live.number shelf.live.place
  pub owed : IsTrue told → IsOwedFor kept shelf.live.number shelf.live.owed doubt

-- a crash now leaves what stands for what is kept, with or without what is in doubt
abbrev pub AreSound : Disks → KeptState → Option (List Move) → Type 0
AreSound now kept doubt = IsSound kept doubt (now.images_a now.at_a) (now.images_b now.at_b)

-- ---- moves

-- a move tells a next number beyond the greatest
abbrev pub IsBeyond : Move → Type 0
IsBeyond (Totals next processed failures) = greatest_next < next
IsBeyond other = ⊥

-- the last of the moves does
abbrev pub EndBeyond : List Move → Type 0
EndBeyond moves = IsSomeAnd (slice_get moves (length moves - 1)) IsBeyond

-- there is no number for one more piece of so many bytes of moves, or no place for it behind a size
abbrev pub IsFull : ℕ → ℕ → ℕ → Type 0
IsFull number size count = (greatest_number < number) ⊎ (greatest_file < size + overhead + count)

-- moves would be over a limit: their next number would be beyond the greatest, or there are some, and the journal is
-- full for their piece
abbrev pub AreOver : {D : Type 0} → JournalState D → List Move → Type 0
AreOver live moves =
    EndBeyond moves ⊎ ((moves ≢ []) × IsFull live.number (live.place + 1) (length (moves_bytes moves)))

-- ---- what is made of moves

-- the number of the next piece behind a piece of moves, and the place of the closed gate. Where there is none, no
-- piece is written
abbrev pub number_behind : ℕ → List Move → ℕ
number_behind number [] = number
number_behind number (move ∷ moves) = number + 1

abbrev pub place_behind : ℕ → List Move → ℕ
place_behind place [] = place
place_behind place (move ∷ moves) = place + overhead + length (moves_bytes (move ∷ moves))

-- these moves were made: in the tables, and in the live file
pub record AreMade {D : Type 0} (moves : List Move) (kept now : KeptState) (live after : JournalState D) : Type 0 where
  pub come : now ≡ after_moves kept moves
  pub next : after.number ≡ number_behind live.number moves
  pub behind : after.place ≡ place_behind live.place moves

-- the moves that an answer leaves made: all after Said, and else none
abbrev pub made_by : Answer → List Move → List Move
made_by (Said reply) moves = moves
made_by NoMemory moves = []
made_by Full moves = []
made_by DiskFault moves = []

-- An answer to moves is right, where this is to be said, the live file was so, and the counts of faults were these
-- before and after: Said unless they are over a limit, and Full where they are. A fault of a disk comes only where
-- there are moves and a disk failed, and want of memory never where one row leaves, or none is changed.
abbrev pub IsRightTo : {D : Type 0} → Answer → Reply → List Move → JournalState D → ℕ → ℕ → Type 0
IsRightTo (Said said) reply moves live before after = (¬ AreOver live moves) × (said ≡ reply)
IsRightTo NoMemory reply moves live before after = (moves ≢ []) × (¬ IsOneDrop moves)
IsRightTo Full reply moves live before after = AreOver live moves
IsRightTo DiskFault reply moves live before after = (¬ AreOver live moves) × (moves ≢ []) × HasRisen before after

-- What an answer to moves leaves of the parts of a store, where this is to be said.
pub record AreCarriedOut {D : Type 0} (tells : D → Bool) (count moment : D → ℕ) (images : D → ℕ → List ℕ → Type 0)
    (answer : Answer) (reply : Reply) (moves : List Move) (before after : ShelfState D) (kept now : KeptState)
    (doubt in_doubt : Option (List Move)) : Type 0 where
  pub right : IsRightTo answer reply moves before.live (faults_of count before) (faults_of count after)
  pub made : AreMade (made_by answer moves) kept now before.live after.live
  pub told : TellsKept (tells after.live.disk) after now in_doubt
  pub doubted : IsDoubtAfter answer moves doubt in_doubt
  pub crash : TurnGoesOn kept doubt moves (disks_of moment images before) (disks_of moment images after)
  pub same : CallsNoDisk answer moves → after ≡ before
  pub cause : HasDiskCause (answer ≡ DiskFault) (count before.live.disk) (count after.live.disk)
      (count before.other) (count after.other)

-- ---- turns

-- what is told of a turn, where the counts of faults of both disks were these before and after
abbrev pub told_of : ℕ → ℕ → ℕ → ℕ → Told
told_of moment word before after =
    record { moment = moment; word = word; before = before; after = after; compaction = NotDue }

-- the workers behind a turn: they act after Said
abbrev pub workers_behind : Answer → Ask → ℕ → List Worker → List Worker
workers_behind (Said reply) ask moment workers = after_turn ask moment workers
workers_behind NoMemory ask moment workers = workers
workers_behind Full ask moment workers = workers
workers_behind DiskFault ask moment workers = workers

-- What a turn makes of the parts of a store, between these states.
pub record IsTurn {D : Type 0} (tells : D → Bool) (count moment : D → ℕ) (images : D → ℕ → List ℕ → Type 0)
    (ask : Ask) (at word : ℕ) (answer : Answer) (before after : ShelfState D) (state now : State)
    (doubt in_doubt : Option (List Move)) : Type 0 where
  pub step : (seat : ℕ) → IsStepOnDisk (server_of state before.live)
      (entry_of seat ask (told_of at word (faults_of count before) (faults_of count after)) answer)
      (server_of now after.live)
  pub between : IsBetweenTurns now
  pub told : TellsKept (tells after.live.disk) after now.kept in_doubt
  pub doubted : IsDoubtAfter answer (moves_of_turn state ask at word) doubt in_doubt
  pub crash : TurnGoesOn state.kept doubt (moves_of_turn state ask at word)
      (disks_of moment images before) (disks_of moment images after)
  pub same : CallsNoDisk answer (moves_of_turn state ask at word) → after ≡ before
  pub cause : HasDiskCause (answer ≡ DiskFault) (count before.live.disk) (count after.live.disk)
      (count before.other) (count after.other)

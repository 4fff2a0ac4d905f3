-- A server on disk: its state with the numbers of its journal, its turns, and their history.
use Rattle.std.specs.Prelude.{◌≡◌, ◌≢◌, ◌⊎◌, ℕ, ◌+◌, ◌<◌, ◌≤◌, List, [], ◌∷◌, ◌++◌, length, fold}
use Rattle.fk_time.specs.Moments.{greatest}
use Rattle.fk_journal.specs.Limits.{greatest_file, greatest_number, overhead}
use Rattle.fk_model.specs.declared.ask.Ask.{Ask}
use Rattle.fk_model.specs.declared.ask.Ask.TheVariants.{Ack, Beat}
use Rattle.fk_model.specs.declared.answer.Answer.{Answer}
use Rattle.fk_model.specs.declared.answer.Answer.TheVariants.{Said, NoMemory, Full, DiskFault}
use Rattle.fk_model.specs.declared.told.Told.{Told}
use Rattle.fk_model.specs.declared.told.Compaction.TheVariants.{NotDue}
use Rattle.fk_model.specs.declared.entry.Entry.{Entry}
use Rattle.fk_model.specs.declared.move_.Move.{Move}
use Rattle.fk_model.specs.Limits.{greatest_count}
use Rattle.fk_model.specs.State.{State, empty, without_workers}
use Rattle.fk_model.specs.Spellings.{IsWord}
use Rattle.fk_model.specs.Range.{IsInRange}
use Rattle.fk_model.specs.Due.{IsUpToDate}
use Rattle.fk_model.specs.Turns.{turn, moves_of_turn}
use Rattle.fk_model.specs.History.{IsOverLimit, turn_of}
use Rattle.fk_moves.specs.Spelling.{moves_bytes}

-- the state of a server on disk: what a server without one has, and of its journal the number of the next piece,
-- and the place behind the closed gate of the live file
pub record Server : Type 0 where
  pub state : State
  pub number : ℕ
  pub size : ℕ

-- a server on blank files: nothing is kept, and the first file is made
abbrev pub new_server : Server
new_server = record { state = without_workers empty; number = 1; size = 60 }

-- ---- the state after a turn

-- the server with this state, behind a piece of these moves. Where there is none, no piece is written: of a turn
-- between turns that is exactly where the kept state stays
abbrev pub behind_piece : Server → State → List Move → Server
behind_piece server state [] = record server { state = state }
behind_piece server state (move ∷ moves) = record {
  state = state;
  number = server.number + 1;
  size = server.size + overhead + length (moves_bytes (move ∷ moves));
}

-- the moves of an entry's turn: there is none where it leaves the kept state as it is
abbrev pub moves_of_entry : Server → Entry → List Move
moves_of_entry server entry =
    moves_of_turn server.state entry.ask entry.told.moment entry.told.word

-- the server that an answer leaves: but after Said it is as before
abbrev pub left_on_disk : Answer → Server → Entry → Server
left_on_disk (Said reply) server entry =
    behind_piece server (turn_of server.state entry).state (moves_of_entry server entry)
left_on_disk NoMemory server entry = server
left_on_disk Full server entry = server
left_on_disk DiskFault server entry = server

-- the next one, and the one after a history
unfoldable pub next_on_disk : Server → Entry → Server
next_on_disk server entry = left_on_disk entry.answer server entry

abbrev pub after_on_disk : Server → List Entry → Server
after_on_disk server entries = fold next_on_disk server entries

-- ---- what makes an entry right

-- a turn changes the kept state
abbrev pub Changes : Server → Ask → ℕ → ℕ → Type 0
Changes server ask moment word =
    (turn server.state ask moment word).state.kept ≢ server.state.kept

-- there is no number for one more piece of these moves, or no place for it in the live file
abbrev pub IsJournalFull : Server → List Move → Type 0
IsJournalFull server moves =
    (greatest_number < server.number)
    ⊎ (greatest_file < server.size + overhead + length (moves_bytes moves))

-- A turn would be over a limit: the next number would be beyond the greatest, or the kept state changes and the
-- journal is full for its piece.
abbrev pub IsOver : Server → Ask → ℕ → ℕ → Type 0
IsOver server ask moment word =
    IsOverLimit server.state ask moment word
    ⊎ (Changes server ask moment word
    × IsJournalFull server (moves_of_turn server.state ask moment word))

-- an acknowledgement or a beat: a turn of one takes no memory where nothing is due
abbrev pub IsAckOrBeat : Ask → Type 0
IsAckOrBeat ask = ((jid : List ℕ) × (ask ≡ Ack jid)) ⊎ ((wid : List ℕ) × (ask ≡ Beat wid))

-- the sum of both disks' counts of faults rose, or is so great that one of them may stand at its end
abbrev pub HasRisen : ℕ → ℕ → Type 0
HasRisen before after = (before < after) ⊎ (greatest_count ≤ after)

-- what is told of a turn: a moment below the greatest, a word of 64 bits, counts that don't fall, and, as long as
-- there is one file, no compaction
pub record IsToldOnDisk (told : Told) : Type 0 where
  pub moment : told.moment < greatest
  pub word : IsWord told.word
  pub faults : told.before ≤ told.after
  pub compaction : told.compaction ≡ NotDue

-- An answer is right: Said, with the turn's reply, where the turn isn't over a limit, and Full where it is.
-- DiskFault comes only where the turn changes the kept state and a disk failed in it. Memory may run out in any
-- turn but an acknowledgement or a beat where nothing is due.
abbrev pub IsRightOnDisk : Server → Entry → Answer → Type 0
IsRightOnDisk server entry (Said reply) =
    (¬ IsOver server entry.ask entry.told.moment entry.told.word)
    × (reply ≡ (turn_of server.state entry).reply)
IsRightOnDisk server entry NoMemory =
    IsAckOrBeat entry.ask → ¬ IsUpToDate entry.told.moment server.state.kept
IsRightOnDisk server entry Full = IsOver server entry.ask entry.told.moment entry.told.word
IsRightOnDisk server entry DiskFault =
    (¬ IsOver server entry.ask entry.told.moment entry.told.word)
    × Changes server entry.ask entry.told.moment entry.told.word
    × HasRisen entry.told.before entry.told.after

-- a step: an entry with an ask in range, of which the right thing is told and answered, leads from one to another
pub record IsStepOnDisk (server : Server) (entry : Entry) (after_server : Server) : Type 0 where
  pub in_range : IsInRange entry.ask
  pub told : IsToldOnDisk entry.told
  pub answer : IsRightOnDisk server entry entry.answer
  pub leads : after_server ≡ next_on_disk server entry

-- ---- histories

-- A history is legal from a server and a count of faults on: each entry is a step from the server that those before
-- it leave, and begins with no fewer faults than the one before it ended with.
unfoldable pub IsLegalOnDisk : Server → ℕ → List Entry → Type 0
IsLegalOnDisk server faults [] = Unit {0}
IsLegalOnDisk server faults (entry ∷ entries) =
    IsStepOnDisk server entry (next_on_disk server entry) × (faults ≤ entry.told.before)
    × IsLegalOnDisk (next_on_disk server entry) entry.told.after entries

-- no entry of a history changes what is kept: it is as before behind each of its fronts
abbrev pub KeepAll : Server → List Entry → Type 0
KeepAll server entries = (front back : List Entry) → entries ≡ front ++ back →
    (after_on_disk server front).state.kept ≡ server.state.kept

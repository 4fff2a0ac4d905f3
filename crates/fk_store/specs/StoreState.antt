-- A store over two disks, as its callers see it.
use Rattle.std.specs.Prelude.{◌≡◌, ℕ, ◌+◌, ◌≤◌, List, length, Option, None, Some}
use Rattle.fk_journal.specs.JournalState.{JournalState}
use Rattle.fk_journal.specs.Limits.{greatest_number}
use Rattle.fk_journal.specs.Pieces.{framed, HasLength}
use Rattle.fk_model.specs.declared.move_.Move.{Move}
use Rattle.fk_model.specs.declared.told.Told.{Told}
use Rattle.fk_model.specs.State.{KeptState, State, untold}
use Rattle.fk_model.specs.Changes.{EndsWithTotals, FitInTurn, Lead}
use Rattle.fk_moves.specs.Spelling.{moves_bytes}
use Rattle.fk_lives.specs.Files.{AreContents, Contents, front_of, moves_in, number_in}
use Rattle.fk_lives.specs.OnDisk.{Server}
use Rattle.fk_shelf.specs.ShelfState.{ShelfState}

-- the state with the journal's numbers, what the clock and the dice tell, what is in doubt, what the last turn told of
-- itself, and the two files
pub record StoreState (D C J : Type 0) : Type 0 where
  pub server : Server
  pub moments : Option (List ℕ)
  pub words : Option (List ℕ)
  pub doubt : Option (List Move)
  pub last : Told
  pub shelf : ShelfState D

-- the server of a state and of the live file's journal
abbrev pub server_of : {D : Type 0} → State → JournalState D → Server
server_of state live = record { state = state; number = live.number; size = live.place + 1 }

-- what a read of the live file gives up to its closed gate tells what is kept, with these numbers
pub record IsWritten (front : List ℕ) (kept : KeptState) (number place : ℕ) : Type 0 where
  pub contents : Contents
  pub are : AreContents contents
  pub whole : front ≡ front_of contents
  pub leads : Lead untold (moves_in contents) kept
  pub next : number ≡ number_in contents
  pub behind : place ≡ length (front_of contents)

-- moves may stand in the next piece behind what is kept
pub record MayFollow (kept : KeptState) (number : ℕ) (moves : List Move) : Type 0 where
  pub fit : FitInTurn kept moves
  pub list : EndsWithTotals moves
  pub short : HasLength (moves_bytes moves)
  pub within : number ≤ greatest_number

-- the piece that is owed is that of the moves in doubt, and nothing is in doubt where none is owed
abbrev pub IsOwedFor : KeptState → ℕ → Option (List ℕ) → Option (List Move) → Type 0
IsOwedFor kept number None None = Unit {0}
IsOwedFor kept number None (Some moves) = ⊥
IsOwedFor kept number (Some piece) None = ⊥
IsOwedFor kept number (Some piece) (Some moves) =
    (piece ≡ framed number (moves_bytes moves)) × MayFollow kept number moves

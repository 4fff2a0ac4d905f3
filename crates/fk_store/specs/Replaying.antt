-- Where the replay of a live file stands, and what it has made.
use Rattle.std.specs.Prelude.{◌≡◌, ℕ, ◌+◌, ◌-◌, ◌^◌, ◌≤◌, List, length, take, None, Some}
use Rattle.std.specs.Option.{option_map_or}
use Rattle.fk_journal.specs.declared.fault.Damage.{Damage}
use Rattle.fk_journal.specs.declared.fault.File.TheVariants.{A}
use Rattle.fk_model.specs.declared.move_.Move.{Move}
use Rattle.fk_model.specs.Between.{IsWellKept}
use Rattle.fk_model.specs.Changes.{EndsWithTotals, FitInTurn, Lead}
use Rattle.fk_model.specs.State.{KeptState, untold}
use Rattle.fk_moves.specs.Lists.{Spells}
use Rattle.fk_lives.specs.declared.header.Header.{Header}
use Rattle.fk_lives.specs.Damages.{HasHeader, IsDamagedFileAt}
use Rattle.fk_lives.specs.Files.{IsBlank, snapshot_at}
use Rattle.fk_shelf.specs.ShelfState.{ShelfState}
use Rattle.fk_store.specs.StoreState.{IsWritten}

-- ---- one list of moves

-- bytes spell a list of moves as a file has it, each of them fits, and they lead from one kept state to another
pub record IsMade (bytes : List ℕ) (before after : KeptState) : Type 0 where
  pub moves : List Move
  pub spells : Spells bytes moves
  pub list : EndsWithTotals moves
  pub leads : Lead before moves after

-- bytes spell no such moves
abbrev pub IsUnfit : List ℕ → KeptState → Type 0
IsUnfit bytes kept = (moves : List Move) → Spells bytes moves → EndsWithTotals moves → ¬ FitInTurn kept moves

-- ---- a file

-- a file's gate is open, its header is right, and its snapshot, of so many bytes, is whole: the first piece has this
-- number, and this is the place of its gate
pub record IsSnapshotDue (count number place : ℕ) (file : List ℕ) : Type 0 where
  pub header : Header
  pub bytes : header.length ≡ count
  pub gate : ¬ IsBlank file
  pub right : HasHeader header file
  pub whole : place ≤ length file
  pub behind : place ≡ snapshot_at + count
  pub next : number ≡ header.base + 1

-- Where a replay stands: before the snapshot nothing was made, and behind it what was made is what the file tells up
-- to the gate that is due.
pub record HasCome {D : Type 0} (told : Type 0) (file : List ℕ) (kept : KeptState)
    (shelf : ShelfState D) : Type 0 where
  pub live : shelf.live.file ≡ A
  pub free : shelf.live.owed ≡ None
  pub front : told → shelf.live.front ≡ take shelf.live.place file
  pub well : IsWellKept kept
  pub first : (count : ℕ) → shelf.snapshot ≡ Some count →
      (kept ≡ untold) × (told → IsSnapshotDue count shelf.live.number shelf.live.place file)
  pub later : shelf.snapshot ≡ None → told →
      IsWritten shelf.live.front kept shelf.live.number shelf.live.place

-- a replay goes on: from the snapshot to the pieces, and from piece to piece, whose places are numbers of 64 bits
abbrev pub left_of : {D : Type 0} → ShelfState D → ℕ
left_of shelf = option_map_or (λ count. 1) shelf.snapshot 0 + (2 ^ 64 - shelf.live.place)

-- this damage of file A is one that it has
abbrev pub IsDamageOf : List ℕ → Damage → Type 0
IsDamageOf file damage = (damage ≡ record { file = A; at = damage.at }) × IsDamagedFileAt damage.at file

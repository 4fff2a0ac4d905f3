-- What opening makes of two files.
use Rattle.std.specs.Prelude.{◌≡◌, ◌⊎◌, ℕ, ◌+◌, ◌≤◌, ◌<◌, false, List, length, take, None, Some}
use Rattle.fk_journal.specs.declared.fault.Damage.{Damage}
use Rattle.fk_journal.specs.declared.fault.File.TheVariants.{A, B}
use Rattle.fk_journal.specs.Limits.{greatest_number}
use Rattle.fk_model.specs.State.{KeptState}
use Rattle.fk_lives.specs.declared.header.Header.{Header}
use Rattle.fk_lives.specs.Files.{IsBlank, new_file, snapshot_at}
use Rattle.fk_lives.specs.Damages.{HasHeader, IsHeaderDamagedAt}
use Rattle.fk_lives.specs.Standing.{Stands}
use Rattle.fk_lives.specs.Ways.{Disks, EachPair, GoOn}
use Rattle.fk_shelf.specs.ShelfState.{ShelfState}

-- what file A is once it is open: as it was, or a new file in the place of a blank one
abbrev pub IsOpened : List ℕ → List ℕ → Type 0
IsOpened before now = ((¬ IsBlank before) × (now ≡ before)) ⊎ (IsBlank before × (now ≡ new_file))

-- a blank file, or a new one: what may be left while it is made
abbrev pub IsBlankOrNew : List ℕ → Type 0
IsBlankOrNew file = IsBlank file ⊎ (file ≡ new_file)

-- what may be left of file A while it is opened: as it was, or, where it was blank, what is left while it is made
abbrev pub MayBecome : List ℕ → List ℕ → Type 0
MayBecome before now = (now ≡ before) ⊎ (IsBlank before × IsBlankOrNew now)

-- what a refused opening leaves of two files
pub record KeepFiles (a b now_a now_b : List ℕ) : Type 0 where
  pub first : MayBecome a now_a
  pub second : now_b ≡ b

-- the file's gate is open, it has this header, and its snapshot whole, and a read gave this up to the first piece
pub record IsReady (header : Header) (front file : List ℕ) : Type 0 where
  pub gate : ¬ IsBlank file
  pub right : HasHeader header file
  pub whole : snapshot_at + header.length ≤ length file
  pub read : front ≡ take (snapshot_at + header.length) file

-- the shelf begins with this header: nothing was replayed, and nothing is owed
pub record Begins {D : Type 0} (header : Header) (shelf : ShelfState D) : Type 0 where
  pub file : shelf.live.file ≡ A
  pub generation : shelf.generation ≡ header.generation
  pub place : shelf.live.place ≡ snapshot_at + header.length
  pub number : shelf.live.number ≡ header.base + 1
  pub base : header.base ≤ greatest_number
  pub snapshot : shelf.snapshot ≡ Some header.length
  pub begun : shelf.live.done ≡ false
  pub free : shelf.live.owed ≡ None

-- behind a header that is right the file ends within the snapshot
pub record IsSnapshotCut (file : List ℕ) : Type 0 where
  pub header : Header
  pub right : HasHeader header file
  pub cut : length file < snapshot_at + header.length

-- the damages that are told before anything is replayed
abbrev pub IsOpeningDamage : List ℕ → List ℕ → Damage → Type 0
IsOpeningDamage a b damage =
    ((damage ≡ record { file = B; at = 0 }) × (¬ IsBlank b))
    ⊎ ((damage ≡ record { file = A; at = damage.at }) × IsBlank b × (¬ IsBlank a)
    × (IsHeaderDamagedAt damage.at a ⊎ ((damage.at ≡ snapshot_at) × IsSnapshotCut a)))

-- a pair of files stands for one of two kept states
abbrev pub StandsForOne : KeptState → KeptState → List ℕ → List ℕ → Type 0
StandsForOne kept other a b = Stands a b kept ⊎ Stands a b other

-- calls go on so that each pair of images stands for one of two kept states, if each did at their start
pub record StandOn (before after : Disks) : Type 0 where
  pub each : (kept other : KeptState) →
      EachPair (StandsForOne kept other) (before.images_a before.at_a) (before.images_b before.at_b) →
      GoOn (StandsForOne kept other) before after

-- what is found in the first bytes of a file of this length, of which there are at most 34: a header that is right,
-- with its snapshot whole
pub record IsFound (header : Header) (len : ℕ) (head : List ℕ) : Type 0 where
  pub right : HasHeader header head
  pub whole : snapshot_at + header.length ≤ len

-- or a damage, told at its place: a field of the header that is cut or wrong, or a snapshot that is cut
abbrev pub IsFoundDamagedAt : ℕ → ℕ → List ℕ → Type 0
IsFoundDamagedAt at len head =
    IsHeaderDamagedAt at head
    ⊎ ((at ≡ snapshot_at) × ((header : Header) × HasHeader header head × (len < snapshot_at + header.length)))

-- What holds of the two files of a shelf between its calls.
use Rattle.std.specs.Prelude.{◌≡◌, ℕ, ◌+◌, ◌≤◌, ◌<◌, ◌^◌, Bool, false, IsTrue, List, length, Option, None, Some}
use Rattle.fk_disk.specs.Moments.{LeavesOnly}
use Rattle.fk_journal.specs.JournalState.{JournalState}
use Rattle.fk_journal.specs.Passing.{EachImage}
use Rattle.fk_journal.specs.Standing.{IsAtRest}
use Rattle.fk_journal.specs.declared.fault.File.TheVariants.{A}
use Rattle.fk_lives.specs.Files.{IsBlank, snapshot_at}

-- the snapshot of this length is still to be replayed: the live file stands behind it, and has it whole
pub record IsDue {D : Type 0} (n : ℕ) (live : JournalState D) (told : Bool) (content : List ℕ) : Type 0 where
  pub begun : live.done ≡ false
  pub place : live.place ≡ snapshot_at + n
  pub fits : snapshot_at + n < 2 ^ 64
  pub whole : IsTrue told → snapshot_at + n ≤ length content

-- The other file is blank and synced. The live one is synced, and nothing of it is owed, until its closed gate was
-- reached, and from then on it is as an append leaves it.
pub record IsHeld {D : Type 0} (live : JournalState D) (snapshot : Option ℕ) (told : Bool) (content : List ℕ)
    (images others : List ℕ → Type 0) : Type 0 where
  pub file : live.file ≡ A
  pub within : IsTrue live.done → live.place + 1 < 2 ^ 64
  pub blank : EachImage others IsBlank
  pub due : (n : ℕ) → snapshot ≡ Some n → IsDue n live told content
  pub synced : live.done ≡ false → LeavesOnly content images
  pub free : live.done ≡ false → live.owed ≡ None
  pub rest : IsTrue live.done → EachImage images (IsAtRest live.front live.owed)

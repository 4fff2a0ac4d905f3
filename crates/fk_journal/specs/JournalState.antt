-- A file of pieces, as the callers of a journal see it.
use Rattle.std.specs.Prelude.{ℕ, ◌+◌, ◌<◌, ◌⊎◌, Bool, List, take, drop, Option, option_map}
use Rattle.fk_journal.specs.declared.fault.File.{File}
use Rattle.fk_journal.specs.Limits.{greatest_file, greatest_number}

-- its disk, which file it is, the place of the gate at which replay stands or which is closed behind the
-- last piece, the next number, whether replay was done, what a read gives up to the gate, and the piece
-- that is owed, if one is: its gate may be open
pub record JournalState (D : Type 0) : Type 0 where
  pub disk : D
  pub file : File
  pub place : ℕ
  pub number : ℕ
  pub done : Bool
  pub front : List ℕ
  pub owed : Option (List ℕ)

-- the piece that is owed, by its length: it stands behind the gate
abbrev pub owed_piece : List ℕ → ℕ → Option ℕ → Option (List ℕ)
owed_piece content place owed = option_map (λ count. take count (drop (place + 1) content)) owed

-- no piece of this length may be written here: the place behind its closed gate would be above the
-- greatest, or its number is
abbrev pub IsFullFor : ℕ → ℕ → ℕ → Type 0
IsFullFor place number count = (greatest_file < place + count + 1) ⊎ (greatest_number < number)

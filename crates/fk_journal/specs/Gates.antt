-- What stands at a place where a gate is due.
use Rattle.std.specs.Prelude.{◌≡◌, ◌≢◌, ℕ, ◌+◌, ◌^◌, ◌<◌, ◌≤◌, List, length, take, drop, slice_index}
use Rattle.std.specs.Int.{w64, to_be_bytes}
use Rattle.fk_journal.specs.Limits.{greatest_number}
use Rattle.fk_journal.specs.Pieces.{open_gate}
use Rattle.fk_journal.specs.declared.reading.Gate.{Gate}
use Rattle.fk_journal.specs.declared.reading.Head.{Head}
use Rattle.fk_journal.specs.declared.reading.Gate.TheVariants.{Missing, Closed, Open}

-- what it was found to be
abbrev pub IsGate : ℕ → List ℕ → Gate → Type 0
IsGate place file Missing = length file ≤ place
IsGate place file Closed = (place < length file) × (slice_index file place ≢ open_gate)
IsGate place file (Open left) = (length file ≡ place + 1 + left) × (slice_index file place ≡ open_gate)

-- what it was found to be ends within the places that there are
abbrev pub IsPlaced : ℕ → Gate → Type 0
IsPlaced place Missing = Unit {0}
IsPlaced place Closed = place + 1 < 2 ^ 64
IsPlaced place (Open left) = place + 1 + left < 2 ^ 64

-- the number and the length are spelled from this place on
pub record IsHead (at : ℕ) (file : List ℕ) (head : Head) : Type 0 where
  pub first : to_be_bytes w64 head.number ≡ take 8 (drop at file)
  pub second : to_be_bytes w64 head.length ≡ take 8 (drop (at + 8) file)

-- this head isn't that of the piece that is due, where so many bytes are left
abbrev pub IsWrong : ℕ → ℕ → Head → Type 0
IsWrong number left head =
    head.number ≡ number → number ≤ greatest_number → left < 16 + head.length

-- Which bytes spell a list of moves, and how far other bytes go on like such a list.
use Rattle.std.specs.Prelude.{◌≡◌, ℕ, ◌≤◌, List, ◌++◌, length, take, All}
use Rattle.fk_model.specs.declared.move_.Move.{Move}
use Rattle.fk_model.specs.Spellings.{HasSpelling}
use Rattle.fk_moves.specs.Spelling.{moves_bytes}

-- the bytes spell these moves: each has a spelling, and these stand one behind the other
pub record Spells (bytes : List ℕ) (moves : List Move) : Type 0 where
  pub each : All HasSpelling moves
  pub joined : bytes ≡ moves_bytes moves

-- a list of moves begins with these bytes
abbrev pub IsBeginning : List ℕ → Type 0
IsBeginning front = (more : List ℕ) × (moves : List Move) × Spells (front ++ more) moves

-- the longest front of the bytes that begins a list of moves has so many bytes
pub record BeginsUpTo (bytes : List ℕ) (at : ℕ) : Type 0 where
  pub within : at ≤ length bytes
  pub begins : IsBeginning (take at bytes)
  pub longest : (other : ℕ) → other ≤ length bytes → IsBeginning (take other bytes) → other ≤ at

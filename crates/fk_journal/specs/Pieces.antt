-- A piece of a file, and the list of pieces from a place on, as a grammar on bytes.
use Rattle.std.specs.Prelude.{◌≡◌, ◌≢◌, ℕ, ◌+◌, ◌<◌, ◌≤◌, ◌^◌, List, [], ◌∷◌, ◌++◌, length, take, drop, All}
use Rattle.std.specs.Int.{w64, to_be_bytes}
use Rattle.fk_journal.specs.Limits.{greatest_number}

-- the gate byte of a piece that counts
abbrev pub open_gate : ℕ
open_gate = 1

-- the gate byte that is written where no piece counts; so would any byte but the open gate
abbrev pub closed_gate : ℕ
closed_gate = 0

-- what a piece begins with, whose moves have so many bytes: its number and that length, in eight bytes
-- each, the greatest first
abbrev pub begun : ℕ → ℕ → List ℕ
begun number count = to_be_bytes w64 number ++ to_be_bytes w64 count

-- what stands behind the gate of a piece: what it begins with, and its moves
unfoldable pub numbered : ℕ → List ℕ → List ℕ
numbered number moves = begun number (length moves) ++ moves

-- a piece as it is handed in to be written: behind it stands the next gate, which is closed
abbrev pub framed : ℕ → List ℕ → List ℕ
framed number moves = numbered number moves ++ closed_gate ∷ []

-- a piece as it stands in a file, where its gate is open
abbrev pub opened : ℕ → List ℕ → List ℕ
opened number moves = open_gate ∷ numbered number moves

-- the bytes are a framed piece with this number
abbrev pub IsFramed : ℕ → List ℕ → Type 0
IsFramed number piece = (moves : List ℕ) × (piece ≡ framed number moves)

-- pieces one behind the other: the first has the number that follows the base, and so on
unfoldable pub spelled : ℕ → List (List ℕ) → List ℕ
spelled base [] = []
spelled base (moves ∷ pieces) = opened (base + 1) moves ++ spelled (base + 1) pieces

-- the file begins with these bytes, and behind them is a gate byte that isn't 1, after which anything
-- may stand
abbrev pub IsClosedAfter : List ℕ → List ℕ → Type 0
IsClosedAfter front file = (gate : ℕ) × (rest : List ℕ) × (gate ≢ open_gate) × (file ≡ front ++ gate ∷ rest)

-- the file has a gate byte at this place, and it isn't 1
abbrev pub IsClosedAt : ℕ → List ℕ → Type 0
IsClosedAt place file = IsClosedAfter (take place file) file

-- what a file has up to this place
abbrev pub Begins : ℕ → List ℕ → List ℕ → Type 0
Begins place front file = take place file ≡ front

-- what a file has up to its closed gate is what it had before, and behind that the framed piece, now open
abbrev pub HasGained : ℕ → List ℕ → List ℕ → List ℕ → Type 0
HasGained number piece before after =
    (moves : List ℕ) → piece ≡ framed number moves → after ≡ before ++ opened number moves

-- the length of these moves has eight bytes
abbrev pub HasLength : List ℕ → Type 0
HasLength moves = length moves < 2 ^ 64

-- the list of pieces from a place on, which is written as the bytes from there: they end at the first
-- gate byte that isn't 1, and what follows that byte isn't read
pub record HavePieces (base : ℕ) (pieces : List (List ℕ)) (bytes : List ℕ) : Type 0 where
  pub whole : IsClosedAfter (spelled base pieces) bytes
  pub lengths : All HasLength pieces
  pub numbers : base + length pieces ≤ greatest_number

-- the piece with this number stands first on the bytes: its gate is open, and it is whole
pub record BeginWith (number : ℕ) (moves bytes : List ℕ) : Type 0 where
  pub front : take (length (opened number moves)) bytes ≡ opened number moves
  pub fits : HasLength moves
  pub within : number ≤ greatest_number

-- a file is damaged where a piece with this number is due: no gate is closed there, and no such piece stands
-- behind an open one
pub record IsDamagedAt (number place : ℕ) (file : List ℕ) : Type 0 where
  pub not_closed : ¬ IsClosedAt place file
  pub no_piece : (moves : List ℕ) → ¬ BeginWith number moves (drop place file)

-- What a file is while a piece is written behind its closed gate, on bytes: the grammar of files is apart.
use Rattle.std.specs.Prelude.{◌≡◌, ◌≢◌, ◌⊎◌, ℕ, List, ◌∷◌, ◌++◌, Option, None, Some}
use Rattle.fk_journal.specs.Pieces.{open_gate, IsClosedAfter}

-- the file has these bytes, a gate byte, and this piece
abbrev pub HasBehind : List ℕ → ℕ → List ℕ → List ℕ → Type 0
HasBehind front gate piece file = (rest : List ℕ) × (file ≡ front ++ gate ∷ piece ++ rest)

-- the piece stands whole behind a gate that isn't open
abbrev pub IsPrepared : List ℕ → List ℕ → List ℕ → Type 0
IsPrepared front piece file = (gate : ℕ) × (gate ≢ open_gate) × HasBehind front gate piece file

-- the file has these bytes and behind them the piece, with its gate open
abbrev pub IsWith : List ℕ → List ℕ → List ℕ → Type 0
IsWith front piece file = HasBehind front open_gate piece file

-- the file is these bytes without the piece, or has it
abbrev pub IsWithOrWithout : List ℕ → List ℕ → List ℕ → Type 0
IsWithOrWithout front piece file = IsClosedAfter front file ⊎ IsWith front piece file

-- the piece stands whole, and nobody knows whether its gate is open
abbrev pub IsInDoubt : List ℕ → List ℕ → List ℕ → Type 0
IsInDoubt front piece file = (gate : ℕ) × HasBehind front gate piece file

-- what a file is between calls: closed behind these bytes where nothing is owed, and in doubt where a
-- piece is
abbrev pub IsAtRest : List ℕ → Option (List ℕ) → List ℕ → Type 0
IsAtRest front None file = IsClosedAfter front file
IsAtRest front (Some piece) file = IsInDoubt front piece file

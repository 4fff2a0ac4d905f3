-- One file of a server, as a grammar on bytes: a header, the moves of a snapshot, and pieces behind gates. Whole
-- numbers have their highest byte first.
use Rattle.std.specs.Prelude.{◌≡◌, ◌≢◌, ◌⊎◌, ℕ, ◌+◌, ◌<◌, ◌≤◌, List, [], ◌∷◌, ◌++◌, length, map, All, slice_index}
use Rattle.std.specs.List.{flat_map}
use Rattle.fk_journal.specs.Limits.{greatest_number}
use Rattle.fk_journal.specs.Pieces.{open_gate, closed_gate, spelled, HasLength, HavePieces}
use Rattle.fk_model.specs.declared.move_.Move.{Move}
use Rattle.fk_model.specs.declared.move_.Move.TheVariants.{Totals}
use Rattle.fk_model.specs.Changes.{EndsWithTotals}
use Rattle.fk_moves.specs.Spelling.{word_bytes, moves_bytes}
use Rattle.fk_lives.specs.declared.header.Header.{Header}

-- the bytes by which a file is known: FKJOURNL
abbrev pub magic : List ℕ
magic = 70 ∷ 75 ∷ 74 ∷ 79 ∷ 85 ∷ 82 ∷ 78 ∷ 76 ∷ []

-- the version of the format
abbrev pub version : ℕ
version = 1

-- where the snapshot begins, behind the file's own gate and the header
abbrev pub snapshot_at : ℕ
snapshot_at = 34

-- a header behind the file's own gate
abbrev pub header_bytes : Header → List ℕ
header_bytes header =
    magic ++ version ∷ word_bytes header.generation ++ word_bytes header.base ++ word_bytes header.length

-- what a file tells: its generation, the number of the last piece before it, the moves of its snapshot, and those
-- of each of its pieces
pub record Contents : Type 0 where
  pub generation : ℕ
  pub base : ℕ
  pub snapshot : List Move
  pub pieces : List (List Move)

-- the header of such a file
abbrev pub header_of : Contents → Header
header_of contents = record {
  generation = contents.generation;
  base = contents.base;
  length = length (moves_bytes contents.snapshot);
}

-- the file up to its first piece: its own gate, which is open, the header and the snapshot
abbrev pub head_of : Contents → List ℕ
head_of contents = open_gate ∷ header_bytes (header_of contents) ++ moves_bytes contents.snapshot

-- the file up to the closed gate behind its last piece
abbrev pub front_of : Contents → List ℕ
front_of contents = head_of contents ++ spelled contents.base (map moves_bytes contents.pieces)

-- all its moves: those of the snapshot, then those of each piece
abbrev pub moves_in : Contents → List Move
moves_in contents = flat_map (λ moves. moves) (contents.snapshot ∷ contents.pieces)

-- the number of the next piece, and the place behind the closed gate
abbrev pub number_in : Contents → ℕ
number_in contents = contents.base + length contents.pieces + 1

abbrev pub size_in : Contents → ℕ
size_in contents = length (front_of contents) + 1

-- a generation is one that a file may have
abbrev pub IsGeneration : ℕ → Type 0
IsGeneration generation = (0 < generation) × (generation ≤ greatest_number)

-- The numbers of such a file are within their bounds, and each of its lists of moves ends with the one move that
-- tells the numbers.
pub record AreContents (contents : Contents) : Type 0 where
  pub generation : IsGeneration contents.generation
  pub numbers : contents.base + length contents.pieces ≤ greatest_number
  pub snapshot : HasLength (moves_bytes contents.snapshot)
  pub pieces : All HasLength (map moves_bytes contents.pieces)
  pub lists : All EndsWithTotals (contents.snapshot ∷ contents.pieces)

-- The file tells this: the header and the snapshot, and behind them the pieces, which end at the first gate byte
-- that isn't 1. What follows that byte isn't read.
pub record IsFileOf (contents : Contents) (file : List ℕ) : Type 0 where
  pub are : AreContents contents
  pub rest : List ℕ
  pub whole : file ≡ head_of contents ++ rest
  pub pieces : HavePieces contents.base (map moves_bytes contents.pieces) rest

-- a file is blank: it has at most one byte, or its own gate isn't open
abbrev pub IsBlank : List ℕ → Type 0
IsBlank file = (length file ≤ 1) ⊎ (slice_index file 0 ≢ open_gate)

-- what a new file tells: no row, and 1 as the next number
abbrev pub new_contents : Contents
new_contents = record { generation = 1; base = 0; snapshot = Totals 1 0 0 ∷ []; pieces = [] }

-- a new file, of 60 bytes
abbrev pub new_file : List ℕ
new_file = front_of new_contents ++ closed_gate ∷ []

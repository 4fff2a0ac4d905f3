-- What the first file is while it is made.
use Rattle.std.specs.Prelude.{◌≡◌, ℕ, ◌<◌, ◌≤◌, List, [], ◌∷◌, ◌++◌, length, slice_index}
use Rattle.fk_journal.specs.Pieces.{closed_gate}
use Rattle.fk_lives.specs.Files.{header_bytes, header_of, new_contents}
use Rattle.fk_moves.specs.Spelling.{moves_bytes}

-- it has no more than the byte of its gate
abbrev pub IsShort : List ℕ → Type 0
IsShort file = length file ≤ 1

-- its own gate is closed, whatever stands behind it
abbrev pub IsShut : List ℕ → Type 0
IsShut file = (0 < length file) × (slice_index file 0 ≡ closed_gate)

-- the new file, but with its own gate closed
abbrev pub shut_file : List ℕ
shut_file = closed_gate ∷ header_bytes (header_of new_contents) ++ moves_bytes new_contents.snapshot
    ++ closed_gate ∷ []

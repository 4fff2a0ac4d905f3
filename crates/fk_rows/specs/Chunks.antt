-- Rows in chunks, one chunk behind the other, and what the room of chunks that are held ready is for.
use Rattle.std.specs.Prelude.{ℕ, ◌≡◌, ◌==◌, ◌&&◌, ◌<◌, ◌≤◌, ◌+◌, ◌-◌, ◌*◌, nat_lt, if◌then◌else◌, List, [], ◌∷◌, length, slice_get, unwrap_or}
use Rattle.std.specs.List.{flat_map, remove, AllByRecursion}
use Rattle.fk_model.specs.declared.row.Row.{Row}

-- a ticket with its row
abbrev pub Filed : Type 0
Filed = ℕ × Row

-- how many rows a chunk has at most
abbrev pub full : ℕ
full = 2_048

-- how many rows each of the two chunks has that come of a full one
abbrev pub half : ℕ
half = 1_024

-- the rows of all chunks
abbrev pub rows_of : List (List Filed) → List Filed
rows_of chunks = flat_map (λ chunk. chunk) chunks

-- the chunk at a place; past the end there is none, and so no row
abbrev pub chunk_at : List (List Filed) → ℕ → List Filed
chunk_at chunks at = unwrap_or (slice_get chunks at) []

-- by how many rows a chunk is more than half full
abbrev pub excess : List Filed → ℕ
excess chunk = length chunk - half

-- the same of all chunks, in sum
abbrev pub excess_of : List (List Filed) → ℕ
excess_of [] = 0
excess_of (chunk ∷ chunks) = excess chunk + excess_of chunks

-- no chunk is empty, unless it is the only one
abbrev pub IsFilled : List (List Filed) → Type 0
IsFilled chunks = 1 < length chunks → AllByRecursion (λ chunk. 0 < length chunk) chunks

-- chunks, and how many rows more they take without memory, wherever these come in
pub record Chunked : Type 0 where
  pub chunks : List (List Filed)
  pub room : ℕ

-- what holds of chunks, of those that are held ready, and of the room: for each half chunk of rows to
-- come a chunk is ready, those counted as to come by which a chunk is more than half full
pub record IsSound (chunks store : List (List Filed)) (room capacity : ℕ) : Type 0 where
  pub filled : IsFilled chunks
  pub begun : 0 < room → 0 < length chunks
  pub bare : AllByRecursion (λ chunk. chunk ≡ []) store
  pub paid : room + excess_of chunks ≤ half * length store
  pub wide : length chunks + length store ≤ capacity

-- the chunks without the one at a place, where that one has no row and isn't the only one
abbrev pub without_bare : List (List Filed) → ℕ → List (List Filed)
without_bare chunks at =
    if nat_lt 1 (length chunks) && (length (chunk_at chunks at) == 0) then remove chunks at else chunks

-- Spots among rows in chunks: where a ticket stands, or would stand.
use Rattle.std.specs.Prelude.{ℕ, ◌≡◌, ◌<◌, ◌≤◌, ◌-◌, ◌++◌, suc, List, Some, option_map, length, take, drop, slice_get}
use Rattle.fk_model.specs.Rows.{ticket_of}
use Rattle.fk_rows.specs.declared.spot.Span.{Span}
use Rattle.fk_rows.specs.declared.spot.Spot.{Spot}
use Rattle.fk_rows.specs.Order.{AreAbove, AreBelow}
use Rattle.fk_rows.specs.Chunks.{Filed, chunk_at, rows_of}

-- the rows before a spot
abbrev pub before : List (List Filed) → Spot → List Filed
before chunks spot = rows_of (take spot.chunk chunks) ++ take spot.at (chunk_at chunks spot.chunk)

-- the rows from a spot on
abbrev pub from : List (List Filed) → Spot → List Filed
from chunks spot = drop spot.at (chunk_at chunks spot.chunk) ++ rows_of (drop (suc spot.chunk) chunks)

-- the rows behind the one at a spot
abbrev pub behind : List (List Filed) → Spot → List Filed
behind chunks spot =
    drop (suc spot.at) (chunk_at chunks spot.chunk) ++ rows_of (drop (suc spot.chunk) chunks)

-- the ticket stands at this spot
pub record IsAt (chunks : List (List Filed)) (ticket : ℕ) (spot : Spot) : Type 0 where
  pub chunk : spot.chunk < length chunks
  pub at : spot.at < length (chunk_at chunks spot.chunk)
  pub here : option_map ticket_of (slice_get (chunk_at chunks spot.chunk) spot.at) ≡ Some ticket

-- the ticket would stand at this spot
pub record IsGap (chunks : List (List Filed)) (ticket : ℕ) (spot : Spot) : Type 0 where
  pub chunk : spot.chunk ≤ length chunks - 1
  pub at : spot.at ≤ length (chunk_at chunks spot.chunk)
  pub below : AreBelow ticket (before chunks spot)
  pub above : AreAbove ticket (from chunks spot)

-- the chunk in which a ticket would stand: those before it are below, those behind it above
pub record IsChunkOf (chunks : List (List Filed)) (ticket chunk : ℕ) : Type 0 where
  pub within : chunk ≤ length chunks - 1
  pub below : AreBelow ticket (rows_of (take chunk chunks))
  pub above : AreAbove ticket (rows_of (drop (suc chunk) chunks))

-- the chunk in which a ticket would stand is among these: those before them are below, those behind
-- them above
pub record IsBetween (chunks : List (List Filed)) (ticket : ℕ) (span : Span) : Type 0 where
  pub order : span.low ≤ span.high
  pub within : span.high ≤ length chunks
  pub apart : 0 < length chunks → span.low < span.high
  pub below : AreBelow ticket (rows_of (take span.low chunks))
  pub above : AreAbove ticket (rows_of (drop span.high chunks))

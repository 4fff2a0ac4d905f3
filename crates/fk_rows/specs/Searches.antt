-- Where a ticket stands in a list of rows by ticket, or would stand.
use Rattle.std.specs.Prelude.{ℕ, ◌≡◌, ◌≤◌, List, Some, option_map, length, take, drop, slice_get}
use Rattle.fk_model.specs.Rows.{ticket_of}
use Rattle.fk_rows.specs.Chunks.{Filed}
use Rattle.fk_rows.specs.Order.{AreAbove, AreBelow}

-- the ticket stands at this place
abbrev pub IsPlaceIn : List Filed → ℕ → ℕ → Type 0
IsPlaceIn rows ticket at = option_map ticket_of (slice_get rows at) ≡ Some ticket

-- the ticket would stand at this place
pub record IsGapIn (rows : List Filed) (ticket at : ℕ) : Type 0 where
  pub within : at ≤ length rows
  pub below : AreBelow ticket (take at rows)
  pub above : AreAbove ticket (drop at rows)

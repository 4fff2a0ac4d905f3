use Rattle.std.proofs.Common.{◌≡◌, slice_get, drop}
use Rattle.fk_rows.specs.Chunks.{rows_of}
use Rattle.fk_rows.proofs.finding.walk.Given as goal

-- what is left leads to the row from this chunk on
abbrev pub invariant-walking : goal.invariant-walking
invariant-walking l = slice_get (rows_of (drop l.chunk l.chunks.items)) l.left ≡ slice_get (rows_of l.chunks.items) l.place

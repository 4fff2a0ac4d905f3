use Rattle.std.proofs.Common.{◌≡◌, ◌≤◌, ◌-◌}
use Rattle.fk_rows.specs.Chunks.{rows_of}
use Rattle.fk_rows.proofs.chunks.Chunks.reserve.Given as goal

-- the rows stay, and no room is lost
abbrev pub invariant-making : goal.invariant-making
invariant-making l = (rows_of l.self.chunks ≡ rows_of l.initial.self.chunks) × (l.initial.self.room ≤ l.self.room)

abbrev pub decreases-making : goal.decreases-making
decreases-making l = l.more - l.self.room

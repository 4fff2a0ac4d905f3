use Rattle.std.proofs.Common.{◌≤◌, ◌-◌, length, max}
use Rattle.fk_rows.proofs.rows.make_until.Given as goal

-- none is lost, and no more are made than are wanted
abbrev pub invariant-making : goal.invariant-making
invariant-making l = (length l.initial.boxes.items ≤ length l.boxes.items) × (length l.boxes.items ≤ max l.count (length l.initial.boxes.items))

abbrev pub decreases-making : goal.decreases-making
decreases-making l = l.count - length l.boxes.items

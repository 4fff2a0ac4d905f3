use Rattle.std.proofs.Common.{length, ◌-◌}
use Rattle.fk_json.specs.Reached.{IsReadTo}
use Rattle.fk_json.specs.declared.mode.Bracket.TheVariants.{Object}
use Rattle.fk_json.proofs.scan.scan_object.Given as goal

-- the text was read up to the cursor, and these are the items found
abbrev pub invariant-items : goal.invariant-items
invariant-items l = IsReadTo Object l.text l.cursor.at l.members l.cursor.standing

abbrev pub decreases-items : goal.decreases-items
decreases-items l = length l.text - l.cursor.at

use Rattle.std.proofs.Common.{◌-◌, ◌≤◌, length}
use Rattle.fk_json.proofs.ReadTo.{ReadsOn}
use Rattle.fk_json.proofs.cursor.next_found.Given as goal

-- the bytes up to here were read, and no item ended before them
abbrev pub invariant-tokens : goal.invariant-tokens
invariant-tokens l = record {
  within : l.at ≤ length l.text;
  so_far : ReadsOn l.outer l.text l.fn.cursor l.at l.standing;
}

abbrev pub decreases-tokens : goal.decreases-tokens
decreases-tokens l = length l.text - l.at

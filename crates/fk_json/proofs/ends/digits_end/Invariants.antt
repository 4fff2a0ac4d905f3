use Rattle.std.proofs.Common.{◌≡◌, ◌+◌, ◌-◌, ◌≤◌, drop, length}
use Rattle.std.specs.Char.{is_ascii_digit}
use Rattle.std.specs.List.{prefix_len}
use Rattle.fk_json.proofs.ends.digits_end.Given as goal

-- the bytes that were passed and those that will be
abbrev pub invariant-bytes : goal.invariant-bytes
invariant-bytes l = record {
  within : l.at ≤ length l.text;
  same : l.at + prefix_len is_ascii_digit (drop l.at l.text)
      ≡ l.fn.from + prefix_len is_ascii_digit (drop l.fn.from l.text);
}

abbrev pub decreases-bytes : goal.decreases-bytes
decreases-bytes l = length l.text - l.at

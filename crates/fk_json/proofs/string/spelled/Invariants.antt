use Rattle.std.proofs.Common.{◌≡◌, ◌∷◌, ◌++◌, flat_map, length}
use Rattle.fk_json.specs.String.{quote, spelled_byte}
use Rattle.fk_json.proofs.string.spelled.Given as goal

-- what is written, and what is left to be, are the whole
abbrev pub invariant-escapes : goal.invariant-escapes
invariant-escapes l = l.spelled ++ flat_map spelled_byte l.rest ≡ quote ∷ flat_map spelled_byte l.value

abbrev pub decreases-escapes : goal.decreases-escapes
decreases-escapes l = length l.rest

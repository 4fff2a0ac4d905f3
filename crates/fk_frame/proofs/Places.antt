-- The place of the first element that passes a test.
use Rattle.std.proofs.Common.{◌≡◌, Bool, List, length, arith, unwrap_or}
use Rattle.std.proofs.lemmas.Bool.Decides.{nat_tests}
use Rattle.std.proofs.lemmas.List.Sums.{prefix_len-le-length}
use Rattle.std.specs.List.{position, position_or_len}

-- where none passes, it is the length
pub unwrap_or_position : {X : Type 0} (p : X → Bool) (xs : List X) → unwrap_or (position p xs) (length xs) ≡ position_or_len p xs
unwrap_or_position p xs = grind (arith, nat_tests, prefix_len-le-length)

-- A file that is cut.
use Rattle.std.proofs.Common.{ℕ, ◌≤◌, arith, refl, List, length, take}
use Rattle.std.proofs.lemmas.List.{length-take-le, get_or-take}
use Rattle.fk_disk.specs.Steps.{CutsBack}

-- nothing is cut
pub cuts_nothing : (len : ℕ) (file : List ℕ) → CutsBack len file file
cuts_nothing len file = record {
  no_shorter = omega arith;
  no_longer = omega arith;
  below = λ _ _ _. refl;
}

-- a cut that was made
pub cuts_whole : (len : ℕ) (file : List ℕ) → len ≤ length file → CutsBack len file (take len file)
cuts_whole len file inside = record {
  no_shorter = rw (length-take-le len file inside) (omega arith);
  no_longer = rw (length-take-le len file inside) inside;
  below = λ place _ before. get_or-take len file place 0 before;
}

-- Words that are valid by their parts.
use Rattle.std.proofs.Common.{◌≡◌, ◌≤◌, ◌-◌, arith, ℕ, true, List, [], ◌∷◌, length, take, drop, nat_eq, codes}
use Rattle.std.specs.List.{slice_index_or}
use Rattle.std.specs.Borrow.{Bor}
use Rattle.std.specs.Cmp.Lexicographic.{pointwise}
use Rattle.std.proofs.lemmas.List.{take_all}
use Rattle.std.proofs.lemmas.Slice.Eq.{bytes_eq-Decides}
use Rattle.clap.specs.Walk.{texts}
use Rattle.clap.specs.Faults.{fault_of}
use Rattle.fk_server.specs.Words.{AreValid, pipe_options}

pub valid_words : (words : List (Bor (List ℕ))) (none : Bor (List ℕ)) → 1 ≤ length words →
    pointwise nat_eq (slice_index_or words 0 none).now (codes "pipe") ≡ true →
    fault_of pipe_options (texts (take (length words - 1) (drop 1 words))) ≡ [] → AreValid words
valid_words [] none some first rest = absurd (omega (arith, some))
valid_words (word ∷ words) none some first rest = (
  (bytes_eq-Decides word.now (codes "pipe")).0 first,
  rw (take_all (length (word ∷ words) - 1) words (omega arith)) at rest,
)

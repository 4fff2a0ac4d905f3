-- One round of a password's hash behind the other.
use Rattle.std.proofs.Common.{◌≡◌, ℕ, ◌+◌, List, refl, add-one, ◌∙◌}
use Rattle.sha2.specs.Sha256.{sha256}
use Rattle.fk_model.specs.Handshake.{hashed}

pub one_round : (bytes : List ℕ) (all left : ℕ) → all ≡ left + 1 → hashed all bytes ≡ hashed left (sha256 bytes)
unfolding hashed
one_round bytes all left count = rw (count ∙ add-one left) refl

pub no_round : (bytes : List ℕ) (left : ℕ) → left ≡ 0 → hashed left bytes ≡ bytes
unfolding hashed
no_round bytes left none = rw none refl

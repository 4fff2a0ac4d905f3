-- The bits in which numbers differ: none where they are the same.
use Rattle.std.proofs.Common.{◌≡◌, ◌⊎◌, inl, inr, List, length, slice_index, ℕ, ◌<◌, ◌≤◌, ◌+◌, arith, bit_or}
use Rattle.std.proofs.lemmas.Bool.Decides.{nat_tests}
use Rattle.std.proofs.lemmas.List.{ext_get_or}
use Rattle.std.specs.Int.Bits.{bit_xor, xor_self, xor_add_and}
use Rattle.std.proofs.lemmas.Nat.{and_le_l, and_le_r, le_or_l, le_or_r}

pub no_bit_l : (a b : ℕ) → bit_or a b ≡ 0 → a ≡ 0
no_bit_l a b none = omega (arith, none, le_or_l a b)

pub no_bit_r : (a b : ℕ) → bit_or a b ≡ 0 → b ≡ 0
no_bit_r a b none = omega (arith, none, le_or_r a b)

pub no_difference : (a b : ℕ) → bit_xor a b ≡ 0 → a ≡ b
no_difference a b none = omega (arith, none, xor_add_and a b, and_le_l a b, and_le_r a b)

-- numbers are the same where their differences, behind none, are none
pub alike : (differs a b : ℕ) → bit_or differs (bit_xor a b) ≡ 0 → a ≡ b
alike differs a b none = no_difference a b (no_bit_r differs (bit_xor a b) none)

-- the same number has no difference
pub same : (differs a b : ℕ) → differs ≡ 0 → a ≡ b → bit_or differs (bit_xor a b) ≡ 0
same differs a b none are = rw (none, are) (xor_self b)

-- ---- bytes, one by one

below_or_at : (k at : ℕ) → k < at + 1 → (k < at) ⊎ (k ≡ at)
below_or_at k at below = grind (arith, nat_tests, below)

-- the bytes so far are alike, and the one at the next place
pub alike_on : (one other : List ℕ) (at differs : ℕ)
    → (differs ≡ 0 → (k : ℕ) → k < at → slice_index one k ≡ slice_index other k)
    → bit_or differs (bit_xor (slice_index one at) (slice_index other at)) ≡ 0
    → (k : ℕ) → k < at + 1 → slice_index one k ≡ slice_index other k
alike_on one other at differs so_far none k below =
    elim (below_or_at k at below) [
      | inl before ↦ so_far (no_bit_l differs _ none) k before
      | inr here ↦ rw here (alike differs (slice_index one at) (slice_index other at) none)
    ]

-- all are
pub all_alike : (one other : List ℕ) (at differs : ℕ) → length one ≡ length other → length one ≤ at
    → (differs ≡ 0 → (k : ℕ) → k < at → slice_index one k ≡ slice_index other k)
    → differs ≡ 0 → one ≡ other
all_alike one other at differs long end so_far none =
    ext_get_or 0 one other long (λ k within. so_far none k (omega (arith, within, end)))

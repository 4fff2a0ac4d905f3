-- Heights, and the numbers of pairs that they take.
use Rattle.std.proofs.Common.{ℕ, ◌+◌, ◌*◌, ◌/◌, ◌^◌, ◌<◌, ◌≤◌, ◌∷◌, ◌++◌, length, length-append, inl, inr, arith}
use Rattle.std.proofs.Math.Pow.{pow_mono}
use Rattle.std.proofs.lemmas.Bool.{cases_lt}
use Rattle.std.proofs.lemmas.Grind.{pow_more}
use Rattle.fk_tree.specs.Shape.{Shape, IsFull}
use Rattle.fk_tree.specs.Depth.{IsDepth}

-- two levels more, and at least twice the pairs
two_more : (height low first second : ℕ) → height ≤ low + 2 → 2 ^ (low / 2) ≤ first + 1
    → 2 ^ (low / 2) ≤ second + 1 → 2 ^ (height / 2) ≤ first + second + 2
two_more height low first second near left right =
    let more : 2 ^ (height / 2) ≤ 2 ^ (low / 2 + 1) = pow_mono (omega (arith, near)) in
    omega (arith, more, pow_more 2 (low / 2), left, right)

-- a lower side takes no more pairs
lower : (low high count : ℕ) → low ≤ high → 2 ^ (high / 2) ≤ count + 1 → 2 ^ (low / 2) ≤ count + 1
lower low high count less full =
    let fewer : 2 ^ (low / 2) ≤ 2 ^ (high / 2) = pow_mono (omega (arith, less)) in omega (arith, fewer, full)

full_heights : (left right first second height : ℕ) → height ≤ left + 2 → height ≤ right + 2
    → 2 ^ (left / 2) ≤ first + 1 → 2 ^ (right / 2) ≤ second + 1 → 2 ^ (height / 2) ≤ first + second + 2
full_heights left right first second height near_left near_right left_full right_full =
    elim (cases_lt left right) [
      | inl less ↦
          two_more height left first second near_left left_full
          (lower left right second (omega (arith, less)) right_full)
      | inr less ↦
          two_more height right first second near_right (lower right left first less left_full) right_full
    ]

-- what stands over two full sides is full
pub full_over : (left right : Shape) (pair : ℕ × ℕ) (height : ℕ) → IsFull left → IsFull right
    → height ≤ left.height + 2 → height ≤ right.height + 2
    → 2 ^ (height / 2) ≤ length (left.pairs ++ pair ∷ right.pairs) + 1
full_over left right pair height left_full right_full near_left near_right =
    let full = full_heights left.height right.height (length left.pairs) (length right.pairs) height near_left
    near_right left_full right_full in omega (arith, length-append left.pairs (pair ∷ right.pairs), full)

-- pairs that can be counted stand in fewer than 130 levels
pub low_height : (side : Shape) → IsFull side → length side.pairs < 2 ^ 64 → side.height < 130
low_height side full few =
    elim (cases_lt side.height 130) [
      | inl low ↦ low
      | inr high ↦
          let much : 2 ^ 65 ≤ 2 ^ (side.height / 2) = pow_mono {i = 65} {j = side.height / 2} (omega (arith, high)) in
          absurd (omega (arith, much, full, few))
    ]

-- a height is within the bound on comparisons
pub within_depth : (side : Shape) (depth : ℕ) → IsFull side → IsDepth (length side.pairs) depth
    → side.height ≤ 2 * depth + 1
within_depth side depth full is =
    elim (cases_lt (2 * depth + 1) side.height) [
      | inl high ↦
          let much : 2 ^ (depth + 1) ≤ 2 ^ (side.height / 2) =
          pow_mono {i = depth + 1} {j = side.height / 2} (omega (arith, high)) in
          absurd (omega (arith, much, full, is.1))
      | inr low ↦ low
    ]

-- What is left of a buffer whose front is cut off.
use Rattle.std.proofs.Common.{◌≡◌, ℕ, ◌+◌, ◌-◌, ◌≤◌, List, length, take, drop, arith, ap, ◌∙◌}
use Rattle.std.specs.List.{copy_within}
use Rattle.std.proofs.lemmas.List.{length-drop, take_rest}
use Rattle.std.proofs.lemmas.List.Edits.{take-paste}

-- the bytes behind the front, once they were moved there
pub moved_down : (bytes : List ℕ) (count : ℕ) → count ≤ length bytes
    → take (length bytes - count) (copy_within bytes count (length bytes) 0) ≡ drop count bytes
moved_down bytes count within =
    let left = length bytes - count in
    let whole : left ≡ 0 + left = omega arith in
    ap (λ n. take n (copy_within bytes count (length bytes) 0)) whole
    ∙ take-paste bytes 0 (drop count bytes) left (omega arith) (omega (arith, length-drop {A = ℕ}))
    ∙ take_rest bytes count

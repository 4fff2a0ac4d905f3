-- A part of a file, taken in two parts.
use Rattle.std.proofs.Common.{◌≡◌, ℕ, zero, suc, ◌+◌, ◌∙◌, ap, sym, refl, arith, List, [], ◌∷◌, ◌++◌, take, drop}
use Rattle.std.proofs.lemmas.List.{drop-drop}
use Rattle.std.proofs.Math.Seq.{take-nil}

-- what is taken in two parts
take_more : (m n : ℕ) (xs : List ℕ) → take (m + n) xs ≡ take m xs ++ take n (drop m xs)
take_more zero n xs = let none : zero + n ≡ n = omega arith in rw none refl
take_more (suc m) n [] = let some : suc m + n ≡ suc (m + n) = omega arith in rw some (sym (take-nil n))
take_more (suc m) n (x ∷ xs) =
    let some : suc m + n ≡ suc (m + n) = omega arith in
    rw some (ap (λ ys. x ∷ ys) (take_more m n xs))

-- more of what stands behind a place
pub take_on : (xs : List ℕ) (at m n : ℕ) →
    take (m + n) (drop at xs) ≡ take m (drop at xs) ++ take n (drop (at + m) xs)
take_on xs at m n =
    take_more m n (drop at xs) ∙ ap (λ ys. take m (drop at xs) ++ take n ys) (drop-drop m at xs)

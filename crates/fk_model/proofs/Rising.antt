-- Lists of which a number rises from each element to the next.
use Rattle.std.proofs.Common.{◌≡◌, ℕ, ◌<◌, ◌+◌, List, [], ◌∷◌, ◌++◌, map, filter, length, Bool, arith}
use Rattle.std.specs.Prelude.{All, AllPairs}
use Rattle.std.specs.List.Sorted.{IsStrictlyIncreasing}
use Rattle.std.proofs.lemmas.List.{get_or-map, length-map}
use Rattle.std.proofs.lemmas.List.Elements.{All-cons, All-nil, All-weaker}
use Rattle.std.proofs.lemmas.List.Kept.{AllPairs-from_increasing, AllPairs-filter, AllPairs-cons}
use Rattle.fk_model.proofs.Sorting.{joined}

-- the number of one is below that of another
abbrev pub IsUnder : {X : Type 0} → (X → ℕ) → X → X → Type 0
IsUnder f one other = f one < f other

pub rising_pairs : {X : Type 0} (f : X → ℕ) (xs : List X)
    → IsStrictlyIncreasing (map f xs) → AllPairs (IsUnder f) xs
rising_pairs f xs rising i j d ahead within =
    let all = AllPairs-from_increasing (map f xs) rising in
    let long : length (map f xs) ≡ length xs = length-map xs f in
    let first : i < length xs = omega arith in
    rw (← get_or-map f xs i d 0 first, ← get_or-map f xs j d 0 within)
    (all i j 0 ahead (omega arith))

pub by_rising_pairs : {X : Type 0} (f : X → ℕ) (xs : List X)
    → AllPairs (IsUnder f) xs → IsStrictlyIncreasing (map f xs)
by_rising_pairs f [] all k within = absurd (omega arith)
by_rising_pairs f (x ∷ xs) all k within =
    let long : length (map f (x ∷ xs)) ≡ length (x ∷ xs) = length-map (x ∷ xs) f in
    let second : k + 1 < length (x ∷ xs) = omega arith in
    let first : k < length (x ∷ xs) = omega arith in
    rw (get_or-map f (x ∷ xs) k x 0 first, get_or-map f (x ∷ xs) (k + 1) x 0 second)
    (all k (k + 1) x (omega arith) second)

-- they rise still after a filter
pub rising_filter : {X : Type 0} (f : X → ℕ) (test : X → Bool) (xs : List X)
    → IsStrictlyIncreasing (map f xs) → IsStrictlyIncreasing (map f (filter test xs))
rising_filter f test xs rising =
    by_rising_pairs f (filter test xs)
    (AllPairs-filter (IsUnder f) test xs (rising_pairs f xs rising))

-- they rise still with one at the end that is above all
pub rising_more : {X : Type 0} (f : X → ℕ) (xs : List X) (x : X)
    → IsStrictlyIncreasing (map f xs) → All (λ other. f other < f x) xs
    → IsStrictlyIncreasing (map f (xs ++ x ∷ []))
rising_more f xs x rising below_it =
    by_rising_pairs f (xs ++ x ∷ [])
    (joined (IsUnder f) xs (x ∷ []) (rising_pairs f xs rising)
    (AllPairs-cons (IsUnder f) x [] (All-nil (IsUnder f x)) (λ i j d ahead within. absurd (omega arith)))
    (All-weaker (λ other. f other < f x) (λ other. All (IsUnder f other) (x ∷ []))
    (λ other under. All-cons (IsUnder f other) x [] under (All-nil (IsUnder f other))) xs below_it))

-- Pairs in order of first numbers: one more and one less.
use Rattle.std.proofs.Common.{ℕ, zero, suc, ◌<◌, List, [], ◌∷◌, ◌++◌, take, drop, map, append-nil, arith}
use native.Mathlib.Numerals.{unary_clauses}
use Rattle.std.specs.Prelude.{All}
use Rattle.std.specs.List.{AllByRecursion, insert, remove}
use Rattle.std.specs.List.Sorted.{IsStrictlyIncreasing}
use Rattle.std.proofs.lemmas.List.{take-append-drop}
use Rattle.std.proofs.lemmas.List.Elements.{recursion_from_All}
use Rattle.fk_model.specs.Orders.{number_in}
use Rattle.fk_lists.specs.Places.{IsGap}

-- each first number is above this one, or below it
abbrev pub AreAbove : ℕ → List (ℕ × ℕ) → Type 0
AreAbove number pairs = AllByRecursion (λ pair. number < number_in pair) pairs

abbrev pub AreBelow : ℕ → List (ℕ × ℕ) → Type 0
AreBelow number pairs = AllByRecursion (λ pair. number_in pair < number) pairs

-- each first number is below those that come later
abbrev pub AreRising : List (ℕ × ℕ) → Type 0
AreRising [] = Unit {0}
AreRising (pair ∷ pairs) = AreAbove (number_in pair) pairs × AreRising pairs

-- ---- the same by neighbours

above_lower : (low high : ℕ) (pairs : List (ℕ × ℕ)) → low < high → AreAbove high pairs → AreAbove low pairs
above_lower low high [] less above = tt
above_lower low high (pair ∷ pairs) less above = (omega (arith, less, above.0), above_lower low high pairs less above.1)

tail_increases : (number : ℕ) (numbers : List ℕ)
    → IsStrictlyIncreasing (number ∷ numbers) → IsStrictlyIncreasing numbers
tail_increases number numbers increasing k within =
    let next = simp unary_clauses at (increasing (suc k) (omega (arith, within))) in simp unary_clauses next

above_from : (number : ℕ) (pairs : List (ℕ × ℕ))
    → IsStrictlyIncreasing (number ∷ map number_in pairs) → AreAbove number pairs
above_from number [] increasing = tt
above_from number (pair ∷ pairs) increasing =
    let first : number < number_in pair = increasing 0 (omega arith) in (
      first,
      above_lower number (number_in pair) pairs first
          (above_from (number_in pair) pairs (tail_increases number (map number_in (pair ∷ pairs)) increasing)),
    )

pub rising_from : (pairs : List (ℕ × ℕ)) → IsStrictlyIncreasing (map number_in pairs) → AreRising pairs
rising_from [] increasing = tt
rising_from (pair ∷ pairs) increasing = (
  above_from (number_in pair) pairs increasing,
  rising_from pairs (tail_increases (number_in pair) (map number_in pairs) increasing),
)

pub increasing_from : (pairs : List (ℕ × ℕ)) → AreRising pairs → IsStrictlyIncreasing (map number_in pairs)
increasing_from [] rising k within = absurd (omega (arith, within))
increasing_from (pair ∷ []) rising k within = absurd (omega (arith, within))
increasing_from (pair ∷ next ∷ pairs) rising zero within = rising.0.0
increasing_from (pair ∷ next ∷ pairs) rising (suc k) within =
    let later = simp unary_clauses at (increasing_from (next ∷ pairs) rising.1 k (omega (arith, within))) in
    simp unary_clauses later

-- ---- one more

pub all_join : (P : ℕ × ℕ → Type 0) (front back : List (ℕ × ℕ))
    → AllByRecursion P front → AllByRecursion P back → AllByRecursion P (front ++ back)
all_join P [] back some others = others
all_join P (pair ∷ front) back some others = (some.0, all_join P front back some.1 others)

all_front : (P : ℕ × ℕ → Type 0) (front back : List (ℕ × ℕ)) → AllByRecursion P (front ++ back) → AllByRecursion P front
all_front P [] back every = tt
all_front P (pair ∷ front) back every = (every.0, all_front P front back every.1)

all_back : (P : ℕ × ℕ → Type 0) (front back : List (ℕ × ℕ)) → AllByRecursion P (front ++ back) → AllByRecursion P back
all_back P [] back every = every
all_back P (pair ∷ front) back every = all_back P front back every.1

pub rising_more : (front back : List (ℕ × ℕ)) (pair : ℕ × ℕ) → AreRising (front ++ back)
    → AreBelow (number_in pair) front → AreAbove (number_in pair) back → AreRising (front ++ pair ∷ back)
rising_more [] back pair rising below above = (above, rising)
rising_more (first ∷ front) back pair rising below above = (
  all_join _ front (pair ∷ back) (all_front _ front back rising.0) (below.0, all_back _ front back rising.0),
  rising_more front back pair rising.1 below.1 above,
)

-- one more at a gap
pub more_increasing : (pairs : List (ℕ × ℕ)) (pair : ℕ × ℕ) (at : ℕ) → IsStrictlyIncreasing (map number_in pairs)
    → IsGap pairs (number_in pair) at → IsStrictlyIncreasing (map number_in (insert pairs at pair))
more_increasing pairs pair at increasing gap =
    let whole : AreRising (take at pairs ++ drop at pairs) = rw take-append-drop (rising_from pairs increasing) in
    increasing_from (insert pairs at pair)
    (rising_more (take at pairs) (drop at pairs) pair whole
    (recursion_from_All _ (take at pairs) gap.below) (recursion_from_All _ (drop at pairs) gap.above))

-- one more behind all
pub last_increasing : (pairs : List (ℕ × ℕ)) (pair : ℕ × ℕ) → IsStrictlyIncreasing (map number_in pairs)
    → All (λ other. number_in other < number_in pair) pairs → IsStrictlyIncreasing (map number_in (pairs ++ pair ∷ []))
last_increasing pairs pair increasing below =
    let whole : AreRising (pairs ++ []) = rw append-nil (rising_from pairs increasing) in
    increasing_from (pairs ++ pair ∷ [])
    (rising_more pairs [] pair whole (recursion_from_All _ pairs below) tt)

-- ---- one less

above_less : (number : ℕ) (pairs : List (ℕ × ℕ)) (at : ℕ) → AreAbove number pairs → AreAbove number (remove pairs at)
above_less number [] zero above = tt
above_less number [] (suc at) above = tt
above_less number (pair ∷ pairs) zero above = above.1
above_less number (pair ∷ pairs) (suc at) above = (above.0, above_less number pairs at above.1)

rising_less : (pairs : List (ℕ × ℕ)) (at : ℕ) → AreRising pairs → AreRising (remove pairs at)
rising_less [] zero rising = tt
rising_less [] (suc at) rising = tt
rising_less (pair ∷ pairs) zero rising = rising.1
rising_less (pair ∷ pairs) (suc at) rising =
    (above_less (number_in pair) pairs at rising.0, rising_less pairs at rising.1)

pub less_increasing : (pairs : List (ℕ × ℕ)) (at : ℕ)
    → IsStrictlyIncreasing (map number_in pairs) → IsStrictlyIncreasing (map number_in (remove pairs at))
less_increasing pairs at increasing =
    increasing_from (remove pairs at) (rising_less pairs at (rising_from pairs increasing))

-- A pair that isn't among pairs in order of first numbers.
use Rattle.std.proofs.Common.{◌≡◌, ◌≢◌, ◌∙◌, ℕ, zero, suc, ◌<◌, List, [], ◌∷◌, Some, map, slice_get, take, drop, subst, ap, arith}
use Rattle.std.specs.Prelude.{All}
use Rattle.std.specs.List.{AllByRecursion}
use Rattle.std.specs.List.Sorted.{IsStrictlyIncreasing}
use Rattle.std.proofs.lemmas.List.{take-append-drop}
use Rattle.std.proofs.lemmas.List.Elements.{recursion_from_All, All-from_recursion}
use Rattle.fk_model.specs.Orders.{number_in, ticket_in}
use Rattle.fk_lists.specs.Places.{IsGap, IsPlace}
use Rattle.fk_lists.proofs.Rising.{AreAbove, AreBelow, AreRising, all_join, rising_from}

pub weaker : (P Q : ℕ × ℕ → Type 0) → ((pair : ℕ × ℕ) → P pair → Q pair)
    → (pairs : List (ℕ × ℕ)) → AllByRecursion P pairs → AllByRecursion Q pairs
weaker P Q step [] all = tt
weaker P Q step (pair ∷ pairs) all = (step pair all.0, weaker P Q step pairs all.1)

below_differs : (pair other : ℕ × ℕ) → number_in other < number_in pair → other ≢ pair
below_differs pair other less same = let number = ap number_in same in omega (arith, less, number)

above_differs : (pair other : ℕ × ℕ) → number_in pair < number_in other → other ≢ pair
above_differs pair other more same = let number = ap number_in same in omega (arith, more, number)

-- where none has its first number
pub apart_at_gap : (pairs : List (ℕ × ℕ)) (pair : ℕ × ℕ) (at : ℕ) → IsGap pairs (number_in pair) at
    → All (λ other. other ≢ pair) pairs
apart_at_gap pairs pair at gap =
    let below : AreBelow (number_in pair) (take at pairs) =
    recursion_from_All (λ other. number_in other < number_in pair) (take at pairs) gap.below in
    let above : AreAbove (number_in pair) (drop at pairs) =
    recursion_from_All (λ other. number_in pair < number_in other) (drop at pairs) gap.above in
    All-from_recursion (λ other. other ≢ pair) pairs
    (subst (λ (whole : List (ℕ × ℕ)). AllByRecursion (λ other. other ≢ pair) whole) (take-append-drop at pairs)
    (all_join (λ other. other ≢ pair) (take at pairs) (drop at pairs)
    (weaker _ _ (below_differs pair) (take at pairs) below) (weaker _ _ (above_differs pair) (drop at pairs) above)))

-- a number behind another is above it
pub above_at : (low number : ℕ) (pairs : List (ℕ × ℕ)) (at : ℕ)
    → AreAbove low pairs → IsPlace pairs number at → low < number
above_at low number [] zero above place = absurd (cc place)
above_at low number [] (suc at) above place = absurd (cc place)
above_at low number (pair ∷ pairs) zero above place =
    let same : number_in pair ≡ number = cc place in omega (arith, above.0, same)
above_at low number (pair ∷ pairs) (suc at) above place = above_at low number pairs at above.1 place

differs_at : (pairs : List (ℕ × ℕ)) (pair other : ℕ × ℕ) (at : ℕ) → AreRising pairs
    → IsPlace pairs (number_in pair) at → Some other ≡ slice_get pairs at → ticket_in other ≢ ticket_in pair
    → AllByRecursion (λ one. one ≢ pair) pairs
differs_at [] pair other at rising place stands differ = tt
differs_at (first ∷ pairs) pair other zero rising place stands differ =
    let number : number_in first ≡ number_in pair = cc place in
    let here : other ≡ first = cc stands in (
      λ same. differ (ap ticket_in (here ∙ same)),
      weaker _ _ (λ one more. above_differs pair one (omega (arith, more, number))) pairs rising.0,
    )
differs_at (first ∷ pairs) pair other (suc at) rising place stands differ = (
  below_differs pair first (above_at (number_in first) (number_in pair) pairs at rising.0 place),
  differs_at pairs pair other at rising.1 place stands differ,
)

-- where the one with its first number has another second one
pub apart_at_place : (pairs : List (ℕ × ℕ)) (pair other : ℕ × ℕ) (at : ℕ) → IsStrictlyIncreasing (map number_in pairs)
    → IsPlace pairs (number_in pair) at → Some other ≡ slice_get pairs at → ticket_in other ≢ ticket_in pair
    → All (λ one. one ≢ pair) pairs
apart_at_place pairs pair other at increasing place stands differ =
    All-from_recursion (λ one. one ≢ pair) pairs
    (differs_at pairs pair other at (rising_from pairs increasing) place stands differ)

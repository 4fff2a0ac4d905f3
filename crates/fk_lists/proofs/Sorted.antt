-- Pairs sorted by any means are the pairs in order.
use Rattle.std.proofs.Common.{◌≡◌, ◌==◌, ◌&&◌, ◌||◌, ◌∙◌, ℕ, zero, suc, ◌+◌, ◌<◌, Bool, true, false, List, []}
use Rattle.std.proofs.Common.{◌∷◌, ◌++◌, filter, sym, refl, ap, subst, arith}
use native.Mathlib.Numerals.{unary_clauses}
use Rattle.std.specs.Prelude.{AllPairs, count_by, cond}
use Rattle.std.specs.List.{AllByRecursion}
use Rattle.std.specs.List.Sorted.{IsPermutation, IsSortedBy, IsSorted}
use Rattle.std.specs.Ordering.{nat_cmp, ordering_then, is_lt}
use Rattle.std.specs.declared.cmp.Ordering.TheVariants.{Less, Equal, Greater}
use Rattle.std.proofs.lemmas.Bool.Decides.{nat_tests}
use Rattle.std.proofs.lemmas.List.Elements.{recursion_from_All}
use Rattle.std.proofs.lemmas.List.Sums.{sum_by-cons}
use Rattle.std.proofs.lemmas.List.Sorted.{sum_by-IsPermutation}
use Rattle.std.specs.Map.{values_of}
use Rattle.fk_json.specs.PairOrder.{comes_before}
use Rattle.fk_model.specs.Orders.{in_order}
use Rattle.fk_model.proofs.Sorting.{IsAhead, are_in_order, are_the_same}
use Rattle.fk_lists.specs.Room.{Named, all_pairs}
use Rattle.fk_lists.specs.PairLists.{PairList, items_of}
use Rattle.fk_lists.proofs.Counted.{pairs_in, gathered}

-- each pair is ahead of those that come later
abbrev AreOrdered : List (ℕ × ℕ) → Type 0
AreOrdered [] = Unit {0}
AreOrdered (pair ∷ pairs) = AllByRecursion (IsAhead pair) pairs × AreOrdered pairs

-- ---- from neighbours

ahead_by_one : (one middle other : ℕ × ℕ) → IsAhead one middle → IsAhead middle other → IsAhead one other
ahead_by_one one middle other first second = grind (arith, nat_tests, first, second)

all_further : (one middle : ℕ × ℕ) (pairs : List (ℕ × ℕ)) → IsAhead one middle
    → AllByRecursion (IsAhead middle) pairs → AllByRecursion (IsAhead one) pairs
all_further one middle [] first all = tt
all_further one middle (pair ∷ pairs) first all =
    (ahead_by_one one middle pair first all.0, all_further one middle pairs first all.1)

neighbours_of_tail : (pair : ℕ × ℕ) (pairs : List (ℕ × ℕ))
    → IsSortedBy comes_before (pair ∷ pairs) → IsSortedBy comes_before pairs
neighbours_of_tail pair pairs sorted k d low within =
    let next = simp unary_clauses at (sorted (suc k) d (omega arith) (omega (arith, within))) in simp unary_clauses next

from_neighbours : (pairs : List (ℕ × ℕ)) → IsSortedBy comes_before pairs → AreOrdered pairs
from_neighbours [] sorted = tt
from_neighbours (pair ∷ []) sorted = (tt, tt)
from_neighbours (pair ∷ next ∷ pairs) sorted =
    let rest : AreOrdered (next ∷ pairs) =
    from_neighbours (next ∷ pairs) (neighbours_of_tail pair (next ∷ pairs) sorted) in
    let first : IsAhead pair next = sorted 0 pair (omega arith) (omega arith) in
    ((first, all_further pair next pairs first rest.0), rest)

from_all_pairs : (pairs : List (ℕ × ℕ)) → AllPairs IsAhead pairs → AreOrdered pairs
from_all_pairs [] all = tt
from_all_pairs (pair ∷ pairs) all = (
  recursion_from_All (IsAhead pair) pairs (λ k d within. all zero (suc k) d (omega arith) (omega (arith, within))),
  from_all_pairs pairs (λ i j d ahead within. all (suc i) (suc j) d (omega (arith, ahead)) (omega (arith, within))),
)

-- ---- the order of the library

same_order : (less equal less_then equal_then : Bool)
    → is_lt (ordering_then (cond less Less (cond equal Equal Greater))
    (cond less_then Less (cond equal_then Equal Greater)))
    ≡ (less || (equal && less_then))
same_order true equal less_then equal_then = refl
same_order false true true equal_then = refl
same_order false true false true = refl
same_order false true false false = refl
same_order false false less_then equal_then = refl

from_library : (pairs : List (ℕ × ℕ))
    → IsSorted (λ one other. ordering_then (nat_cmp one.0 other.0) (nat_cmp one.1 other.1)) pairs
    → IsSortedBy comes_before pairs
from_library pairs sorted k d low within = sym (same_order _ _ _ _) ∙ sorted k d low within

-- ---- two lists in order that have the same pairs

abbrev is_pair : ℕ × ℕ → ℕ × ℕ → Bool
is_pair one other = (one.0 == other.0) && (one.1 == other.1)

both_same : (one other : ℕ × ℕ) → one.0 ≡ other.0 → one.1 ≡ other.1 → one ≡ other
both_same (number, ticket) (other, behind) first second = cc (first, second)

pair_is : (one other : ℕ × ℕ) → is_pair one other ≡ true → one ≡ other
pair_is one other test =
    both_same one other (grind (arith, nat_tests, test)) (grind (arith, nat_tests, test))

pair_is_itself : (one : ℕ × ℕ) → is_pair one one ≡ true
pair_is_itself one = grind (arith, nat_tests)

abbrev one_if : Bool → ℕ
one_if test = cond test 1 0

count_first : (test : ℕ × ℕ → Bool) (pair : ℕ × ℕ) (pairs : List (ℕ × ℕ))
    → count_by test (pair ∷ pairs) ≡ one_if (test pair) + count_by test pairs
count_first test pair pairs = sum_by-cons (λ one. one_if (test one)) pair pairs

here_or_later : (P : ℕ × ℕ → Type 0) (one pair : ℕ × ℕ) (pairs : List (ℕ × ℕ)) (same : Bool) → is_pair one pair ≡ same
    → P pair → 0 < count_by (is_pair one) (pair ∷ pairs) → (0 < count_by (is_pair one) pairs → P one) → P one
here_or_later P one pair pairs true is here some later = subst P (sym (pair_is one pair is)) here
here_or_later P one pair pairs false is here some later =
    let first : count_by (is_pair one) (pair ∷ pairs) ≡ count_by (is_pair one) pairs =
    rw (count_first, is) (omega arith) in
    later (omega (arith, some, first))

counted_holds : (P : ℕ × ℕ → Type 0) (one : ℕ × ℕ) (pairs : List (ℕ × ℕ))
    → AllByRecursion P pairs → 0 < count_by (is_pair one) pairs → P one
counted_holds P one [] all some = absurd (omega (arith, some))
counted_holds P one (pair ∷ pairs) all some =
    here_or_later P one pair pairs (is_pair one pair) refl all.0 some (counted_holds P one pairs all.1)

abbrev pub HaveSame : List (ℕ × ℕ) → List (ℕ × ℕ) → Type 0
HaveSame ones others = (test : ℕ × ℕ → Bool) → count_by test ones ≡ count_by test others

counts_itself : (pair : ℕ × ℕ) (pairs : List (ℕ × ℕ)) → 0 < count_by (is_pair pair) (pair ∷ pairs)
counts_itself pair pairs =
    let first : count_by (is_pair pair) (pair ∷ pairs) ≡ 1 + count_by (is_pair pair) pairs =
    rw (count_first, pair_is_itself pair) refl in omega (arith, first)

ahead_of_itself : (pair : ℕ × ℕ) → IsAhead pair pair
ahead_of_itself pair = grind (arith, nat_tests)

first_ahead : (pair other : ℕ × ℕ) (pairs others : List (ℕ × ℕ)) → AllByRecursion (IsAhead pair) pairs
    → HaveSame (pair ∷ pairs) (other ∷ others) → IsAhead pair other
first_ahead pair other pairs others all same =
    counted_holds (IsAhead pair) other (pair ∷ pairs) (ahead_of_itself pair, all)
    (omega (arith, same (is_pair other), counts_itself other others))

neither_ahead : (one other : ℕ × ℕ) → IsAhead one other → IsAhead other one → one ≡ other
neither_ahead one other first second =
    both_same one other (grind (arith, nat_tests, first, second)) (grind (arith, nat_tests, first, second))

rest_same : (pair other : ℕ × ℕ) (pairs others : List (ℕ × ℕ)) → pair ≡ other
    → HaveSame (pair ∷ pairs) (other ∷ others) → HaveSame pairs others
rest_same pair other pairs others equal same test =
    let equally = ap (λ (one : ℕ × ℕ). one_if (test one)) equal in
    omega (arith, same test, count_first test pair pairs, count_first test other others, equally)

ordered_alike : (ones others : List (ℕ × ℕ))
    → AreOrdered ones → AreOrdered others → HaveSame ones others → ones ≡ others
ordered_alike [] [] one other same = refl
ordered_alike [] (pair ∷ pairs) one other same =
    absurd (omega (arith, same (is_pair pair), counts_itself pair pairs))
ordered_alike (pair ∷ pairs) [] one other same =
    absurd (omega (arith, same (is_pair pair), counts_itself pair pairs))
ordered_alike (pair ∷ pairs) (first ∷ rest) one other same =
    let equal : pair ≡ first = neither_ahead pair first (first_ahead pair first pairs rest one.0 same)
    (first_ahead first pair rest pairs other.0 (λ test. sym (same test))) in
    let left : pairs ≡ rest = ordered_alike pairs rest one.1 other.1 (rest_same pair first pairs rest equal same) in
    cc (equal, left)

-- of the same pairs there is one order
pub in_order_alike : (ones others : List (ℕ × ℕ)) → HaveSame ones others → in_order ones ≡ in_order others
in_order_alike ones others same =
    ordered_alike (in_order ones) (in_order others) (from_all_pairs (in_order ones) (are_in_order ones))
    (from_all_pairs (in_order others) (are_in_order others))
    (λ test. are_the_same test ones ∙ same test ∙ sym (are_the_same test others))

-- what a sort of the library leaves
pub sorted_is : (pairs sorted : List (ℕ × ℕ)) → IsPermutation pairs sorted
    → IsSorted (λ one other. ordering_then (nat_cmp one.0 other.0) (nat_cmp one.1 other.1)) sorted
    → sorted ≡ in_order pairs
sorted_is pairs sorted permutation is =
    ordered_alike sorted (in_order pairs) (from_neighbours sorted (from_library sorted is))
    (from_all_pairs (in_order pairs) (are_in_order pairs))
    (λ test. sum_by-IsPermutation (λ one. one_if (test one)) pairs sorted permutation ∙ sym (are_the_same test pairs))

-- of what was gathered from the held
pub gathered_in_order : (test : ℕ × ℕ → Bool) (found sorted : List (ℕ × ℕ)) (left whole : List PairList)
    (entries : List (List ℕ × PairList)) (items : Named) → left ≡ [] → whole ≡ values_of entries → items_of entries ≡ items
    → found ++ filter test (pairs_in left) ≡ filter test (pairs_in whole) → IsPermutation found sorted
    → IsSorted (λ one other. ordering_then (nat_cmp one.0 other.0) (nat_cmp one.1 other.1)) sorted
    → sorted ≡ in_order (filter test (all_pairs items))
gathered_in_order test found sorted left whole entries items none all seen so_far permutation is =
    sorted_is found sorted permutation is ∙ ap in_order (gathered test found left whole entries none all so_far)
    ∙ ap (λ (named : Named). in_order (filter test (all_pairs named))) seen

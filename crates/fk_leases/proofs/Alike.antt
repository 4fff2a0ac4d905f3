-- Pairs counted: turned, put among others, taken out, and kept by a test.
use Rattle.std.proofs.Common.{◌≡◌, ◌≢◌, ◌&&◌, ◌∙◌, ℕ, ◌+◌, ◌≤◌, Bool, true, false, not, cond, List, []}
use Rattle.std.proofs.Common.{◌∷◌, ◌++◌, filter, length, map, refl, sym, ap, subst, arith}
use Rattle.std.specs.Prelude.{count_by, sum_by}
use Rattle.std.specs.List.{AllByRecursion}
use Rattle.std.proofs.lemmas.Bool.Decides.{nat_tests}
use Rattle.std.proofs.lemmas.List.Filters.{sum_by-filter_both}
use Rattle.std.proofs.lemmas.List.Sums.{sum_by-append, sum_by-cons}
use Rattle.fk_json.specs.PairOrder.{comes_before, with_pair}
use Rattle.fk_tree.specs.Order.{without_pair, AreOthers, IsRising}
use Rattle.fk_leases.specs.Ends.{is_pair, HaveSame, IsAmong}

abbrev pub one_if : Bool → ℕ
one_if test = cond test 1 0

pub count_first : (test : ℕ × ℕ → Bool) (pair : ℕ × ℕ) (pairs : List (ℕ × ℕ))
    → count_by test (pair ∷ pairs) ≡ one_if (test pair) + count_by test pairs
count_first test pair pairs = sum_by-cons (λ one. one_if (test one)) pair pairs

pub count_map : (test : ℕ × ℕ → Bool) (f : ℕ × ℕ → ℕ × ℕ) (pairs : List (ℕ × ℕ))
    → count_by test (map f pairs) ≡ count_by (λ pair. test (f pair)) pairs
count_map test f [] = refl
count_map test f (pair ∷ pairs) =
    let now = count_first test (f pair) (map f pairs) in
    let then = count_first (λ one. test (f one)) pair pairs in
    omega (arith, now, then, count_map test f pairs)

pub count_kept : (test keep : ℕ × ℕ → Bool) (pairs : List (ℕ × ℕ))
    → count_by test (filter keep pairs) ≡ count_by (λ pair. keep pair && test pair) pairs
count_kept test keep [] = refl
count_kept test keep (pair ∷ pairs) =
    by (keep pair) (count_kept test keep pairs) ∙ sym (count_first (λ one. keep one && test one) pair pairs)
  where
    by : (kept : Bool) → count_by test (filter keep pairs) ≡ count_by (λ one. keep one && test one) pairs
        → count_by test (cond kept (pair ∷ filter keep pairs) (filter keep pairs))
        ≡ one_if (kept && test pair) + count_by (λ one. keep one && test one) pairs
    by true rest = count_first test pair (filter keep pairs) ∙ ap (λ count. one_if (test pair) + count) rest
    by false rest = omega (arith, rest)

pub count_all : (pairs : List (ℕ × ℕ)) → count_by (λ pair. true) pairs ≡ length pairs
count_all [] = refl
count_all (pair ∷ pairs) =
    let first = count_first (λ one. true) pair pairs in omega (arith, first, count_all pairs)

-- ---- one more

pub count_with : (pair : ℕ × ℕ) (pairs : List (ℕ × ℕ)) → HaveSame (with_pair pair pairs) (pair ∷ pairs)
count_with pair pairs test =
    let one = λ (x : ℕ × ℕ). one_if (test x) in
    let front = filter (λ other. comes_before other pair) pairs in
    let back = filter (λ other. not (comes_before other pair)) pairs in
    let whole : sum_by one (front ++ pair ∷ back) ≡ sum_by one front + sum_by one (pair ∷ back) =
    sum_by-append one front (pair ∷ back) in
    let behind : sum_by one (pair ∷ back) ≡ one pair + sum_by one back = sum_by-cons one pair back in
    let ahead : sum_by one (pair ∷ pairs) ≡ one pair + sum_by one pairs = sum_by-cons one pair pairs in
    let parts : sum_by one front + sum_by one back ≡ sum_by one pairs =
    sum_by-filter_both (λ other. comes_before other pair) (λ other. not (comes_before other pair))
    (λ other. refl) one pairs in
    omega (arith, whole, behind, ahead, parts)

-- ---- one less

both_same : (one other : ℕ × ℕ) → one.0 ≡ other.0 → one.1 ≡ other.1 → one ≡ other
both_same (moment, ticket) (other, behind) first second = cc (first, second)

same_pair : (pair other : ℕ × ℕ) → is_pair pair other ≡ true → other ≡ pair
same_pair pair other same =
    both_same other pair (grind (arith, nat_tests, same)) (grind (arith, nat_tests, same))

pub itself : (pair : ℕ × ℕ) → is_pair pair pair ≡ true
itself pair = grind (arith, nat_tests)

behind_differs : (pair other : ℕ × ℕ) → comes_before pair other ≡ true → is_pair pair other ≡ false
behind_differs pair other before = grind (arith, nat_tests, before)

none_behind : (pair : ℕ × ℕ) (pairs : List (ℕ × ℕ)) → AllByRecursion (λ other. comes_before pair other ≡ true) pairs
    → count_by (is_pair pair) pairs ≡ 0
none_behind pair [] behind = refl
none_behind pair (other ∷ pairs) behind =
    let first = count_first (is_pair pair) other pairs in
    let differs = ap one_if (behind_differs pair other behind.0) in
    omega (arith, first, differs, none_behind pair pairs behind.1)

-- among pairs in order each stands once
pub at_most_once : (pair : ℕ × ℕ) (pairs : List (ℕ × ℕ)) → IsRising pairs → count_by (is_pair pair) pairs ≤ 1
at_most_once pair [] rising = omega arith
at_most_once pair (other ∷ pairs) rising =
    by (is_pair pair other) refl (at_most_once pair pairs rising.1)
  where
    by : (here : Bool) → is_pair pair other ≡ here → count_by (is_pair pair) pairs ≤ 1
        → count_by (is_pair pair) (other ∷ pairs) ≤ 1
    by true same rest =
        let first = count_first (is_pair pair) other pairs in
        let is = ap one_if same in
        let none = none_behind other pairs rising.0 in
        let none_left : count_by (is_pair pair) pairs ≡ 0 =
        subst (λ (one : ℕ × ℕ). count_by (is_pair one) pairs ≡ 0) (same_pair pair other same) none in
        omega (arith, first, is, none_left)
    by false same rest =
        let first = count_first (is_pair pair) other pairs in
        let is = ap one_if same in omega (arith, first, is, rest)

-- those that are taken out count as this pair does, the others stay
pub count_without : (test : ℕ × ℕ → Bool) (pair : ℕ × ℕ) (pairs : List (ℕ × ℕ))
    → count_by test pairs
    ≡ cond (test pair) (count_by (is_pair pair) pairs) 0 + count_by test (without_pair pair pairs)
count_without test pair [] = by (test pair)
  where
    by : (passes : Bool) → 0 ≡ cond passes 0 0 + 0
    by true = refl
    by false = refl
count_without test pair (other ∷ pairs) =
    by (is_pair pair other) refl (test pair) refl (count_without test pair pairs)
  where
    by : (here : Bool) → is_pair pair other ≡ here → (passes : Bool) → test pair ≡ passes
        → count_by test pairs ≡ cond passes (count_by (is_pair pair) pairs) 0 + count_by test (without_pair pair pairs)
        → count_by test (other ∷ pairs) ≡ cond passes (count_by (is_pair pair) (other ∷ pairs)) 0
        + count_by test (cond (not here) (other ∷ without_pair pair pairs) (without_pair pair pairs))
    by true same true passes rest =
        let first = count_first test other pairs in
        let as_pair = ap one_if (ap test (same_pair pair other same) ∙ passes) in
        let counted = count_first (is_pair pair) other pairs in
        let is = ap one_if same in omega (arith, first, as_pair, counted, is, rest)
    by true same false passes rest =
        let first = count_first test other pairs in
        let as_pair = ap one_if (ap test (same_pair pair other same) ∙ passes) in
        omega (arith, first, as_pair, rest)
    by false same true passes rest =
        let first = count_first test other pairs in
        let left = count_first test other (without_pair pair pairs) in
        let counted = count_first (is_pair pair) other pairs in
        let is = ap one_if same in omega (arith, first, left, counted, is, rest)
    by false same false passes rest =
        let first = count_first test other pairs in
        let left = count_first test other (without_pair pair pairs) in omega (arith, first, left, rest)

-- pairs among which a pair is counted never are others
pub are_others : (pair : ℕ × ℕ) (pairs : List (ℕ × ℕ)) → count_by (is_pair pair) pairs ≡ 0 → AreOthers pair pairs
are_others pair [] none = tt
are_others pair (other ∷ pairs) none =
    let first = count_first (is_pair pair) other pairs in
    (differs (is_pair pair other) refl first, are_others pair pairs (omega (arith, none, first)))
  where
    differs : (here : Bool) → is_pair pair other ≡ here
        → count_by (is_pair pair) (other ∷ pairs) ≡ one_if (is_pair pair other) + count_by (is_pair pair) pairs
        → other ≢ pair
    differs true same first = let one = ap one_if same in absurd (omega (arith, none, first, one))
    differs false other_one first = λ equal. absurd (cc (ap (is_pair pair) equal, itself pair, other_one))

-- ---- what a call leaves

-- a pair taken out from among others
pub has_left : (pair : ℕ × ℕ) (before after : List (ℕ × ℕ)) → IsRising before → after ≡ without_pair pair before
    → IsAmong pair before → HaveSame before (pair ∷ after)
has_left pair before after rising left among test =
    let once : count_by (is_pair pair) before ≡ 1 = omega (arith, at_most_once pair before rising, among) in
    let first = count_first test pair after in
    let rest : count_by test after ≡ count_by test (without_pair pair before) = ap (count_by test) left in
    by (test pair) refl once first rest (count_without test pair before)
  where
    by : (passes : Bool) → test pair ≡ passes → count_by (is_pair pair) before ≡ 1
        → count_by test (pair ∷ after) ≡ one_if (test pair) + count_by test after
        → count_by test after ≡ count_by test (without_pair pair before)
        → count_by test before
        ≡ cond (test pair) (count_by (is_pair pair) before) 0 + count_by test (without_pair pair before)
        → count_by test before ≡ count_by test (pair ∷ after)
    by true passes once first rest whole =
        let one = ap one_if passes in
        let taken = ap (λ here. cond here (count_by (is_pair pair) before) 0) passes in
        omega (arith, one, once, first, rest, whole, taken)
    by false passes once first rest whole =
        let one = ap one_if passes in
        let taken = ap (λ here. cond here (count_by (is_pair pair) before) 0) passes in
        omega (arith, one, first, rest, whole, taken)

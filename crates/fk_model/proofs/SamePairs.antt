-- Two lists of the same pairs are sorted alike.
use Rattle.std.proofs.Common.{◌≡◌, ◌∙◌, sym, ap, refl, ℕ, ◌+◌, ◌<◌, List, [], ◌∷◌, ◌++◌, Bool, true, false, arith}
use Rattle.std.specs.Prelude.{◌==◌, ◌&&◌, if◌then◌else◌, count_by, sum_by, fold}
use Rattle.std.specs.List.Sorted.{IsPermutation}
use Rattle.std.proofs.lemmas.Bool.Decides.{nat_tests}
use Rattle.std.proofs.lemmas.List.Sums.{sum_by-append, sum_by-cons}
use Rattle.std.proofs.lemmas.List.Sorted.{sum_by-IsPermutation}
use Rattle.fk_json.specs.PairOrder.{with_pair}
use Rattle.fk_model.specs.Orders.{number_in, ticket_in, in_order}
use Rattle.fk_model.proofs.Insertion.{same_pair, sorted_around}

-- one for each that passes
abbrev one_for : (ℕ × ℕ → Bool) → ℕ × ℕ → ℕ
one_for test pair = if test pair then 1 else 0

-- ---- a pair among others

is_pair : ℕ × ℕ → ℕ × ℕ → Bool
is_pair pair other = (number_in pair == number_in other) && (ticket_in pair == ticket_in other)

same_from_test : (pair other : ℕ × ℕ) → is_pair pair other ≡ true → other ≡ pair
unfolding is_pair
same_from_test (a, b) (c, d) same = grind (arith, nat_tests, same_pair c d a b, same)

is_itself : (pair : ℕ × ℕ) → is_pair pair pair ≡ true
unfolding is_pair
is_itself (a, b) = grind (arith, nat_tests)

-- a pair that is counted stands somewhere
record IsAmong (pair : ℕ × ℕ) (pairs : List (ℕ × ℕ)) : Type 0 where
  front : List (ℕ × ℕ)
  back : List (ℕ × ℕ)
  whole : pairs ≡ front ++ pair ∷ back

among_if : (pair one : ℕ × ℕ) (pairs : List (ℕ × ℕ)) (test : Bool) → is_pair pair one ≡ test
    → 0 < count_by (is_pair pair) (one ∷ pairs)
    → (0 < count_by (is_pair pair) pairs → IsAmong pair pairs) → IsAmong pair (one ∷ pairs)
among_if pair one pairs true e some rest =
    record { front = []; back = pairs; whole = rw (same_from_test pair one e) refl }
among_if pair one pairs false e some rest =
    let split : sum_by (one_for (is_pair pair)) (one ∷ pairs)
    ≡ one_for (is_pair pair) one + sum_by (one_for (is_pair pair)) pairs =
    sum_by-cons (one_for (is_pair pair)) one pairs in
    let none : one_for (is_pair pair) one ≡ 0 = rw e refl in
    let there = rest (omega (arith, split, none, some)) in
    record {
      front = one ∷ there.front;
      back = there.back;
      whole = ap (λ xs. one ∷ xs) there.whole;
    }

among : (pair : ℕ × ℕ) (pairs : List (ℕ × ℕ)) → 0 < count_by (is_pair pair) pairs → IsAmong pair pairs
among pair [] some = absurd (omega (arith, some))
among pair (one ∷ pairs) some =
    among_if pair one pairs (is_pair pair one) refl some (among pair pairs)

-- ---- the same pairs

-- a test passes as often in one list as in the other
abbrev pub AreSame : List (ℕ × ℕ) → List (ℕ × ℕ) → Type 0
AreSame pairs others = (test : ℕ × ℕ → Bool) → count_by test pairs ≡ count_by test others

fewer : (pair : ℕ × ℕ) (pairs others front back : List (ℕ × ℕ)) → AreSame (pair ∷ pairs) others
    → others ≡ front ++ pair ∷ back → AreSame pairs (front ++ back)
fewer pair pairs others front back same whole test =
    let left : sum_by (one_for test) (pair ∷ pairs) ≡ one_for test pair + sum_by (one_for test) pairs =
    sum_by-cons (one_for test) pair pairs in
    let right : sum_by (one_for test) (front ++ pair ∷ back)
    ≡ sum_by (one_for test) front + sum_by (one_for test) (pair ∷ back) =
    sum_by-append (one_for test) front (pair ∷ back) in
    let behind_it : sum_by (one_for test) (pair ∷ back)
    ≡ one_for test pair + sum_by (one_for test) back = sum_by-cons (one_for test) pair back in
    let both : sum_by (one_for test) (front ++ back)
    ≡ sum_by (one_for test) front + sum_by (one_for test) back =
    sum_by-append (one_for test) front back in
    let equal : sum_by (one_for test) (pair ∷ pairs) ≡ sum_by (one_for test) (front ++ pair ∷ back) =
    same test ∙ ap (sum_by (one_for test)) whole in
    omega (arith, left, right, behind_it, both, equal)

is_there : (pair : ℕ × ℕ) (pairs others : List (ℕ × ℕ)) → AreSame (pair ∷ pairs) others
    → 0 < count_by (is_pair pair) others
is_there pair pairs others same =
    let equal : sum_by (one_for (is_pair pair)) (pair ∷ pairs)
    ≡ sum_by (one_for (is_pair pair)) others = same (is_pair pair) in
    let split : sum_by (one_for (is_pair pair)) (pair ∷ pairs)
    ≡ one_for (is_pair pair) pair + sum_by (one_for (is_pair pair)) pairs =
    sum_by-cons (one_for (is_pair pair)) pair pairs in
    let itself : one_for (is_pair pair) pair ≡ 1 = rw (is_itself pair) refl in
    omega (arith, equal, split, itself)

none_left : (others : List (ℕ × ℕ)) → AreSame [] others → in_order [] ≡ in_order others
none_left [] same = refl
none_left (one ∷ others) same =
    let equal : sum_by (one_for (λ x. true)) [] ≡ sum_by (one_for (λ x. true)) (one ∷ others) =
    same (λ x. true) in
    let split : sum_by (one_for (λ x. true)) (one ∷ others)
    ≡ 1 + sum_by (one_for (λ x. true)) others = sum_by-cons (one_for (λ x. true)) one others in
    absurd (omega (arith, equal, split))

-- lists of the same pairs, in whatever order, are sorted alike
pub same_sorted : (pairs others : List (ℕ × ℕ)) → AreSame pairs others → in_order pairs ≡ in_order others
unfolding in_order
same_sorted [] others same = none_left others same
same_sorted (pair ∷ pairs) others same =
    let there = among pair others (is_there pair pairs others same) in
    ap (with_pair pair) (same_sorted pairs (there.front ++ there.back)
    (fewer pair pairs others there.front there.back same there.whole))
    ∙ sym (sorted_around there.front there.back pair) ∙ sym (ap in_order there.whole)

-- a list in another order is sorted alike
pub permuted_sorted : (pairs others : List (ℕ × ℕ)) → IsPermutation pairs others
    → in_order pairs ≡ in_order others
permuted_sorted pairs others moved =
    same_sorted pairs others
    (λ test. sym (sum_by-IsPermutation (one_for test) pairs others moved))

-- ---- pairs put in one after the other

-- putting pairs one after the other into a sorted list sorts all of them
pub sorted_fold : (pairs others : List (ℕ × ℕ))
    → fold (λ (sorted : List (ℕ × ℕ)) (pair : ℕ × ℕ). with_pair pair sorted) (in_order others) pairs
    ≡ in_order (pairs ++ others)
unfolding in_order
sorted_fold [] others = refl
sorted_fold (pair ∷ pairs) others =
    sorted_fold pairs (pair ∷ others) ∙ sorted_around pairs others pair

-- Putting, taking and finding a pair in a rising list, by the pair in its middle.
use Rattle.std.proofs.Common.{◌≡◌, ℕ, ◌≢◌, ◌<◌, Bool, true, false, inl, inr, not, ◌&&◌, ◌==◌, List, [], ◌∷◌, ◌++◌, refl, sym, ap, ◌∙◌, subst, append_assoc, arith}
use Rattle.std.specs.Prelude.{filter, Contains, nat_lt}
use Rattle.std.specs.List.{AllByRecursion}
use Rattle.std.proofs.lemmas.Bool.{cases_Bool}
use Rattle.std.proofs.lemmas.Bool.Decides.{nat_tests}
use Rattle.std.proofs.lemmas.List.Elements.{All-from_recursion, All-contains, Contains-append_right, Contains-append_cases}
use Rattle.fk_json.specs.PairOrder.{comes_before, with_pair}
use Rattle.fk_tree.specs.Order.{without_pair, up_to, IsRising}
use Rattle.fk_tree.proofs.Kept.{all_weaker, kept_first, lost_first, kept_all, back_kept, back_lost, front_kept, front_lost}
use Rattle.fk_tree.proofs.Rising.{not_behind, further, all_ahead, all_behind, rising_filter, rising_join}

abbrev is_ahead : ℕ × ℕ → ℕ × ℕ → Bool
is_ahead pair other = comes_before other pair

abbrev is_not_ahead : ℕ × ℕ → ℕ × ℕ → Bool
is_not_ahead pair other = not (comes_before other pair)

abbrev differs : ℕ × ℕ → ℕ × ℕ → Bool
differs pair other = not ((other.0 == pair.0) && (other.1 == pair.1))

-- ---- what a pair that comes before another says of the tests

not_of : (b : Bool) → b ≡ false → not b ≡ true
not_of b is = ap not is

unlike : (one other : ℕ × ℕ) → comes_before one other ≡ true → differs one other ≡ true
unlike one other before = grind (arith, nat_tests, before)

unlike_back : (one other : ℕ × ℕ) → comes_before one other ≡ true → differs other one ≡ true
unlike_back one other before = grind (arith, nat_tests, before)

like : (one : ℕ × ℕ) → differs one one ≡ false
like one = grind (arith, nat_tests)

both_same : (one other : ℕ × ℕ) → one.0 ≡ other.0 → one.1 ≡ other.1 → one ≡ other
both_same (moment, ticket) (other, behind) first second = cc (first, second)

neither : (one other : ℕ × ℕ) → comes_before one other ≡ false → comes_before other one ≡ false → one ≡ other
neither one other first second =
    both_same one other (grind (arith, nat_tests, first, second)) (grind (arith, nat_tests, first, second))

behind_too : (pair middle : ℕ × ℕ) (right : List (ℕ × ℕ)) → comes_before pair middle ≡ true
    → AllByRecursion (λ other. comes_before middle other ≡ true) right
    → AllByRecursion (λ other. comes_before pair other ≡ true) (middle ∷ right)
behind_too pair middle right before behind = (
  before,
  all_weaker (λ other. comes_before middle other ≡ true) (λ other. comes_before pair other ≡ true)
      (λ other. further pair middle other before) right behind,
)

ahead_too : (pair middle : ℕ × ℕ) (left : List (ℕ × ℕ)) → comes_before middle pair ≡ true
    → AllByRecursion (λ other. comes_before other middle ≡ true) left
    → AllByRecursion (λ other. comes_before other pair ≡ true) left
ahead_too pair middle left before ahead =
    all_weaker (λ other. comes_before other middle ≡ true) (λ other. comes_before other pair ≡ true)
    (λ other first. further other middle pair first before) left ahead

-- ---- putting

pub with_left : (pair : ℕ × ℕ) (left : List (ℕ × ℕ)) (middle : ℕ × ℕ) (right : List (ℕ × ℕ))
    → IsRising (left ++ middle ∷ right) → comes_before pair middle ≡ true
    → with_pair pair (left ++ middle ∷ right) ≡ with_pair pair left ++ middle ∷ right
with_left pair left middle right rising before =
    let behind = behind_too pair middle right before (all_behind left middle right rising) in
    let lost : filter (is_ahead pair) (left ++ middle ∷ right) ≡ filter (is_ahead pair) left =
    back_lost (is_ahead pair) left (middle ∷ right)
    (all_weaker (λ other. comes_before pair other ≡ true) (λ other. is_ahead pair other ≡ false)
    (λ other. not_behind pair other) (middle ∷ right) behind) in
    let kept : filter (is_not_ahead pair) (left ++ middle ∷ right) ≡ filter (is_not_ahead pair) left ++ middle ∷ right =
    back_kept (is_not_ahead pair) left (middle ∷ right)
    (all_weaker (λ other. comes_before pair other ≡ true) (λ other. is_not_ahead pair other ≡ true)
    (λ other first. not_of (comes_before other pair) (not_behind pair other first)) (middle ∷ right) behind) in
    ap (λ front. front ++ pair ∷ filter (is_not_ahead pair) (left ++ middle ∷ right)) lost
    ∙ ap (λ back. filter (is_ahead pair) left ++ pair ∷ back) kept
    ∙ sym (append_assoc (filter (is_ahead pair) left) (pair ∷ filter (is_not_ahead pair) left) (middle ∷ right))

pub with_right : (pair : ℕ × ℕ) (left : List (ℕ × ℕ)) (middle : ℕ × ℕ) (right : List (ℕ × ℕ))
    → IsRising (left ++ middle ∷ right) → comes_before middle pair ≡ true
    → with_pair pair (left ++ middle ∷ right) ≡ left ++ middle ∷ with_pair pair right
with_right pair left middle right rising before =
    let ahead = ahead_too pair middle left before (all_ahead left middle right rising) in
    let kept : filter (is_ahead pair) (left ++ middle ∷ right) ≡ left ++ middle ∷ filter (is_ahead pair) right =
    front_kept (is_ahead pair) left (middle ∷ right) ahead
    ∙ ap (λ back. left ++ back) (kept_first (is_ahead pair) middle right before) in
    let lost : filter (is_not_ahead pair) (left ++ middle ∷ right) ≡ filter (is_not_ahead pair) right =
    front_lost (is_not_ahead pair) left (middle ∷ right)
    (all_weaker (λ other. comes_before other pair ≡ true) (λ other. is_not_ahead pair other ≡ false)
    (λ other first. ap not first) left ahead)
    ∙ lost_first (is_not_ahead pair) middle right (ap not before) in
    ap (λ front. front ++ pair ∷ filter (is_not_ahead pair) (left ++ middle ∷ right)) kept
    ∙ ap (λ back. (left ++ middle ∷ filter (is_ahead pair) right) ++ pair ∷ back) lost
    ∙ append_assoc left (middle ∷ filter (is_ahead pair) right) (pair ∷ filter (is_not_ahead pair) right)

-- ---- a pair that is put

absent_behind : (pair other : ℕ × ℕ) → other ≢ pair → is_not_ahead pair other ≡ true → comes_before pair other ≡ true
absent_behind pair other unequal behind =
    elim (cases_Bool (comes_before pair other)) [
      | inl before ↦ before
      | inr not_before ↦ absurd (unequal (neither other pair (unnot (comes_before other pair) behind) not_before))
    ]
  where
    unnot : (b : Bool) → not b ≡ true → b ≡ false
    unnot true is = sym is
    unnot false is = refl

behind_all : (pair : ℕ × ℕ) (pairs : List (ℕ × ℕ)) → AllByRecursion (λ other. other ≢ pair) pairs
    → AllByRecursion (λ other. comes_before pair other ≡ true) (filter (is_not_ahead pair) pairs)
behind_all pair [] absent = tt
behind_all pair (other ∷ pairs) absent =
    elim (cases_Bool (is_not_ahead pair other)) [
      | inl behind ↦
          subst (AllByRecursion (λ one. comes_before pair one ≡ true))
          (sym (kept_first (is_not_ahead pair) other pairs behind))
          (absent_behind pair other absent.0 behind, behind_all pair pairs absent.1)
      | inr ahead ↦
          subst (AllByRecursion (λ one. comes_before pair one ≡ true))
          (sym (lost_first (is_not_ahead pair) other pairs ahead)) (behind_all pair pairs absent.1)
    ]

ahead_all : (pair : ℕ × ℕ) (pairs : List (ℕ × ℕ))
    → AllByRecursion (λ other. comes_before other pair ≡ true) (filter (is_ahead pair) pairs)
ahead_all pair [] = tt
ahead_all pair (other ∷ pairs) =
    elim (cases_Bool (is_ahead pair other)) [
      | inl ahead ↦
          subst (AllByRecursion (λ one. comes_before one pair ≡ true))
          (sym (kept_first (is_ahead pair) other pairs ahead)) (ahead, ahead_all pair pairs)
      | inr behind ↦
          subst (AllByRecursion (λ one. comes_before one pair ≡ true))
          (sym (lost_first (is_ahead pair) other pairs behind)) (ahead_all pair pairs)
    ]

pub rising_with : (pair : ℕ × ℕ) (pairs : List (ℕ × ℕ)) → IsRising pairs
    → AllByRecursion (λ other. other ≢ pair) pairs → IsRising (with_pair pair pairs)
rising_with pair pairs rising absent =
    rising_join (filter (is_ahead pair) pairs) (filter (is_not_ahead pair) pairs) pair
    (rising_filter (is_ahead pair) pairs rising) (rising_filter (is_not_ahead pair) pairs rising)
    (ahead_all pair pairs) (behind_all pair pairs absent)

-- ---- taking

pub without_left : (pair : ℕ × ℕ) (left : List (ℕ × ℕ)) (middle : ℕ × ℕ) (right : List (ℕ × ℕ))
    → IsRising (left ++ middle ∷ right) → comes_before pair middle ≡ true
    → without_pair pair (left ++ middle ∷ right) ≡ without_pair pair left ++ middle ∷ right
without_left pair left middle right rising before =
    back_kept (differs pair) left (middle ∷ right)
    (all_weaker (λ other. comes_before pair other ≡ true) (λ other. differs pair other ≡ true)
    (λ other. unlike pair other) (middle ∷ right)
    (behind_too pair middle right before (all_behind left middle right rising)))

pub without_right : (pair : ℕ × ℕ) (left : List (ℕ × ℕ)) (middle : ℕ × ℕ) (right : List (ℕ × ℕ))
    → IsRising (left ++ middle ∷ right) → comes_before middle pair ≡ true
    → without_pair pair (left ++ middle ∷ right) ≡ left ++ middle ∷ without_pair pair right
without_right pair left middle right rising before =
    front_kept (differs pair) left (middle ∷ right)
    (all_weaker (λ other. comes_before other pair ≡ true) (λ other. differs pair other ≡ true)
    (λ other. unlike_back other pair) left
    (ahead_too pair middle left before (all_ahead left middle right rising)))
    ∙ ap (λ back. left ++ back) (kept_first (differs pair) middle right (unlike_back middle pair before))

pub without_middle : (left : List (ℕ × ℕ)) (middle : ℕ × ℕ) (right : List (ℕ × ℕ))
    → IsRising (left ++ middle ∷ right) → without_pair middle (left ++ middle ∷ right) ≡ left ++ right
without_middle left middle right rising =
    front_kept (differs middle) left (middle ∷ right)
    (all_weaker (λ other. comes_before other middle ≡ true) (λ other. differs middle other ≡ true)
    (λ other. unlike_back other middle) left (all_ahead left middle right rising))
    ∙ ap (λ back. left ++ back) (lost_first (differs middle) middle right (like middle)
    ∙ kept_all (differs middle) right
    (all_weaker (λ other. comes_before middle other ≡ true) (λ other. differs middle other ≡ true)
    (λ other. unlike middle other) right (all_behind left middle right rising)))

-- ---- finding

not_itself : (pair : ℕ × ℕ) → comes_before pair pair ≡ false
not_itself pair = grind (arith, nat_tests)

nowhere_behind : (pair : ℕ × ℕ) (pairs : List (ℕ × ℕ)) → AllByRecursion (λ other. comes_before pair other ≡ true) pairs
    → Contains pairs pair → ⊥
nowhere_behind pair pairs behind contained =
    let before = All-contains (λ other. comes_before pair other ≡ true) pairs pair
    (All-from_recursion (λ other. comes_before pair other ≡ true) pairs behind) contained in
    cc (before, not_itself pair)

nowhere_ahead : (pair : ℕ × ℕ) (pairs : List (ℕ × ℕ)) → AllByRecursion (λ other. comes_before other pair ≡ true) pairs
    → Contains pairs pair → ⊥
nowhere_ahead pair pairs ahead contained =
    let before = All-contains (λ other. comes_before other pair ≡ true) pairs pair
    (All-from_recursion (λ other. comes_before other pair ≡ true) pairs ahead) contained in
    cc (before, not_itself pair)

pub found_left : (pair : ℕ × ℕ) (left : List (ℕ × ℕ)) (middle : ℕ × ℕ) (right : List (ℕ × ℕ))
    → IsRising (left ++ middle ∷ right) → comes_before pair middle ≡ true
    → Contains (left ++ middle ∷ right) pair → Contains left pair
found_left pair left middle right rising before contained =
    elim (Contains-append_cases left (middle ∷ right) pair contained) [
      | inl here ↦ here
      | inr there ↦
          absurd (nowhere_behind pair (middle ∷ right)
          (behind_too pair middle right before (all_behind left middle right rising)) there)
    ]

pub found_right : (pair : ℕ × ℕ) (left : List (ℕ × ℕ)) (middle : ℕ × ℕ) (right : List (ℕ × ℕ))
    → IsRising (left ++ middle ∷ right) → comes_before middle pair ≡ true
    → Contains (left ++ middle ∷ right) pair → Contains right pair
found_right pair left middle right rising before contained =
    elim (Contains-append_cases left (middle ∷ right) pair contained) [
      | inl here ↦
          absurd (nowhere_ahead pair left (ahead_too pair middle left before (all_ahead left middle right rising)) here)
      | inr there ↦
          elim (Contains-append_cases (middle ∷ []) right pair there) [
            | inl itself ↦ absurd (nowhere_ahead pair (middle ∷ []) (before, tt) itself)
            | inr behind ↦ behind
          ]
    ]

pub found_in_right : (pair : ℕ × ℕ) (left : List (ℕ × ℕ)) (middle : ℕ × ℕ) (right : List (ℕ × ℕ))
    → Contains right pair → Contains (left ++ middle ∷ right) pair
found_in_right pair left middle right contained =
    Contains-append_right left (middle ∷ right) pair (Contains-append_right (middle ∷ []) right pair contained)

pub found_middle : (left : List (ℕ × ℕ)) (middle : ℕ × ℕ) (right : List (ℕ × ℕ))
    → Contains (left ++ middle ∷ right) middle
found_middle left middle right =
    Contains-append_right left (middle ∷ right) middle (0, omega arith, refl)

-- ---- up to a moment

later : (moment : ℕ) (one other : ℕ × ℕ) → moment < one.0 → comes_before one other ≡ true
    → not (nat_lt moment other.0) ≡ false
later moment one other less before = grind (arith, nat_tests, less, before)

pub up_to_left : (moment : ℕ) (left : List (ℕ × ℕ)) (middle : ℕ × ℕ) (right : List (ℕ × ℕ))
    → IsRising (left ++ middle ∷ right) → moment < middle.0
    → up_to moment (left ++ middle ∷ right) ≡ up_to moment left
up_to_left moment left middle right rising less =
    back_lost (λ pair. not (nat_lt moment pair.0)) left (middle ∷ right) (
      grind (arith, nat_tests, less),
      all_weaker (λ other. comes_before middle other ≡ true) (λ other. not (nat_lt moment other.0) ≡ false)
          (λ other. later moment middle other less) right (all_behind left middle right rising),
    )

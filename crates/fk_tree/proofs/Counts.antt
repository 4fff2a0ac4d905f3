-- Pairs counted, and comparisons within their bound.
use Rattle.std.proofs.Common.{◌≡◌, ℕ, ◌+◌, ◌≤◌, Bool, true, false, not, List, [], ◌∷◌, ◌==◌, ◌&&◌, ◌⊎◌, inl, inr, length, length-append, filter, sym, subst, ◌∙◌, refl, arith}
use Rattle.std.specs.Prelude.{Contains}
use Rattle.std.proofs.lemmas.Bool.{cases_Bool}
use Rattle.std.proofs.lemmas.Bool.Decides.{nat_tests}
use Rattle.std.proofs.lemmas.List.Elements.{All-from_recursion, All-contains, Contains-append_right, Contains-append_cases}
use Rattle.std.proofs.lemmas.List.Filters.{length-filter_both}
use Rattle.fk_json.specs.PairOrder.{comes_before, with_pair}
use Rattle.fk_tree.specs.Order.{without_pair, IsRising}
use Rattle.fk_tree.specs.Depth.{AreFew}
use Rattle.fk_tree.specs.Shape.{Shape, IsFull}
use Rattle.fk_tree.proofs.Kept.{all_weaker, kept_first, lost_first, kept_all}
use Rattle.fk_tree.proofs.Halves.{within_depth}

-- one more
pub length-with_pair : (pair : ℕ × ℕ) (pairs : List (ℕ × ℕ)) → length (with_pair pair pairs) ≡ length pairs + 1
length-with_pair pair pairs =
    omega (
      arith,
      length-append (filter (λ (other : ℕ × ℕ). comes_before other pair) pairs) (pair ∷ filter (λ (other : ℕ × ℕ). not (comes_before other pair)) pairs),
      length-filter_both (λ (other : ℕ × ℕ). comes_before other pair) (λ (other : ℕ × ℕ). not (comes_before other pair)) (λ _. refl) pairs,
    )

-- ---- one less, or none

abbrev differs : ℕ × ℕ → ℕ × ℕ → Bool
differs pair other = not ((other.0 == pair.0) && (other.1 == pair.1))

both_same : (one other : ℕ × ℕ) → one.0 ≡ other.0 → one.1 ≡ other.1 → one ≡ other
both_same (moment, ticket) (other, behind) first second = cc (first, second)

same_pair : (pair other : ℕ × ℕ) → differs pair other ≡ false → other ≡ pair
same_pair pair other same =
    both_same other pair (grind (arith, nat_tests, same)) (grind (arith, nat_tests, same))

itself : (pair : ℕ × ℕ) → differs pair pair ≡ false
itself pair = grind (arith, nat_tests)

behind_differs : (pair other : ℕ × ℕ) → comes_before pair other ≡ true → differs pair other ≡ true
behind_differs pair other before = grind (arith, nat_tests, before)

not_alone : (pair other : ℕ × ℕ) → differs pair other ≡ true → Contains (other ∷ []) pair → ⊥
not_alone pair other unlike contained =
    let there = All-contains (λ one. differs pair one ≡ true) (other ∷ []) pair
    (All-from_recursion (λ one. differs pair one ≡ true) (other ∷ []) (unlike, tt)) contained in
    cc (there, itself pair)

-- the pair was among them and one less is left, or it wasn't and all are left
abbrev AreLeft : ℕ × ℕ → List (ℕ × ℕ) → List (ℕ × ℕ) → Type 0
AreLeft pair pairs left =
    (Contains pairs pair × (length left + 1 ≡ length pairs))
    ⊎ ((Contains pairs pair → ⊥) × (length left ≡ length pairs))

one_more_left : (pair other : ℕ × ℕ) (pairs left : List (ℕ × ℕ)) → differs pair other ≡ true
    → AreLeft pair pairs left → AreLeft pair (other ∷ pairs) (other ∷ left)
one_more_left pair other pairs left unlike (inl there) =
    inl (Contains-append_right (other ∷ []) pairs pair there.0, omega (arith, there.1))
one_more_left pair other pairs left unlike (inr absent) = inr (
  (λ contained. elim (Contains-append_cases (other ∷ []) pairs pair contained) [
    | inl alone ↦ not_alone pair other unlike alone
    | inr there ↦ absent.0 there
  ]),
  omega (arith, absent.1),
)

are_left : (pair : ℕ × ℕ) (pairs : List (ℕ × ℕ)) → IsRising pairs → AreLeft pair pairs (without_pair pair pairs)
are_left pair [] rising = inr ((λ contained. absurd (omega (arith, contained.1))), refl)
are_left pair (other ∷ pairs) rising =
    elim (cases_Bool (differs pair other)) [
      | inl unlike ↦
          subst (AreLeft pair (other ∷ pairs)) (sym (kept_first (differs pair) other pairs unlike))
          (one_more_left pair other pairs (without_pair pair pairs) unlike (are_left pair pairs rising.1))
      | inr same ↦
          let is = same_pair pair other same in
          let rest : without_pair pair (other ∷ pairs) ≡ pairs =
          lost_first (differs pair) other pairs same
          ∙ kept_all (differs pair) pairs
          (all_weaker (λ one. comes_before other one ≡ true) (λ one. differs pair one ≡ true)
          (λ one before. behind_differs pair one (subst (λ (first : ℕ × ℕ). comes_before first one ≡ true) is before)) pairs rising.0) in
          inl ((0, omega arith, is), rw rest (omega arith))
    ]

pub one_less : (pair : ℕ × ℕ) (pairs : List (ℕ × ℕ)) → IsRising pairs → Contains pairs pair
    → length (without_pair pair pairs) + 1 ≡ length pairs
one_less pair pairs rising contained =
    elim (are_left pair pairs rising) [ inl there ↦ there.1 | inr absent ↦ absurd (absent.0 contained) ]

pub none_less : (pair : ℕ × ℕ) (pairs : List (ℕ × ℕ)) → IsRising pairs → (Contains pairs pair → ⊥)
    → length (without_pair pair pairs) ≡ length pairs
none_less pair pairs rising absent =
    elim (are_left pair pairs rising) [ inl there ↦ absurd (absent there.0) | inr left ↦ left.1 ]

-- so many steps as there are levels are few
pub few_steps : (root : Shape) (before after : ℕ) → IsFull root → after ≤ before + root.height
    → AreFew (length root.pairs) before after
few_steps root before after full steps depth is = omega (arith, within_depth root depth full is, steps)

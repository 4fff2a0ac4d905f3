-- Rising lists: their parts, and around a pair in their middle.
use Rattle.std.proofs.Common.{◌≡◌, ℕ, Bool, true, false, cond, List, [], ◌∷◌, ◌++◌, sym, subst, append_assoc, arith}
use Rattle.std.specs.Prelude.{filter}
use Rattle.std.specs.List.{AllByRecursion}
use Rattle.std.proofs.lemmas.Bool.Decides.{nat_tests}
use Rattle.fk_json.specs.PairOrder.{comes_before}
use Rattle.fk_tree.specs.Order.{IsRising}
use Rattle.fk_tree.proofs.Kept.{all_front, all_back, all_join, all_weaker, all_filter}

-- ---- two and three pairs

pub not_behind : (one other : ℕ × ℕ) → comes_before one other ≡ true → comes_before other one ≡ false
not_behind one other before = grind (arith, nat_tests, before)

pub further : (one middle other : ℕ × ℕ)
    → comes_before one middle ≡ true → comes_before middle other ≡ true → comes_before one other ≡ true
further one middle other first second = grind (arith, nat_tests, first, second)

-- ---- parts

pub rising_front : (front back : List (ℕ × ℕ)) → IsRising (front ++ back) → IsRising front
rising_front [] back rising = tt
rising_front (pair ∷ front) back rising =
    (all_front (λ other. comes_before pair other ≡ true) front back rising.0, rising_front front back rising.1)

pub rising_back : (front back : List (ℕ × ℕ)) → IsRising (front ++ back) → IsRising back
rising_back [] back rising = rising
rising_back (pair ∷ front) back rising = rising_back front back rising.1

pub all_ahead : (left : List (ℕ × ℕ)) (pair : ℕ × ℕ) (right : List (ℕ × ℕ))
    → IsRising (left ++ pair ∷ right) → AllByRecursion (λ other. comes_before other pair ≡ true) left
all_ahead [] pair right rising = tt
all_ahead (first ∷ left) pair right rising =
    ((all_back (λ other. comes_before first other ≡ true) left (pair ∷ right) rising.0).0, all_ahead left pair right rising.1)

pub all_behind : (left : List (ℕ × ℕ)) (pair : ℕ × ℕ) (right : List (ℕ × ℕ))
    → IsRising (left ++ pair ∷ right) → AllByRecursion (λ other. comes_before pair other ≡ true) right
all_behind left pair right rising = (rising_back left (pair ∷ right) rising).0

-- ---- without some pairs

rising_if : (pair : ℕ × ℕ) (pairs : List (ℕ × ℕ)) (keep : Bool)
    → AllByRecursion (λ other. comes_before pair other ≡ true) pairs → IsRising pairs
    → IsRising (cond keep (pair ∷ pairs) pairs)
rising_if pair pairs true each rising = (each, rising)
rising_if pair pairs false each rising = rising

pub rising_filter : (test : ℕ × ℕ → Bool) (pairs : List (ℕ × ℕ)) → IsRising pairs → IsRising (filter test pairs)
rising_filter test [] rising = tt
rising_filter test (pair ∷ pairs) rising =
    rising_if pair (filter test pairs) (test pair)
    (all_filter (λ other. comes_before pair other ≡ true) test pairs rising.0) (rising_filter test pairs rising.1)

pub rising_join : (front back : List (ℕ × ℕ)) (pair : ℕ × ℕ) → IsRising front → IsRising back
    → AllByRecursion (λ other. comes_before other pair ≡ true) front
    → AllByRecursion (λ other. comes_before pair other ≡ true) back
    → IsRising (front ++ pair ∷ back)
rising_join [] back pair ahead behind before after = (after, behind)
rising_join (first ∷ front) back pair ahead behind before after = (
  all_join (λ other. comes_before first other ≡ true) front (pair ∷ back) ahead.0 (
    before.0,
    all_weaker (λ other. comes_before pair other ≡ true) (λ other. comes_before first other ≡ true)
        (λ other. further first pair other before.0) back after,
  ),
  rising_join front back pair ahead.1 behind before.1 after,
)

-- a pair in the middle taken out
pub rising_less : (left : List (ℕ × ℕ)) (pair : ℕ × ℕ) (right : List (ℕ × ℕ))
    → IsRising (left ++ pair ∷ right) → IsRising (left ++ right)
rising_less [] pair right rising = rising.1
rising_less (first ∷ left) pair right rising = (
  all_join (λ other. comes_before first other ≡ true) left right
      (all_front (λ other. comes_before first other ≡ true) left (pair ∷ right) rising.0)
      (all_back (λ other. comes_before first other ≡ true) left (pair ∷ right) rising.0).1,
  rising_less left pair right rising.1,
)

-- ---- around a turn

pub regrouped : (first : List (ℕ × ℕ)) (pair : ℕ × ℕ) (second : List (ℕ × ℕ)) (other : ℕ × ℕ) (third : List (ℕ × ℕ))
    → (first ++ pair ∷ second) ++ other ∷ third ≡ first ++ pair ∷ (second ++ other ∷ third)
regrouped first pair second other third = append_assoc first (pair ∷ second) (other ∷ third)

pub inner_right : (first : List (ℕ × ℕ)) (pair : ℕ × ℕ) (second : List (ℕ × ℕ)) (other : ℕ × ℕ) (third : List (ℕ × ℕ))
    → IsRising ((first ++ pair ∷ second) ++ other ∷ third) → IsRising (second ++ other ∷ third)
inner_right first pair second other third rising =
    (rising_back first (pair ∷ (second ++ other ∷ third))
    (subst IsRising (regrouped first pair second other third) rising)).1

pub inner_left : (first : List (ℕ × ℕ)) (pair : ℕ × ℕ) (second : List (ℕ × ℕ)) (other : ℕ × ℕ) (third : List (ℕ × ℕ))
    → IsRising (first ++ pair ∷ (second ++ other ∷ third)) → IsRising (first ++ pair ∷ second)
inner_left first pair second other third rising =
    rising_front (first ++ pair ∷ second) (other ∷ third)
    (subst IsRising (sym (regrouped first pair second other third)) rising)

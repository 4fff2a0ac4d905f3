-- A lease put where its ticket would stand, and one taken where it stands.
use Rattle.std.proofs.Common.{◌≡◌, ◌≢◌, ◌==◌, ◌&&◌, ℕ, zero, suc, ◌<◌, Bool, true, false, not, List, []}
use Rattle.std.proofs.Common.{◌∷◌, ◌++◌, Some, option_map, filter, take, drop, slice_get, refl, sym, ap}
use Rattle.std.proofs.Common.{append-nil, ◌∙◌, arith}
use Rattle.std.specs.List.{AllByRecursion, insert}
use Rattle.std.proofs.lemmas.List.{take-append-drop}
use Rattle.std.proofs.lemmas.List.Elements.{recursion_from_All, filter-append}
use Rattle.std.proofs.lemmas.Bool.Decides.{nat_tests}
use Rattle.fk_json.specs.PairOrder.{comes_before, with_pair}
use Rattle.fk_model.specs.Orders.{number_in}
use Rattle.fk_lists.specs.Places.{IsGap, IsPlace}
use Rattle.fk_lists.proofs.Apart.{weaker}
use Rattle.fk_lists.proofs.Rising.{AreAbove, AreBelow}
use Rattle.fk_leases.specs.Leases.{leased_ticket, until_in, IsAbsent}

-- ---- what a filter keeps

pub kept_all : (test : ℕ × ℕ → Bool) (pairs : List (ℕ × ℕ))
    → AllByRecursion (λ pair. test pair ≡ true) pairs → filter test pairs ≡ pairs
kept_all test [] all = refl
kept_all test (pair ∷ pairs) all = rw (all.0, kept_all test pairs all.1) refl

pub kept_none : (test : ℕ × ℕ → Bool) (pairs : List (ℕ × ℕ))
    → AllByRecursion (λ pair. test pair ≡ false) pairs → filter test pairs ≡ []
kept_none test [] all = refl
kept_none test (pair ∷ pairs) all = rw (all.0) (kept_none test pairs all.1)

-- ---- a lease put

before_it : (pair other : ℕ × ℕ) → number_in other < number_in pair → comes_before other pair ≡ true
before_it pair other less = grind (arith, nat_tests, less)

behind_it : (pair other : ℕ × ℕ) → number_in pair < number_in other → comes_before other pair ≡ false
behind_it pair other less = grind (arith, nat_tests, less)

not_before : (pair other : ℕ × ℕ) → number_in other < number_in pair → not (comes_before other pair) ≡ false
not_before pair other less = ap not (before_it pair other less)

not_behind : (pair other : ℕ × ℕ) → number_in pair < number_in other → not (comes_before other pair) ≡ true
not_behind pair other less = ap not (behind_it pair other less)

put_between : (pair : ℕ × ℕ) (front back : List (ℕ × ℕ)) → AreBelow (number_in pair) front
    → AreAbove (number_in pair) back → with_pair pair (front ++ back) ≡ front ++ pair ∷ back
put_between pair front back below above =
    let before = λ (other : ℕ × ℕ). comes_before other pair in
    let behind = λ (other : ℕ × ℕ). not (comes_before other pair) in
    rw (
      filter-append before front back,
      filter-append behind front back,
      kept_all before front (weaker _ _ (before_it pair) front below),
      kept_none before back (weaker _ _ (behind_it pair) back above),
      kept_none behind front (weaker _ _ (not_before pair) front below),
      kept_all behind back (weaker _ _ (not_behind pair) back above),
      append-nil,
    ) refl

-- a lease put into the gap
pub put_at_gap : (pair : ℕ × ℕ) (pairs : List (ℕ × ℕ)) (at : ℕ)
    → IsGap pairs (number_in pair) at → insert pairs at pair ≡ with_pair pair pairs
put_at_gap pair pairs at gap =
    let parts : take at pairs ++ drop at pairs ≡ pairs = take-append-drop at pairs in
    let between = put_between pair (take at pairs) (drop at pairs)
    (recursion_from_All _ (take at pairs) gap.below) (recursion_from_All _ (drop at pairs) gap.above) in
    sym between ∙ ap (with_pair pair) parts

-- ---- where a ticket stands

stands : (pairs : List (ℕ × ℕ)) (ticket at : ℕ) → AllByRecursion (λ pair. leased_ticket pair ≢ ticket) pairs
    → option_map number_in (slice_get pairs at) ≡ Some ticket → ⊥
stands [] ticket zero absent place = absurd (cc place)
stands [] ticket (suc at) absent place = absurd (cc place)
stands (pair ∷ pairs) ticket zero absent place = absent.0 (cc place)
stands (pair ∷ pairs) ticket (suc at) absent place = stands pairs ticket at absent.1 place

-- an absent ticket stands nowhere
pub stands_nowhere : (pairs : List (ℕ × ℕ)) (ticket at : ℕ) → IsAbsent ticket pairs → IsPlace pairs ticket at → ⊥
stands_nowhere pairs ticket at absent place = stands pairs ticket at (recursion_from_All _ pairs absent) place

-- ---- a lease taken

pub other_ticket : (ticket until : ℕ) (pair : ℕ × ℕ) → leased_ticket pair ≢ ticket
    → not ((leased_ticket pair == ticket) && (until_in pair == until)) ≡ true
other_ticket ticket until pair differ = grind (arith, nat_tests, differ)

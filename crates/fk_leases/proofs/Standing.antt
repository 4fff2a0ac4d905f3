-- Where a ticket stands among leases in order of ticket, there and nowhere else stands its lease.
use Rattle.std.proofs.Common.{◌≡◌, ◌≢◌, ◌↔◌, ◌==◌, ◌&&◌, ◌∙◌, ℕ, zero, suc, ◌<◌, true, false, not, List, [], ◌∷◌}
use Rattle.std.proofs.Common.{Some, option_map, map, slice_get, refl, sym, ap, arith}
use Rattle.std.specs.Prelude.{All, Contains, IsTrue}
use Rattle.std.specs.List.{AllByRecursion, remove}
use Rattle.std.specs.List.Sorted.{IsStrictlyIncreasing}
use Rattle.std.proofs.lemmas.Bool.Decides.{nat_tests}
use Rattle.std.proofs.lemmas.List.Elements.{recursion_from_All, All-contains}
use Rattle.fk_model.specs.Orders.{number_in}
use Rattle.fk_lists.specs.Places.{IsPlace}
use Rattle.fk_lists.proofs.Apart.{above_at, weaker}
use Rattle.fk_lists.proofs.Rising.{AreAbove, AreRising, rising_from}
use Rattle.fk_leases.specs.Leases.{leased_ticket, until_in, without_lease}
use Rattle.fk_leases.proofs.Leasing.{kept_all, other_ticket}

-- the lease at a place runs until this moment
abbrev RunsUntil : List (ℕ × ℕ) → ℕ → ℕ → Type 0
RunsUntil pairs at until = option_map until_in (slice_get pairs at) ≡ Some until

-- ---- whether the lease is there

lease_is : (pair : ℕ × ℕ) (ticket until : ℕ) → pair.0 ≡ ticket → pair.1 ≡ until → pair ≡ (ticket, until)
lease_is (number, moment) ticket until one other = cc (one, other)

held_at_place : (pairs : List (ℕ × ℕ)) (ticket until at : ℕ)
    → IsPlace pairs ticket at → RunsUntil pairs at until → Contains pairs (ticket, until)
held_at_place [] ticket until zero place runs = absurd (cc place)
held_at_place [] ticket until (suc at) place runs = absurd (cc place)
held_at_place (pair ∷ pairs) ticket until zero place runs =
    (0, omega arith, lease_is pair ticket until (cc place) (cc runs))
held_at_place (pair ∷ pairs) ticket until (suc at) place runs =
    let held = held_at_place pairs ticket until at place runs in
    (suc held.0, omega (arith, held.1), held.2)

-- it was taken
pub taken_found : (pairs : List (ℕ × ℕ)) (ticket until at : ℕ) → slice_get pairs at ≡ Some (ticket, until)
    → IsTrue true ↔ Contains pairs (ticket, until)
taken_found pairs ticket until at stands = (
  λ found. held_at_place pairs ticket until at (ap (option_map number_in) stands) (ap (option_map until_in) stands),
  λ held. refl,
)

-- it isn't there
pub absent_found : (pairs : List (ℕ × ℕ)) (ticket until : ℕ) → All (λ lease. lease ≢ (ticket, until)) pairs
    → IsTrue false ↔ Contains pairs (ticket, until)
absent_found pairs ticket until absent = (
  λ wrong. absurd (cc wrong),
  λ held. absurd (All-contains (λ lease. lease ≢ (ticket, until)) pairs (ticket, until) absent held refl),
)

-- ---- what is left

rest_differs : (number ticket : ℕ) (pairs : List (ℕ × ℕ)) → number ≡ ticket → AreAbove number pairs
    → AllByRecursion (λ pair. leased_ticket pair ≢ ticket) pairs
rest_differs number ticket pairs same above =
    weaker _ _ (λ pair more equal. omega (arith, more, equal, same)) pairs above

rest_stays : (pair : ℕ × ℕ) (pairs : List (ℕ × ℕ)) (ticket until : ℕ) → number_in pair ≡ ticket
    → AreAbove (number_in pair) pairs → without_lease ticket until pairs ≡ pairs
rest_stays pair pairs ticket until same above =
    kept_all _ pairs
    (weaker _ _ (other_ticket ticket until) pairs (rest_differs (number_in pair) ticket pairs same above))

first_goes : (ticket until : ℕ) (pair : ℕ × ℕ) → number_in pair ≡ ticket → until_in pair ≡ until
    → not ((leased_ticket pair == ticket) && (until_in pair == until)) ≡ false
first_goes ticket until pair one other = grind (arith, nat_tests, one, other)

other_lease : (ticket until : ℕ) (pair : ℕ × ℕ) → pair ≢ (ticket, until)
    → not ((leased_ticket pair == ticket) && (until_in pair == until)) ≡ true
other_lease ticket until pair differ =
    let apart = λ (one : leased_ticket pair ≡ ticket) (other : until_in pair ≡ until).
    differ (lease_is pair ticket until one other) in
    grind (arith, nat_tests, apart)

taken_at : (pairs : List (ℕ × ℕ)) (ticket until at : ℕ) → AreRising pairs → IsPlace pairs ticket at
    → RunsUntil pairs at until → without_lease ticket until pairs ≡ remove pairs at
taken_at [] ticket until zero rising place runs = absurd (cc place)
taken_at [] ticket until (suc at) rising place runs = absurd (cc place)
taken_at (pair ∷ pairs) ticket until zero rising place runs =
    rw (first_goes ticket until pair (cc place) (cc runs)) (rest_stays pair pairs ticket until (cc place) rising.0)
taken_at (pair ∷ pairs) ticket until (suc at) rising place runs =
    let less : number_in pair < ticket = above_at (number_in pair) ticket pairs at rising.0 place in
    rw (
      other_ticket ticket until pair (λ same. omega (arith, less, same)),
      taken_at pairs ticket until at rising.1 place runs,
    ) refl

-- it was taken
pub taken_left : (pairs after : List (ℕ × ℕ)) (ticket until at : ℕ) → IsStrictlyIncreasing (map leased_ticket pairs)
    → slice_get pairs at ≡ Some (ticket, until) → after ≡ remove pairs at → after ≡ without_lease ticket until pairs
taken_left pairs after ticket until at increasing stands taken =
    taken
    ∙ sym (taken_at pairs ticket until at (rising_from pairs increasing) (ap (option_map number_in) stands)
    (ap (option_map until_in) stands))

-- it isn't there
pub absent_left : (pairs after : List (ℕ × ℕ)) (ticket until : ℕ) → All (λ lease. lease ≢ (ticket, until)) pairs
    → after ≡ pairs → after ≡ without_lease ticket until pairs
absent_left pairs after ticket until absent same =
    same
    ∙ sym (kept_all _ pairs (weaker _ _ (other_lease ticket until) pairs (recursion_from_All _ pairs absent)))

-- What is left of a list from a place on, item by item.
use Rattle.std.proofs.Common.{◌≡◌, ◌∙◌, ap, refl, ℕ, zero, suc, ◌+◌, ◌<◌, ◌≤◌, List, [], ◌∷◌, ◌++◌, drop, length, Bool, true, false, not, append_assoc, arith}
use Rattle.std.specs.Prelude.{AllPairs, if◌then◌else◌, IfSome, Option, None, Some, option_and_then, option_to_list, slice_get, filter_map, nat_lt, slice_index_or}
use Rattle.std.proofs.Math.ListN.{drop_of_length-le}
use Rattle.std.proofs.lemmas.Bool.Decides.{nat_tests}
use Rattle.std.proofs.lemmas.List.Elements.{All-weaker}
use Rattle.std.proofs.lemmas.List.Kept.{AllPairs-filter}
use Rattle.std.proofs.lemmas.List.Sums.{sum_by-append}
use Rattle.fk_time.specs.Moments.{greatest}
use Rattle.fk_model.specs.declared.row.Row.{Row}
use Rattle.fk_model.specs.declared.place.Place.{Place}
use Rattle.fk_model.specs.declared.place.Place.TheVariants.{Scheduled, Retry, Dead}
use Rattle.fk_model.specs.declared.move_.Move.{Move}
use Rattle.fk_model.specs.declared.mutation.Target.{Target}
use Rattle.fk_model.specs.declared.mutation.Target.TheVariants as target
use Rattle.fk_model.specs.Rows.{row_of}
use Rattle.fk_model.specs.State.{KeptState}
use Rattle.fk_model.specs.Spellings.{HasPlaceSpelling}
use Rattle.fk_model.specs.Orders.{number_in, in_order, moment_in, timed, with_ticket}
use Rattle.fk_model.specs.Between.{IsWellKept}
use Rattle.fk_model.specs.Due.{up_to}
use Rattle.fk_model.proofs.Sieves.{filter_all}
use Rattle.fk_model.proofs.Ends.{numbers_hold}
use Rattle.fk_model.proofs.Sorting.{IsAhead, are_in_order, are_the_same}
use Rattle.fk_model.proofs.SamePairs.{same_sorted}
use Rattle.fk_plan.specs.Choosing.{beyond, entry_in, fresh}
use Rattle.fk_plan.proofs.NextPair.{place_split}

-- ---- what a list gives from a place on

pub past_length : {X : Type 0} (xs : List X) (at : ℕ) → slice_get xs at ≡ None → length xs ≤ at
past_length [] at none = omega arith
past_length (x ∷ xs) zero none = absurd (cc)
past_length (x ∷ xs) (suc at) none = let rest = past_length xs at none in omega (arith, rest)

past_end : {X : Type 0} (xs : List X) (at : ℕ) → slice_get xs at ≡ None
    → (drop at xs ≡ []) × (drop (at + 1) xs ≡ [])
past_end xs at none =
    let past = past_length xs at none in
    (drop_of_length-le xs past, drop_of_length-le xs (omega (arith, past)))

given_first : {X Y : Type 0} (f : X → Option Y) (x : X) (xs : List X) (given : Option Y) → f x ≡ given
    → filter_map f (x ∷ xs) ≡ option_to_list given ++ filter_map f xs
given_first f x xs None e = rw e refl
given_first f x xs (Some y) e = rw e refl

-- what the item at a place gives comes first
pub given_from : {X Y : Type 0} (f : X → Option Y) (xs : List X) (at : ℕ) (found : Option X)
    → slice_get xs at ≡ found
    → filter_map f (drop at xs) ≡ option_to_list (option_and_then f found) ++ filter_map f (drop (at + 1) xs)
given_from f xs at None here = let past = past_end xs at here in rw (past.0, past.1) refl
given_from f xs at (Some x) here =
    ap (filter_map f) (place_split xs at x here) ∙ given_first f x (drop (at + 1) xs) (f x) refl

-- ---- the pairs that moves put into a set

-- a move puts one there
pub entered : (chosen : Target) (moves : List Move) (at : ℕ) (pair : ℕ × ℕ) (done new : List (ℕ × ℕ))
    → Some pair ≡ option_and_then (entry_in chosen) (slice_get moves at) → new ≡ done ++ pair ∷ []
    → new ++ fresh chosen (drop (at + 1) moves) ≡ done ++ fresh chosen (drop at moves)
entered chosen moves at pair done new is added =
    rw (added, given_from (entry_in chosen) moves at (slice_get moves at) refl, ← is)
    (append_assoc done (pair ∷ []) (fresh chosen (drop (at + 1) moves)))

-- it puts none there
pub not_entered : (chosen : Target) (moves : List Move) (at : ℕ) (done : List (ℕ × ℕ))
    → None ≡ option_and_then (entry_in chosen) (slice_get moves at)
    → done ++ fresh chosen (drop (at + 1) moves) ≡ done ++ fresh chosen (drop at moves)
not_entered chosen moves at done none =
    rw (given_from (entry_in chosen) moves at (slice_get moves at) refl, ← none) refl

-- ---- the pairs that are still to come

pub passes : (moment at : ℕ) (pairs done new : List (ℕ × ℕ)) (pair : ℕ × ℕ) → slice_get pairs at ≡ Some pair
    → moment < number_in pair → new ≡ done ++ pair ∷ []
    → new ++ beyond moment (drop (at + 1) pairs) ≡ done ++ beyond moment (drop at pairs)
passes moment at pairs done new pair here later added =
    let test : nat_lt moment (number_in pair) ≡ true = grind (arith, nat_tests, later) in
    rw (added, place_split pairs at pair here, test)
    (append_assoc done (pair ∷ []) (beyond moment (drop (at + 1) pairs)))

pub stays_out : (moment at : ℕ) (pairs done : List (ℕ × ℕ)) (pair : ℕ × ℕ) → slice_get pairs at ≡ Some pair
    → number_in pair ≤ moment
    → done ++ beyond moment (drop (at + 1) pairs) ≡ done ++ beyond moment (drop at pairs)
stays_out moment at pairs done pair here come =
    let test : nat_lt moment (number_in pair) ≡ false = grind (arith, nat_tests, come) in
    rw (place_split pairs at pair here, test) refl

-- ---- all of a set

place_within : (chosen : Target) (place : Place) → HasPlaceSpelling place
    → IfSome (moment_in chosen place) (λ at. at ≤ greatest)
place_within target.Scheduled (Scheduled at) spelled = spelled
place_within target.Retries (Retry at) spelled = spelled
place_within target.Dead (Dead until) spelled = spelled
place_within chosen elsewhere spelled = tt

-- each moment of a set has come at the greatest one
pub all_come : (chosen : Target) (kept : KeptState) → IsWellKept kept
    → up_to greatest (timed chosen kept.rows) ≡ timed chosen kept.rows
all_come chosen kept well =
    filter_all (λ pair. not (nat_lt greatest (number_in pair))) (timed chosen kept.rows)
    (All-weaker (λ pair. number_in pair ≤ greatest) (λ pair. not (nat_lt greatest (number_in pair)) ≡ true)
    (λ pair within. has_come (number_in pair) within) (timed chosen kept.rows)
    (numbers_hold (λ at. at ≤ greatest) (λ row. moment_in chosen row.place) kept.rows
    (λ k d within. place_within chosen (row_of (slice_index_or kept.rows k d)).place
    (well.spelled k d within).1.rest.stands)))
  where
    has_come : (at : ℕ) → at ≤ greatest → not (nat_lt greatest at) ≡ true
    has_come at within = grind (arith, nat_tests, within)

-- ---- in order

-- those that are still to come are in order
pub beyond_in_order : (moment : ℕ) (chosen : Target) (rows : List (ℕ × Row))
    → AllPairs IsAhead (beyond moment (timed chosen rows))
beyond_in_order moment chosen rows =
    AllPairs-filter IsAhead (λ pair. nat_lt moment (number_in pair)) (timed chosen rows)
    (are_in_order (filter_map (with_ticket (λ row. moment_in chosen row.place)) rows))

abbrev one_for : (ℕ × ℕ → Bool) → ℕ × ℕ → ℕ
one_for test pair = if test pair then 1 else 0

-- what is sorted may be sorted before
pub sorted_before : (xs ys : List (ℕ × ℕ)) → in_order (xs ++ in_order ys) ≡ in_order (xs ++ ys)
sorted_before xs ys =
    same_sorted (xs ++ in_order ys) (xs ++ ys)
    (λ test.
    let back = are_the_same test ys in
    let parts = sum_by-append (one_for test) xs (in_order ys) in
    let whole = sum_by-append (one_for test) xs ys in
    omega (arith, back, parts, whole))

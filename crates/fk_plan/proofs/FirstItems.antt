-- How many of a list's first items pass a test, as one more is looked at.
use Rattle.std.proofs.Common.{◌≡◌, refl, ℕ, zero, suc, ◌+◌, List, [], ◌∷◌, Bool, false, filter, take, length, add-one, arith}
use Rattle.std.specs.Prelude.{count_by, slice_get}
use Rattle.std.specs.Option.{option_map_or}
use Rattle.std.proofs.lemmas.List.Sums.{length-filter}
use Rattle.fk_model.proofs.Counted.{one_if}
use Rattle.fk_core.proofs.Whereabouts.{count_first}

first_items : {X : Type 0} (test : X → Bool) (xs : List X) (at : ℕ) (passes : Bool)
    → passes ≡ option_map_or test (slice_get xs at) false
    → length (filter test (take (suc at) xs)) ≡ one_if passes + length (filter test (take at xs))
first_items test [] zero passes is = rw is (omega arith)
first_items test [] (suc at) passes is = rw is (omega arith)
first_items test (x ∷ xs) zero passes is =
    let first = count_first test x [] (test x) refl in rw is (omega (arith, first))
first_items test (x ∷ xs) (suc at) passes is =
    let rest = first_items test xs at passes is in
    let one = count_first test x (take (suc at) xs) (test x) refl in
    let other = count_first test x (take at xs) (test x) refl in
    omega (arith, rest, one, other)

pub one_counted : {X : Type 0} (test : X → Bool) (xs : List X) (at : ℕ) (passes : Bool)
    → passes ≡ option_map_or test (slice_get xs at) false
    → count_by test (take (at + 1) xs) ≡ one_if passes + count_by test (take at xs)
one_counted test xs at passes is =
    let more = length-filter test (take (suc at) xs) in
    let some = length-filter test (take at xs) in
    let step = first_items test xs at passes is in
    rw add-one (omega (arith, more, some, step))

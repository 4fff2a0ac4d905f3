-- Each row stands in one place: it waits in its queue, stands in one of the sets by moment, or is with a worker.
use Rattle.std.proofs.Common.{◌≡◌, ◌∙◌, sym, ap, refl, ℕ, ◌+◌, List, [], ◌∷◌, Bool, true, false, filter, length, arith}
use Rattle.std.specs.Prelude.{Option, None, Some, option_map, is_some, filter_map, count_by}
use Rattle.std.proofs.lemmas.List.Sums.{length-filter}
use Rattle.fk_model.specs.declared.row.Row.{Row}
use Rattle.fk_model.specs.declared.place.Place.{Place}
use Rattle.fk_model.specs.declared.place.Place.TheVariants.{Queued, Scheduled, Retry, Dead, Working}
use Rattle.fk_model.specs.declared.mutation.Target.{Target}
use Rattle.fk_model.specs.declared.mutation.Target.TheVariants as target
use Rattle.fk_model.specs.Rows.{row_of}
use Rattle.fk_model.specs.Orders.{in_order, is_queued, is_working, moment_in, timed, with_ticket, working}
use Rattle.fk_model.specs.Info.{waiting}
use Rattle.fk_model.proofs.Counted.{one_if}
use Rattle.fk_model.proofs.Sorting.{are_the_same}
use Rattle.fk_core.specs.Sets.{stands_at}

pub count_first : {X : Type 0} (test : X → Bool) (x : X) (xs : List X) (passes : Bool) → test x ≡ passes
    → length (filter test (x ∷ xs)) ≡ one_if passes + length (filter test xs)
count_first test x xs true e = rw e (omega arith)
count_first test x xs false e = rw e (omega arith)

-- ---- the rows of a set

all_pass : {X : Type 0} (xs : List X) → length (filter (λ x. true) xs) ≡ length xs
all_pass [] = refl
all_pass (x ∷ xs) = let rest = all_pass xs in omega (arith, rest)

pub length_in_order : (pairs : List (ℕ × ℕ)) → length (in_order pairs) ≡ length pairs
length_in_order pairs =
    let one = length-filter (λ (pair : ℕ × ℕ). true) (in_order pairs) in
    let other = length-filter (λ (pair : ℕ × ℕ). true) pairs in
    let same = are_the_same (λ (pair : ℕ × ℕ). true) pairs in
    let whole = all_pass (in_order pairs) in
    let all = all_pass pairs in
    omega (arith, one, other, same, whole, all)

given_step : (number : Place → Option ℕ) (filed : ℕ × Row) (rows : List (ℕ × Row)) (given : Option ℕ)
    → number (row_of filed).place ≡ given
    → length (filter_map (with_ticket (λ row. number row.place)) rows)
    ≡ length (filter (λ x. is_some (number (row_of x).place)) rows)
    → length (filter_map (with_ticket (λ row. number row.place)) (filed ∷ rows))
    ≡ length (filter (λ x. is_some (number (row_of x).place)) (filed ∷ rows))
given_step number filed rows None e rest = rw e rest
given_step number filed rows (Some n) e rest = rw e (omega (arith, rest))

-- the rows that have a number
pub given_count : (number : Place → Option ℕ) (rows : List (ℕ × Row))
    → length (filter_map (with_ticket (λ row. number row.place)) rows)
    ≡ length (filter (λ filed. is_some (number (row_of filed).place)) rows)
given_count number [] = refl
given_count number (filed ∷ rows) =
    given_step number filed rows (number (row_of filed).place) refl (given_count number rows)

abbrev pub rows_in : Target → List (ℕ × Row) → List (ℕ × Row)
rows_in target rows = filter (λ filed. stands_at target (row_of filed).place) rows

pub timed_count : (target : Target) (rows : List (ℕ × Row)) → length (timed target rows) ≡ length (rows_in target rows)
timed_count target rows =
    length_in_order (filter_map (with_ticket (λ row. moment_in target row.place)) rows)
    ∙ given_count (moment_in target) rows

-- ---- all of them

-- in how many places a row stands
abbrev places : Place → ℕ
places place =
    one_if (is_queued place) + one_if (is_working place) + one_if (stands_at target.Scheduled place)
    + one_if (stands_at target.Retries place) + one_if (stands_at target.Dead place)

one_place : (place : Place) → places place ≡ 1
one_place (Queued rank) = refl
one_place (Scheduled at) = refl
one_place (Retry at) = refl
one_place (Dead until) = refl
one_place (Working wid since until) = refl

all_placed : (rows : List (ℕ × Row))
    → length (waiting rows) + length (working rows) + length (rows_in target.Scheduled rows)
    + length (rows_in target.Retries rows) + length (rows_in target.Dead rows) ≡ length rows
all_placed [] = refl
all_placed (filed ∷ rows) =
    let rest = all_placed rows in
    let one = one_place (row_of filed).place in
    let a = count_first (λ x. is_queued (row_of x).place) filed rows (is_queued (row_of filed).place) refl in
    let b = count_first (λ x. is_working (row_of x).place) filed rows (is_working (row_of filed).place) refl in
    let c = count_first (λ x. stands_at target.Scheduled (row_of x).place) filed rows
    (stands_at target.Scheduled (row_of filed).place) refl in
    let d = count_first (λ x. stands_at target.Retries (row_of x).place) filed rows
    (stands_at target.Retries (row_of filed).place) refl in
    let e = count_first (λ x. stands_at target.Dead (row_of x).place) filed rows
    (stands_at target.Dead (row_of filed).place) refl in
    omega (arith, rest, one, a, b, c, d, e)

pub each_in_one : (rows : List (ℕ × Row))
    → length (waiting rows) + length (working rows) + length (timed target.Scheduled rows)
    + length (timed target.Retries rows) + length (timed target.Dead rows) ≡ length rows
each_in_one rows =
    rw (timed_count target.Scheduled rows, timed_count target.Retries rows, timed_count target.Dead rows)
    (all_placed rows)

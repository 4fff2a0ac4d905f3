-- The rows that are put into their queues are those of two sets by moment, both together in order.
use Rattle.std.proofs.Common.{◌≡◌, ◌∙◌, sym, ap, refl, ℕ, ◌+◌, List, [], ◌∷◌, ◌++◌, filter, not, arith}
use Rattle.std.specs.Prelude.{AllPairs, Bool, Option, None, Some, if◌then◌else◌, count_by, nat_lt, filter_map}
use Rattle.std.proofs.lemmas.List.Elements.{filter-append}
use Rattle.std.proofs.lemmas.List.Sums.{sum_by-append, sum_by-cons}
use Rattle.std.proofs.lemmas.List.Kept.{AllPairs-filter}
use Rattle.fk_model.specs.declared.row.Row.{Row}
use Rattle.fk_model.specs.declared.place.Place.{Place}
use Rattle.fk_model.specs.declared.place.Place.TheVariants.{Queued, Scheduled, Retry, Dead, Working}
use Rattle.fk_model.specs.declared.mutation.Target.{Target}
use Rattle.fk_model.specs.declared.mutation.Target.TheVariants as target
use Rattle.fk_model.specs.Rows.{ticket_of, row_of}
use Rattle.fk_model.specs.State.{KeptState}
use Rattle.fk_model.specs.Orders.{number_in, in_order, moment_in, with_ticket, timed}
use Rattle.fk_model.specs.Due.{up_to, waits_until}
use Rattle.fk_model.proofs.Sorting.{IsAhead, are_in_order, are_the_same}
use Rattle.fk_model.proofs.SamePairs.{same_sorted}
use Rattle.fk_model.proofs.Ordered.{filter_sorted}
use Rattle.fk_plan.specs.Upkeep.{pairs_due}

-- a list of what has come is in order
pub up_to_in_order : (moment : ℕ) (chosen : Target) (rows : List (ℕ × Row))
    → AllPairs IsAhead (up_to moment (timed chosen rows))
up_to_in_order moment chosen rows =
    AllPairs-filter IsAhead (λ pair. not (nat_lt moment (number_in pair))) (timed chosen rows)
    (are_in_order (filter_map (with_ticket (λ row. moment_in chosen row.place)) rows))

-- ---- the same pairs

-- one for each that passes
abbrev one_for : (ℕ × ℕ → Bool) → ℕ × ℕ → ℕ
one_for test pair = if test pair then 1 else 0

-- how many pass of none or one
abbrev of_given : (ℕ × ℕ → Bool) → ℕ → Option ℕ → ℕ
of_given test ticket None = 0
of_given test ticket (Some at) = one_for test (at, ticket)

-- the pairs of rows by a number
abbrev pairs_by : (Row → Option ℕ) → List (ℕ × Row) → List (ℕ × ℕ)
pairs_by number rows = filter_map (with_ticket number) rows

count_step : (test : ℕ × ℕ → Bool) (number : Row → Option ℕ) (filed : ℕ × Row) (rows : List (ℕ × Row))
    (given : Option ℕ) → number (row_of filed) ≡ given
    → count_by test (pairs_by number (filed ∷ rows))
    ≡ of_given test (ticket_of filed) given + count_by test (pairs_by number rows)
count_step test number filed rows None e = rw e (omega arith)
count_step test number filed rows (Some at) e =
    rw e (sum_by-cons (one_for test) (at, ticket_of filed) (pairs_by number rows))

of_place : (test : ℕ × ℕ → Bool) (ticket : ℕ) (place : Place)
    → of_given test ticket (moment_in target.Scheduled place) + of_given test ticket (moment_in target.Retries place)
    ≡ of_given test ticket (waits_until place)
of_place test ticket (Queued rank) = refl
of_place test ticket (Scheduled at) = omega arith
of_place test ticket (Retry at) = omega arith
of_place test ticket (Dead until) = refl
of_place test ticket (Working wid since until) = refl

abbrev scheduled_moment : Row → Option ℕ
scheduled_moment row = moment_in target.Scheduled row.place

abbrev retry_moment : Row → Option ℕ
retry_moment row = moment_in target.Retries row.place

abbrev wait_moment : Row → Option ℕ
wait_moment row = waits_until row.place

count_both : (test : ℕ × ℕ → Bool) (rows : List (ℕ × Row))
    → count_by test (pairs_by scheduled_moment rows) + count_by test (pairs_by retry_moment rows)
    ≡ count_by test (pairs_by wait_moment rows)
count_both test [] = refl
count_both test (filed ∷ rows) =
    let first = count_step test scheduled_moment filed rows (scheduled_moment (row_of filed)) refl in
    let second = count_step test retry_moment filed rows (retry_moment (row_of filed)) refl in
    let whole = count_step test wait_moment filed rows (wait_moment (row_of filed)) refl in
    let here = of_place test (ticket_of filed) (row_of filed).place in
    let rest = count_both test rows in
    omega (arith, first, second, whole, here, rest)

-- ---- in order

-- sorting both sorts is sorting both
sorted_both : (xs ys : List (ℕ × ℕ)) → in_order (in_order xs ++ in_order ys) ≡ in_order (xs ++ ys)
sorted_both xs ys =
    same_sorted (in_order xs ++ in_order ys) (xs ++ ys)
    (λ test.
    let front = are_the_same test xs in
    let back = are_the_same test ys in
    let parts = sum_by-append (one_for test) (in_order xs) (in_order ys) in
    let whole = sum_by-append (one_for test) xs ys in
    omega (arith, front, back, parts, whole))

same_both : (rows : List (ℕ × Row))
    → in_order (pairs_by scheduled_moment rows ++ pairs_by retry_moment rows)
    ≡ in_order (pairs_by wait_moment rows)
same_both rows =
    same_sorted (pairs_by scheduled_moment rows ++ pairs_by retry_moment rows) (pairs_by wait_moment rows)
    (λ test.
    let parts = sum_by-append (one_for test) (pairs_by scheduled_moment rows) (pairs_by retry_moment rows) in
    let whole = count_both test rows in
    omega (arith, parts, whole))

-- what has come of the two sets is what is due, once it is in order
pub both_due : (kept : KeptState) (moment : ℕ)
    → in_order (up_to moment (timed target.Scheduled kept.rows) ++ up_to moment (timed target.Retries kept.rows))
    ≡ pairs_due kept moment
both_due kept moment =
    let test = λ (pair : ℕ × ℕ). not (nat_lt moment (number_in pair)) in
    let one = pairs_by scheduled_moment kept.rows in
    let other = pairs_by retry_moment kept.rows in
    rw (filter_sorted test one, filter_sorted test other)
    (sorted_both (filter test one) (filter test other)
    ∙ ap in_order (sym (filter-append test one other))
    ∙ sym (filter_sorted test (one ++ other))
    ∙ ap (filter test) (same_both kept.rows))

-- ---- how many there are

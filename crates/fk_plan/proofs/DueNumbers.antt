-- The numbers of a kept state that is brought up to a moment, and how many rows are due.
use Rattle.std.proofs.Common.{◌≡◌, ◌∙◌, sym, ap, refl, ℕ, ◌+◌, ◌^◌, ◌<◌, ◌≤◌, min, List, [], ◌∷◌, length, arith}
use Rattle.std.specs.Prelude.{All, AllPairs, Option, None, Some, option_map, option_and_then, filter_map, fold, not, nat_lt}
use Rattle.std.proofs.lemmas.List.Elements.{All-head, All-tail, All-filter, All-weaker}
use Rattle.std.proofs.lemmas.List.Sums.{length-filter, count_by-le-length}
use Rattle.fk_model.specs.declared.row.Row.{Row}
use Rattle.fk_model.specs.Limits.{greatest_count, greatest_next}
use Rattle.fk_model.specs.Rows.{ticket_of, row_of, filed_at}
use Rattle.fk_model.specs.State.{KeptState}
use Rattle.fk_model.specs.Orders.{number_in, ticket_in, in_order, with_ticket}
use Rattle.fk_model.specs.Between.{IsWellKept}
use Rattle.fk_model.specs.Due.{over, expired, due, rows_of, waits_until}
use Rattle.fk_model.specs.Failing.{Reason, expiry, failed}
use Rattle.fk_model.specs.Bringing.{forgotten, enqueued, brought_up}
use Rattle.fk_model.proofs.Cuts.{IsLower, lower_pairs}
use Rattle.fk_model.proofs.Sorting.{head_of_all, tail_of_all, are_the_same}
use Rattle.fk_model.proofs.Standing.{IsNumberOf, each_number}
use Rattle.fk_model.proofs.UpToDate.{up_next}
use Rattle.fk_plan.specs.Upkeep.{pairs_due}

-- ---- how often a job was done or failed

failed_counts : (reason : Reason) (moment word : ℕ) (kept : KeptState) (rows : List (ℕ × Row))
    → kept.processed ≤ greatest_count → kept.failures ≤ greatest_count
    → ((fold (failed reason moment word) kept rows).processed ≡ min (kept.processed + length rows) greatest_count)
    × ((fold (failed reason moment word) kept rows).failures ≡ min (kept.failures + length rows) greatest_count)
failed_counts reason moment word kept [] done failures = (omega (arith, done), omega (arith, failures))
failed_counts reason moment word kept (filed ∷ rows) done failures =
    let rest = failed_counts reason moment word (failed reason moment word kept filed) rows (omega arith) (omega arith) in
    let first = rest.0 in
    let second = rest.1 in
    (first ∙ omega (arith, done), second ∙ omega (arith, failures))

forgotten_counts : (kept : KeptState) (rows : List (ℕ × Row))
    → ((fold forgotten kept rows).processed ≡ kept.processed) × ((fold forgotten kept rows).failures ≡ kept.failures)
forgotten_counts kept [] = (refl, refl)
forgotten_counts kept (filed ∷ rows) = forgotten_counts (forgotten kept filed) rows

enqueued_counts : (moment : ℕ) (kept : KeptState) (rows : List (ℕ × Row))
    → ((fold (enqueued moment) kept rows).processed ≡ kept.processed)
    × ((fold (enqueued moment) kept rows).failures ≡ kept.failures)
enqueued_counts moment kept [] = (refl, refl)
enqueued_counts moment kept (filed ∷ rows) = enqueued_counts moment (enqueued moment kept filed) rows

-- each row whose reservation has run out is counted once
up_counts : (kept : KeptState) (moment word : ℕ) → IsWellKept kept
    → ((brought_up kept moment word).processed
    ≡ min (kept.processed + length (expired kept moment)) greatest_count)
    × ((brought_up kept moment word).failures
    ≡ min (kept.failures + length (expired kept moment)) greatest_count)
up_counts kept moment word well =
    let without = fold forgotten kept (over kept moment) in
    let before = forgotten_counts kept (over kept moment) in
    let behind = enqueued_counts moment (fold (failed expiry moment word) without (expired kept moment)) (due kept moment) in
    let same_done = before.0 in
    let same_failures = before.1 in
    let word_done = well.processed in
    let word_failures = well.failures in
    let fails = failed_counts expiry moment word without (expired kept moment) (omega (arith, same_done, word_done))
    (omega (arith, same_failures, word_failures)) in (
      behind.0 ∙ fails.0 ∙ ap (λ n. min (n + length (expired kept moment)) greatest_count) before.0,
      behind.1 ∙ fails.1 ∙ ap (λ n. min (n + length (expired kept moment)) greatest_count) before.1,
    )

pub up_processed : (kept : KeptState) (moment word : ℕ) → IsWellKept kept
    → min (kept.processed + length (expired kept moment)) greatest_count ≡ (brought_up kept moment word).processed
up_processed kept moment word well = sym (up_counts kept moment word well).0

pub up_failures : (kept : KeptState) (moment word : ℕ) → IsWellKept kept
    → min (kept.failures + length (expired kept moment)) greatest_count ≡ (brought_up kept moment word).failures
up_failures kept moment word well = sym (up_counts kept moment word well).1

-- ---- how many rows are put into their queues

found_step : (number : Row → Option ℕ) (rows : List (ℕ × Row)) (pair : ℕ × ℕ) (pairs : List (ℕ × ℕ))
    (found : Option (ℕ × Row)) → filed_at rows (ticket_in pair) ≡ found
    → option_and_then number (option_map row_of found) ≡ Some (number_in pair)
    → length (rows_of rows pairs) ≡ length pairs → length (rows_of rows (pair ∷ pairs)) ≡ length (pair ∷ pairs)
found_step number rows pair pairs None e has rest = absurd (cc)
found_step number rows pair pairs (Some filed) e has rest = rw e (omega (arith, rest))

all_found : (number : Row → Option ℕ) (rows : List (ℕ × Row)) (pairs : List (ℕ × ℕ))
    → All (IsNumberOf number rows) pairs → length (rows_of rows pairs) ≡ length pairs
all_found number rows [] has = refl
all_found number rows (pair ∷ pairs) has =
    found_step number rows pair pairs (filed_at rows (ticket_in pair)) refl
    (All-head (IsNumberOf number rows) pair pairs has)
    (all_found number rows pairs (All-tail (IsNumberOf number rows) pair pairs has))

abbrev wait_moment : Row → Option ℕ
wait_moment row = waits_until row.place

-- each pair has its row
pub length_due : (kept : KeptState) (moment : ℕ) → IsWellKept kept
    → length (due kept moment) ≡ length (pairs_due kept moment)
length_due kept moment well =
    all_found wait_moment kept.rows (pairs_due kept moment)
    (All-filter (λ pair. not (nat_lt moment (number_in pair))) (IsNumberOf wait_moment kept.rows)
    (in_order (filter_map (with_ticket wait_moment) kept.rows))
    (each_number wait_moment kept.rows well.by_ticket))

pub up_next_pairs : (kept : KeptState) (moment word : ℕ) → IsWellKept kept
    → kept.next + length (pairs_due kept moment) ≡ (brought_up kept moment word).next
up_next_pairs kept moment word well =
    let next = up_next kept moment word in
    let same = length_due kept moment well in
    omega (arith, next, same)

-- ---- there are fewer than numbers below the next one

pub few_rows : (least next : ℕ) (rows : List (ℕ × Row)) → least ≤ next → AllPairs IsLower rows
    → All (λ filed. least ≤ ticket_of filed) rows → All (λ filed. ticket_of filed < next) rows
    → length rows + least ≤ next
few_rows least next [] room sorted high low = omega (arith, room)
few_rows least next (filed ∷ rows) room sorted high low =
    let here = All-head (λ x. least ≤ ticket_of x) filed rows high in
    let below = All-head (λ x. ticket_of x < next) filed rows low in
    let rest = few_rows (ticket_of filed + 1) next rows (omega (arith, below)) (tail_of_all IsLower filed rows sorted)
    (All-weaker (IsLower filed) (λ x. ticket_of filed + 1 ≤ ticket_of x) (λ x higher. omega (arith, higher)) rows
    (head_of_all IsLower filed rows sorted))
    (All-tail (λ x. ticket_of x < next) filed rows low) in
    omega (arith, rest, here)

given_step : (h : ℕ × Row → Option (ℕ × ℕ)) (filed : ℕ × Row) (rows : List (ℕ × Row)) (given : Option (ℕ × ℕ))
    → h filed ≡ given → length (filter_map h rows) ≤ length rows
    → length (filter_map h (filed ∷ rows)) ≤ length (filed ∷ rows)
given_step h filed rows None e rest = rw e (omega (arith, rest))
given_step h filed rows (Some pair) e rest = rw e (omega (arith, rest))

pub few_given : (h : ℕ × Row → Option (ℕ × ℕ)) (rows : List (ℕ × Row)) → length (filter_map h rows) ≤ length rows
few_given h [] = omega arith
few_given h (filed ∷ rows) = given_step h filed rows (h filed) refl (few_given h rows)

pub few_due : (kept : KeptState) (moment : ℕ) → IsWellKept kept → length (pairs_due kept moment) ≤ kept.next
few_due kept moment well =
    let pairs = filter_map (with_ticket wait_moment) kept.rows in
    let test = λ (pair : ℕ × ℕ). not (nat_lt moment (number_in pair)) in
    let passing = length-filter test (in_order pairs) in
    let some = are_the_same test pairs in
    let most = count_by-le-length test pairs in
    let given = few_given (with_ticket wait_moment) kept.rows in
    let rows = few_rows 0 kept.next kept.rows (omega arith) (lower_pairs kept.rows well.by_ticket)
    (λ k d within. omega arith) well.above.tickets in
    omega (arith, passing, some, most, given, rows)

-- the numbers are far from the end of their type
pub ranks_fit : (kept : KeptState) (moment next : ℕ) (pairs : List (ℕ × ℕ)) → IsWellKept kept
    → kept.next ≤ greatest_next → next ≡ kept.next → pairs ≡ pairs_due kept moment
    → next + length pairs < 2 ^ 64
ranks_fit kept moment next pairs well within same are =
    let few = few_due kept moment well in
    let count = ap length are in
    omega (arith, few, within, same, count)

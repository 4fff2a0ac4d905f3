-- There are fewer rows than numbers below the next one, and so each of their counts is a number of 64 bits.
use Rattle.std.proofs.Common.{ℕ, ◌+◌, ◌^◌, ◌<◌, ◌≤◌, List, Bool, filter, length, arith}
use Rattle.std.specs.Prelude.{filter_map}
use Rattle.std.proofs.lemmas.List.Sums.{length-filter, count_by-le-length}
use Rattle.fk_model.specs.declared.row.Row.{Row}
use Rattle.fk_model.specs.declared.mutation.Target.{Target}
use Rattle.fk_model.specs.State.{KeptState}
use Rattle.fk_model.specs.Orders.{is_queued, rank_in, timed, queue, with_ticket}
use Rattle.fk_model.specs.Rows.{row_of}
use Rattle.fk_model.specs.Between.{IsWellKept}
use Rattle.fk_model.specs.Bringing.{brought_up}
use Rattle.fk_model.specs.Info.{waiting}
use Rattle.fk_model.proofs.Cuts.{lower_pairs}
use Rattle.fk_model.proofs.Orderly.{IsOrderly, orderly}
use Rattle.fk_model.proofs.UpToDate.{up_orderly}
use Rattle.fk_lists.specs.Room.{Named, list_at}
use Rattle.fk_core.specs.Sets.{stands_at}
use Rattle.fk_core.proofs.Whereabouts.{length_in_order, timed_count}
use Rattle.fk_plan.specs.Arrivals.{HasArrived}
use Rattle.fk_plan.specs.Upkeep.{pairs_due, AreFewDue}
use Rattle.fk_plan.proofs.DueNumbers.{few_given, few_rows, up_next_pairs}
use Rattle.fk_plan.proofs.NamesUp.{longer_queue}

rows_few : (kept : KeptState) → IsOrderly kept → length kept.rows ≤ kept.next
rows_few kept is =
    let few = few_rows 0 kept.next kept.rows (omega arith) (lower_pairs kept.rows is.by_ticket)
    (λ k d within. omega arith) is.above.tickets in omega (arith, few)

fewer : (test : ℕ × Row → Bool) (rows : List (ℕ × Row)) → length (filter test rows) ≤ length rows
fewer test rows =
    let same = length-filter test rows in
    let most = count_by-le-length test rows in omega (arith, same, most)

-- the rows that wait, and those that are due
pub waiting_few : (kept : KeptState) (moment : ℕ) → IsWellKept kept → AreFewDue kept moment
    → length (waiting kept.rows) + length (pairs_due kept moment) < 2 ^ 64
waiting_few kept moment well few =
    let rows = rows_few kept (orderly kept well) in
    let some = fewer (λ filed. is_queued (row_of filed).place) kept.rows in omega (arith, few, rows, some)

up_few : (kept : KeptState) (moment word : ℕ) → IsWellKept kept → AreFewDue kept moment
    → length (brought_up kept moment word).rows < 2 ^ 64
up_few kept moment word well few =
    let rows = rows_few (brought_up kept moment word) (up_orderly kept moment word well) in
    let next = up_next_pairs kept moment word well in omega (arith, few, rows, next)

-- those of a queue, and those that are put into it
pub queue_few : (kept : KeptState) (moment : ℕ) (name : List ℕ) (arrived : Named) → IsWellKept kept
    → AreFewDue kept moment → HasArrived kept moment arrived
    → length (queue kept.rows name) + length (list_at arrived name) < 2 ^ 64
queue_few kept moment name arrived well few has =
    let up = (brought_up kept moment 0).rows in
    let sum = longer_queue kept moment 0 name arrived well has in
    let sorted = length_in_order (filter_map (with_ticket (rank_in name)) up) in
    let some = few_given (with_ticket (rank_in name)) up in
    let all = up_few kept moment 0 well few in omega (arith, sum, sorted, some, all)

-- those of a set
pub timed_few : (target : Target) (kept : KeptState) (moment word : ℕ) → IsWellKept kept → AreFewDue kept moment
    → length (timed target (brought_up kept moment word).rows) < 2 ^ 64
timed_few target kept moment word well few =
    let up = (brought_up kept moment word).rows in
    let same = timed_count target up in
    let some = fewer (λ filed. stands_at target (row_of filed).place) up in
    let all = up_few kept moment word well few in omega (arith, same, some, all)

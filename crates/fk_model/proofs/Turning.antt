-- One turn: its moves lead to its state, and what holds between turns holds behind it.
use Rattle.std.proofs.Common.{◌≡◌, ◌≢◌, ◌↔◌, sym, refl, subst, ℕ, ◌<◌, ◌≤◌, List, [], ◌++◌, arith}
use Rattle.std.specs.Prelude.{Option, None, Some}
use Rattle.std.specs.Option.{option_map_or}
use Rattle.fk_time.specs.Moments.{greatest}
use Rattle.fk_model.specs.declared.row.Row.{Row}
use Rattle.fk_model.specs.declared.ask.Ask.{Ask}
use Rattle.fk_model.specs.declared.ask.Ask.TheVariants.{Push, PushBatch, Fetch, Ack, Fail, Mutate}
use Rattle.fk_model.specs.declared.move_.Move.{Move}
use Rattle.fk_model.specs.Limits.{greatest_next}
use Rattle.fk_model.specs.State.{KeptState, State}
use Rattle.fk_model.specs.Orders.{leased}
use Rattle.fk_model.specs.Between.{IsWellKept, IsBetweenTurns}
use Rattle.fk_model.specs.Range.{IsInRange}
use Rattle.fk_model.specs.Changes.{after_moves, Lead, EndsWithTotals}
use Rattle.fk_model.specs.Failing.{Reason, failed}
use Rattle.fk_model.specs.Bringing.{brought_up, moves_up}
use Rattle.fk_model.specs.Requests.{fetched, finished}
use Rattle.fk_model.specs.Mutated.{taken}
use Rattle.fk_model.specs.Workers.{acted, after_turn, AreApart}
use Rattle.fk_model.specs.Said.{kept_and_said, only_said, ok, unknown_job, said}
use Rattle.fk_model.specs.Turns.{up_to_date, turn, moves_of, moves_of_turn}
use Rattle.fk_model.specs.History.{IsOverLimit}
use Rattle.fk_model.proofs.Leading.{AreRowsOf, AreRowsBehind, HasNumbers, closed_come, closed_ends, closed_leads, closed_stays, closed_well}
use Rattle.fk_model.proofs.Pushes.{pushes_grow}
use Rattle.fk_model.proofs.Mutating.{mutated_counts, number_grows}
use Rattle.fk_model.proofs.Flushing.{nothing_up}
use Rattle.fk_model.proofs.FailMoves.{fail_next}
use Rattle.fk_model.proofs.Requested.{rows_of, numbers_of, after_fetch}
use Rattle.fk_model.proofs.UpToDate.{up_are_rows, up_has_numbers, up_orderly}
use Rattle.fk_model.proofs.Composed.{rows_both, numbers_both}
use Rattle.fk_model.proofs.Untouched.{turn_changes}
use Rattle.fk_model.proofs.Listed.{turn_apart}

-- ---- the next number

fetch_next : (s : State) (moment : ℕ) (wid : List ℕ) (found : Option (ℕ × Row))
    → (after_fetch s moment wid found).kept.next ≡ s.kept.next
fetch_next s moment wid None = refl
fetch_next s moment wid (Some filed) = refl

ack_next : (kept : KeptState) (found : Option (ℕ × Row))
    → (option_map_or (finished kept) found kept).next ≡ kept.next
ack_next kept None = refl
ack_next kept (Some filed) = refl

-- a request doesn't lower it
pub next_grows : (s : State) (ask : Ask) (moment word : ℕ) → s.kept.next ≤ (said s ask moment word).state.kept.next
unfolding said
next_grows s (Push job) moment word = omega arith
next_grows s (PushBatch jobs told) moment word = pushes_grow moment jobs s.kept
next_grows s (Fetch wid queues) moment word =
    let same = fetch_next s moment wid (fetched s wid queues) in omega (arith, same)
next_grows s (Ack jid) moment word =
    let same = ack_next s.kept (leased s.kept jid) in omega (arith, same)
next_grows s (Fail jid errtype message backtrace) moment word =
    let same = fail_next s jid (record { errtype = errtype; message = message; backtrace = backtrace }) moment
    word in omega (arith, same)
next_grows s (Mutate cmd target filter) moment word =
    let rows = taken cmd target filter s.kept in
    let next = (mutated_counts cmd moment s.kept rows).next in
    let grown = number_grows cmd s.kept.next rows in omega (arith, next, grown)
next_grows s other moment word = omega arith

-- ---- the state that is up to date

middle_within : (s : State) (ask : Ask) (moment word : ℕ) → ¬ IsOverLimit s ask moment word
    → (brought_up s.kept moment word).next ≤ greatest_next
middle_within s ask moment word within =
    let grown = next_grows (up_to_date s moment word) ask moment word in omega (arith, within, grown)

middle_well : (s : State) (ask : Ask) (moment word : ℕ) → IsWellKept s.kept → moment < greatest
    → ¬ IsOverLimit s ask moment word → IsWellKept (brought_up s.kept moment word)
middle_well s ask moment word well told within =
    closed_well s.kept (moves_up s.kept moment word) (brought_up s.kept moment word)
    (up_are_rows s.kept moment word well)
    (up_has_numbers s.kept moment word well told (middle_within s ask moment word within)) well

-- ---- its moves, without the numbers

-- the moves of a turn but for the numbers
abbrev parts_of : State → Ask → ℕ → ℕ → List Move
parts_of s ask moment word =
    moves_up s.kept moment word ++ moves_of s.kept (up_to_date s moment word) ask moment word

said_rows : (s : State) (ask : Ask) (moment word : ℕ) → IsWellKept s.kept
    → AreRowsBehind s.kept (brought_up s.kept moment word)
    (moves_of s.kept (up_to_date s moment word) ask moment word) (turn s ask moment word).state.kept
said_rows s ask moment word well =
    rows_of s.kept (up_to_date s moment word) ask moment word (up_orderly s.kept moment word well)
    (nothing_up s.kept moment word)

turn_rows : (s : State) (ask : Ask) (moment word : ℕ) → IsWellKept s.kept
    → AreRowsOf s.kept (parts_of s ask moment word) (turn s ask moment word).state.kept
turn_rows s ask moment word well =
    rows_both s.kept (brought_up s.kept moment word) (turn s ask moment word).state.kept
    (moves_up s.kept moment word) (moves_of s.kept (up_to_date s moment word) ask moment word)
    (up_are_rows s.kept moment word well) (said_rows s ask moment word well)
    (turn_changes s ask moment word well)

turn_numbers : (s : State) (ask : Ask) (moment word : ℕ) → IsWellKept s.kept → IsInRange ask
    → moment < greatest → ¬ IsOverLimit s ask moment word
    → HasNumbers s.kept
    (moves_up s.kept moment word ++ moves_of s.kept (up_to_date s moment word) ask moment word)
    (turn s ask moment word).state.kept
turn_numbers s ask moment word well range told within =
    let middle = up_to_date s moment word in
    let then = middle_well s ask moment word well told within in
    numbers_both s.kept middle.kept (turn s ask moment word).state.kept (moves_up s.kept moment word)
    (moves_of s.kept middle ask moment word) (up_are_rows s.kept moment word well)
    (said_rows s ask moment word well)
    (up_has_numbers s.kept moment word well told (middle_within s ask moment word within))
    (numbers_of s.kept middle ask moment word then range told (omega (arith, within)))

-- ---- the turn

-- the kept state behind a turn is the one that its moves make
pub turn_comes : (s : State) (ask : Ask) (moment word : ℕ) → IsWellKept s.kept
    → (turn s ask moment word).state.kept ≡ after_moves s.kept (moves_of_turn s ask moment word)
turn_comes s ask moment word well =
    closed_come s.kept (parts_of s ask moment word) (turn s ask moment word).state.kept
    (turn_rows s ask moment word well)

-- it has no move exactly where the kept state stays
pub turn_stays : (s : State) (ask : Ask) (moment word : ℕ) → IsWellKept s.kept
    → (moves_of_turn s ask moment word ≡ []) ↔ ((turn s ask moment word).state.kept ≡ s.kept)
turn_stays s ask moment word well =
    closed_stays s.kept (parts_of s ask moment word) (turn s ask moment word).state.kept
    (turn_rows s ask moment word well)

-- its last move, and no other, tells the numbers
pub turn_ends : (s : State) (ask : Ask) (moment word : ℕ) → IsWellKept s.kept
    → moves_of_turn s ask moment word ≢ [] → EndsWithTotals (moves_of_turn s ask moment word)
turn_ends s ask moment word well some =
    closed_ends s.kept (parts_of s ask moment word) (turn s ask moment word).state.kept
    (turn_rows s ask moment word well) some

-- its moves fit, and lead to its kept state
pub turn_leads : (s : State) (ask : Ask) (moment word : ℕ) → IsWellKept s.kept → IsInRange ask
    → moment < greatest → ¬ IsOverLimit s ask moment word
    → Lead s.kept (moves_of_turn s ask moment word) (turn s ask moment word).state.kept
turn_leads s ask moment word well range told within =
    closed_leads s.kept (parts_of s ask moment word) (turn s ask moment word).state.kept
    (turn_rows s ask moment word well) (turn_numbers s ask moment word well range told within)

-- ---- the workers

fetch_workers : (s : State) (moment : ℕ) (wid : List ℕ) (found : Option (ℕ × Row))
    → (after_fetch s moment wid found).workers ≡ s.workers
fetch_workers s moment wid None = refl
fetch_workers s moment wid (Some filed) = refl

fail_workers : (s : State) (reason : Reason) (moment word : ℕ) (found : Option (ℕ × Row))
    → (option_map_or (λ filed. kept_and_said s (failed reason moment word s.kept filed) ok) found
    (only_said s unknown_job)).state.workers
    ≡ s.workers
fail_workers s reason moment word None = refl
fail_workers s reason moment word (Some filed) = refl

workers_of : (s : State) (ask : Ask) (moment word : ℕ)
    → (said s ask moment word).state.workers ≡ acted ask moment s.workers
unfolding said
workers_of s (Fetch wid queues) moment word = fetch_workers s moment wid (fetched s wid queues)
workers_of s (Fail jid errtype message backtrace) moment word =
    fail_workers s (record { errtype = errtype; message = message; backtrace = backtrace }) moment word
    (leased s.kept jid)
workers_of s other moment word = refl

-- what a turn makes of the workers
pub turn_workers : (s : State) (ask : Ask) (moment word : ℕ)
    → (turn s ask moment word).state.workers ≡ after_turn ask moment s.workers
turn_workers s ask moment word = workers_of (up_to_date s moment word) ask moment word

-- what holds between turns holds behind a turn
pub turn_keeps : (s : State) (ask : Ask) (moment word : ℕ) → IsBetweenTurns s → IsInRange ask
    → moment < greatest → ¬ IsOverLimit s ask moment word
    → IsBetweenTurns (turn s ask moment word).state
turn_keeps s ask moment word ready range told within = record {
  kept = closed_well s.kept (parts_of s ask moment word) (turn s ask moment word).state.kept
      (turn_rows s ask moment word ready.kept) (turn_numbers s ask moment word ready.kept range told within)
      ready.kept;
  names = subst AreApart (sym (turn_workers s ask moment word)) (turn_apart ask moment s.workers ready.names);
}

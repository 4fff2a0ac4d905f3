-- The moves of a FAIL: they fit, and they lead to the state behind it.
use Rattle.std.proofs.Common.{◌≡◌, sym, ap, refl, ℕ, ◌<◌, ◌≤◌, List, [], ◌∷◌, arith}
use Rattle.std.specs.Prelude.{Option, None, Some, option_to_list}
use Rattle.std.specs.Option.{option_map_or}
use Rattle.std.proofs.lemmas.List.Elements.{All-nil, All-cons}
use Rattle.fk_time.specs.Moments.{greatest}
use Rattle.fk_model.specs.declared.row.Row.{Row}
use Rattle.fk_model.specs.declared.move_.Move.TheVariants.{Add}
use Rattle.fk_model.specs.Limits.{greatest_next}
use Rattle.fk_model.specs.Rows.{ticket_of, row_of, row_at}
use Rattle.fk_model.specs.State.{KeptState, State}
use Rattle.fk_model.specs.Orders.{leased}
use Rattle.fk_model.specs.Spellings.{HasSpelling}
use Rattle.fk_model.specs.Between.{IsWellKept}
use Rattle.fk_model.specs.Changes.{IsTotals}
use Rattle.fk_model.specs.Failing.{Reason, failure_of, fate_of, failed_row, failed}
use Rattle.fk_model.specs.Bringing.{moves_of_failed}
use Rattle.fk_model.specs.Said.{ok, only_said, kept_and_said, unknown_job, fail_effect}
use Rattle.fk_model.specs.Turns.{moves_of_fail}
use Rattle.fk_model.proofs.Tickets.{row_holds}
use Rattle.fk_model.proofs.Orderly.{IsOrderly, orderly}
use Rattle.fk_model.proofs.Leading.{AreRowsOf, HasNumbers}
use Rattle.fk_model.proofs.Waiting.{IsLeased, leased_is, not_queued}
use Rattle.fk_model.proofs.Effects.{nothing_is_rows, nothing_has_numbers}
use Rattle.fk_model.proofs.Outcomes.{Outcome, ticket_in, row_in, told_by}
use Rattle.fk_model.proofs.Settling.{IsLawful, IsSpelled, AreOutcomes, outcomes_rows, outcomes_fit, outcomes_above, outcomes_change}
use Rattle.fk_model.proofs.Fates.{IsReason, fate_unranked, failed_lawful, failed_spelled}
use Rattle.fk_model.proofs.UpToDate.{move_plain, told_next, failed_words}

-- what becomes of the one row
abbrev fallen : Reason → ℕ → ℕ → ℕ × Row → Outcome
fallen reason moment word filed = record { filed = filed; becomes = failed_row reason moment word filed }

one_outcome : (kept : KeptState) (reason : Reason) (moment word : ℕ) (filed : ℕ × Row) → IsOrderly kept
    → IsLeased kept filed
    → AreOutcomes kept.next kept.next kept.rows (fallen reason moment word filed ∷ [])
one_outcome kept reason moment word filed well held =
    let one = fallen reason moment word filed in
    record {
      by_ticket = well.by_ticket;
      higher = well.above;
      stand = All-cons (λ x. row_at kept.rows (ticket_in x) ≡ Some (row_in x)) one [] held.stands
          (All-nil (λ x. row_at kept.rows (ticket_in x) ≡ Some (row_in x)));
      once = λ i j d ahead within. absurd (omega (arith, ahead, within));
      lawful = All-cons IsLawful one []
          (failed_lawful reason moment word filed held.with_worker
          (not_queued (row_of filed).place held.with_worker)) (All-nil IsLawful);
      ranked = rw (fate_unranked filed (failure_of reason moment word filed) (fate_of moment word filed)) (tt, refl);
    }

one_row : (kept : KeptState) (reason : Reason) (moment word : ℕ) (filed : ℕ × Row) → IsOrderly kept
    → IsLeased kept filed
    → AreRowsOf kept (moves_of_failed reason moment word (filed ∷ [])) (failed reason moment word kept filed)
one_row kept reason moment word filed well held =
    let one = fallen reason moment word filed in
    let are = one_outcome kept reason moment word filed well held in
    record {
      rows = sym (outcomes_rows kept.next kept.next kept (one ∷ []) are);
      none = λ e. absurd (cc);
      stays = λ same. absurd (outcomes_change kept.next kept.next kept.rows one [] are
          (ap (λ (k : KeptState). k.rows) same));
      plain = All-cons (λ move. ¬ IsTotals move) (told_by one) []
          (move_plain (ticket_of filed) (failed_row reason moment word filed)) (All-nil (λ move. ¬ IsTotals move));
    }

one_number : (kept : KeptState) (reason : Reason) (moment word : ℕ) (filed : ℕ × Row) → IsWellKept kept
    → IsReason reason → moment < greatest → kept.next ≤ greatest_next → IsLeased kept filed
    → HasNumbers kept (moves_of_failed reason moment word (filed ∷ [])) (failed reason moment word kept filed)
one_number kept reason moment word filed well texts told room held =
    let one = fallen reason moment word filed in
    let are = one_outcome kept reason moment word filed (orderly kept well) held in
    let stays = told_next kept (one ∷ []) in
    let words = failed_words reason moment word kept (filed ∷ []) well.processed well.failures in
    record {
      fit = outcomes_fit kept.next kept.next kept (one ∷ []) are
          (All-cons IsSpelled one []
          (failed_spelled reason moment word filed told texts
          (row_holds (λ x. HasSpelling (Add (ticket_of x) (row_of x))) kept.rows (ticket_of filed)
          (row_of filed) well.spelled held.stands))
          (All-nil IsSpelled));
      number = record {
        within = room;
        risen = omega (arith, stays);
        above = rw (outcomes_rows kept.next kept.next kept (one ∷ []) are)
            (outcomes_above kept.next kept.next kept.rows (one ∷ []) are);
      };
      processed = words.0;
      failures = words.1;
    }

-- ---- the row, if there is one

abbrev after_fail : State → Reason → ℕ → ℕ → Option (ℕ × Row) → KeptState
after_fail s reason moment word found =
    (option_map_or (λ filed. kept_and_said s (failed reason moment word s.kept filed) ok) found
    (only_said s unknown_job)).state.kept

rows_if : (s : State) (reason : Reason) (moment word : ℕ) (found : Option (ℕ × Row)) → IsOrderly s.kept
    → ((filed : ℕ × Row) → found ≡ Some filed → IsLeased s.kept filed)
    → AreRowsOf s.kept (moves_of_failed reason moment word (option_to_list found))
    (after_fail s reason moment word found)
rows_if s reason moment word None well held = nothing_is_rows s.kept
rows_if s reason moment word (Some filed) well held =
    one_row s.kept reason moment word filed well (held filed refl)

numbers_if : (s : State) (reason : Reason) (moment word : ℕ) (found : Option (ℕ × Row)) → IsWellKept s.kept
    → IsReason reason → moment < greatest → s.kept.next ≤ greatest_next
    → ((filed : ℕ × Row) → found ≡ Some filed → IsLeased s.kept filed)
    → HasNumbers s.kept (moves_of_failed reason moment word (option_to_list found))
    (after_fail s reason moment word found)
numbers_if s reason moment word None well texts told room held = nothing_has_numbers s.kept well room
numbers_if s reason moment word (Some filed) well texts told room held =
    one_number s.kept reason moment word filed well texts told room (held filed refl)

pub fail_rows : (s : State) (jid : List ℕ) (reason : Reason) (moment word : ℕ) → IsOrderly s.kept
    → AreRowsOf s.kept (moves_of_fail s.kept jid reason moment word)
    (fail_effect s jid reason moment word).state.kept
fail_rows s jid reason moment word well =
    rows_if s reason moment word (leased s.kept jid) well
    (λ filed at. leased_is s.kept jid filed well.by_ticket at)

pub fail_numbers : (s : State) (jid : List ℕ) (reason : Reason) (moment word : ℕ) → IsWellKept s.kept
    → IsReason reason → moment < greatest → s.kept.next ≤ greatest_next
    → HasNumbers s.kept (moves_of_fail s.kept jid reason moment word)
    (fail_effect s jid reason moment word).state.kept
fail_numbers s jid reason moment word well texts told room =
    numbers_if s reason moment word (leased s.kept jid) well texts told room
    (λ filed at. leased_is s.kept jid filed well.by_ticket at)

next_if : (s : State) (reason : Reason) (moment word : ℕ) (found : Option (ℕ × Row))
    → (after_fail s reason moment word found).next ≡ s.kept.next
next_if s reason moment word None = refl
next_if s reason moment word (Some filed) = refl

-- a FAIL takes no number
pub fail_next : (s : State) (jid : List ℕ) (reason : Reason) (moment word : ℕ)
    → (fail_effect s jid reason moment word).state.kept.next ≡ s.kept.next
fail_next s jid reason moment word = next_if s reason moment word (leased s.kept jid)

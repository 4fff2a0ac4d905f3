-- The moves of a MUTATE: they fit, and they lead to the state behind it, in which nothing is due.
use Rattle.std.proofs.Common.{◌≡◌, ◌∙◌, sym, ap, refl, ℕ, ◌<◌, ◌≤◌, ◌+◌, List, [], ◌∷◌, map, length, inl, arith}
use Rattle.std.specs.Prelude.{All, Some, slice_index_or}
use Rattle.std.proofs.lemmas.List.Elements.{All-map}
use Rattle.fk_time.specs.Moments.{greatest}
use Rattle.fk_model.specs.declared.row.Row.{Row}
use Rattle.fk_model.specs.declared.move_.Move.TheVariants.{Add}
use Rattle.fk_model.specs.declared.mutation.Cmd.{Cmd}
use Rattle.fk_model.specs.declared.mutation.Cmd.TheVariants.{Kill, Discard, Requeue, Clear}
use Rattle.fk_model.specs.Limits.{greatest_next}
use Rattle.fk_model.specs.Rows.{ticket_of, row_of}
use Rattle.fk_model.specs.State.{KeptState}
use Rattle.fk_model.specs.Spellings.{HasSpelling}
use Rattle.fk_model.specs.Between.{IsWellKept}
use Rattle.fk_model.specs.Changes.{IsTotals}
use Rattle.fk_model.specs.Due.{IsUpToDate}
use Rattle.fk_model.specs.Bringing.{move_for}
use Rattle.fk_model.specs.Mutated.{killed_row, mutated, moves_of_killed, moves_of_mutated}
use Rattle.fk_model.proofs.Tickets.{row_holds}
use Rattle.fk_model.proofs.Orderly.{IsOrderly, orderly}
use Rattle.fk_model.proofs.Leading.{AreRowsOf, HasNumbers}
use Rattle.fk_model.proofs.Outcomes.{ticket_in, told_by}
use Rattle.fk_model.proofs.Settling.{IsSpelled, StaysOn, outcomes_rows, outcomes_fit, outcomes_above, outcomes_later}
use Rattle.fk_model.proofs.BroughtUp.{leaving_all, entering_all, told_leaving, told_entering}
use Rattle.fk_model.proofs.UpToDate.{move_plain, told_next, none_changed}
use Rattle.fk_model.proofs.OfSets.{IsTaken, AreTaken}
use Rattle.fk_model.proofs.Mutating.{killing, mutating, number_behind, number_grows, killing_all, are_mutated, mutated_rows, mutated_counts}

-- ---- its moves

told_killing : (moment : ℕ) (rows : List (ℕ × Row)) → map told_by (killing moment rows) ≡ moves_of_killed moment rows
told_killing moment [] = refl
told_killing moment (filed ∷ rows) =
    ap (λ xs. move_for (ticket_of filed) (Some (killed_row moment (row_of filed))) ∷ xs) (told_killing moment rows)

pub told_mutating : (cmd : Cmd) (moment n : ℕ) (rows : List (ℕ × Row))
    → map told_by (mutating cmd moment n rows) ≡ moves_of_mutated cmd moment n rows
told_mutating Kill moment n rows = told_killing moment rows
told_mutating Discard moment n rows = told_leaving rows
told_mutating Requeue moment n rows = told_entering moment n rows
told_mutating Clear moment n rows = told_leaving rows

none_mutated : (cmd : Cmd) (moment : ℕ) (kept : KeptState) (rows : List (ℕ × Row))
    → moves_of_mutated cmd moment kept.next rows ≡ [] → mutated cmd moment kept rows ≡ kept
none_mutated Kill moment kept [] none = refl
none_mutated Discard moment kept [] none = refl
none_mutated Requeue moment kept [] none = refl
none_mutated Clear moment kept [] none = refl
none_mutated Kill moment kept (filed ∷ rows) none = absurd (cc)
none_mutated Discard moment kept (filed ∷ rows) none = absurd (cc)
none_mutated Requeue moment kept (filed ∷ rows) none = absurd (cc)
none_mutated Clear moment kept (filed ∷ rows) none = absurd (cc)

pub mutated_are_rows : (cmd : Cmd) (moment : ℕ) (kept : KeptState) (rows : List (ℕ × Row)) → IsOrderly kept
    → AreTaken cmd kept.rows rows
    → AreRowsOf kept (moves_of_mutated cmd moment kept.next rows) (mutated cmd moment kept rows)
mutated_are_rows cmd moment kept rows well taken =
    let all = mutating cmd moment kept.next rows in
    let m = number_behind cmd kept.next rows in
    let are = are_mutated cmd moment kept rows well taken in
    let told = told_mutating cmd moment kept.next rows in
    let came = mutated_rows cmd moment kept rows in
    record {
      rows = came ∙ rw (← told) (sym (outcomes_rows kept.next m kept all are));
      none = none_mutated cmd moment kept rows;
      stays = λ same. sym told
          ∙ ap (map told_by) (none_changed kept.next m kept.rows all are
          (sym came ∙ ap (λ (k : KeptState). k.rows) same));
      plain = rw (← told)
          (All-map (λ move. ¬ IsTotals move) told_by all
          (λ k d within. move_plain (ticket_in (slice_index_or all k d)) (slice_index_or all k d).becomes));
    }

-- ---- they fit

row_spelled : (cmd : Cmd) (kept : KeptState) (filed : ℕ × Row) → IsWellKept kept → IsTaken cmd kept.rows filed
    → HasSpelling (Add (ticket_of filed) (row_of filed))
row_spelled cmd kept filed well is =
    row_holds (λ x. HasSpelling (Add (ticket_of x) (row_of x))) kept.rows (ticket_of filed) (row_of filed)
    well.spelled is.stands

all_spelled : (cmd : Cmd) (moment : ℕ) (kept : KeptState) (all : List (ℕ × Row)) → IsWellKept kept
    → moment < greatest → number_behind cmd kept.next all ≤ greatest_next → All (IsTaken cmd kept.rows) all
    → All IsSpelled (mutating cmd moment kept.next all)
all_spelled Kill moment kept all well told room each =
    killing_all IsSpelled (IsTaken Kill kept.rows) moment all
    (λ filed is. let spelled = row_spelled Kill kept filed well is in (
      spelled.0,
      record { when = spelled.1.rest.when; failed = spelled.1.rest.failed; stands = omega arith },
    )) each
all_spelled Discard moment kept all well told room each =
    leaving_all IsSpelled (IsTaken Discard kept.rows) all (λ filed is. (row_spelled Discard kept filed well is).0) each
all_spelled Requeue moment kept all well told room each =
    entering_all IsSpelled (IsTaken Requeue kept.rows) moment kept.next (kept.next + length all) all (omega arith)
    (λ rank filed below is. let spelled = row_spelled Requeue kept filed well is in (
      spelled.0,
      record {
        when = omega (arith, told);
        failed = spelled.1.rest.failed;
        stands = omega (arith, below, room);
      },
    )) each
all_spelled Clear moment kept all well told room each =
    leaving_all IsSpelled (IsTaken Clear kept.rows) all (λ filed is. (row_spelled Clear kept filed well is).0) each

pub mutated_has_numbers : (cmd : Cmd) (moment : ℕ) (kept : KeptState) (rows : List (ℕ × Row)) → IsWellKept kept
    → moment < greatest → (mutated cmd moment kept rows).next ≤ greatest_next → AreTaken cmd kept.rows rows
    → HasNumbers kept (moves_of_mutated cmd moment kept.next rows) (mutated cmd moment kept rows)
mutated_has_numbers cmd moment kept rows well told within taken =
    let all = mutating cmd moment kept.next rows in
    let m = number_behind cmd kept.next rows in
    let are = are_mutated cmd moment kept rows (orderly kept well) taken in
    let counts = mutated_counts cmd moment kept rows in
    let next = counts.next in
    let room : m ≤ greatest_next = omega (arith, next, within) in
    let stays = told_next kept all in
    let grown = number_grows cmd kept.next rows in
    rw (← told_mutating cmd moment kept.next rows)
    (record {
      fit = outcomes_fit kept.next m kept all are (all_spelled cmd moment kept rows well told room taken.each);
      number = record {
        within = within;
        risen = omega (arith, next, stays, grown);
        above = rw (next, outcomes_rows kept.next m kept all are) (outcomes_above kept.next m kept.rows all are);
      };
      processed = rw counts.processed well.processed;
      failures = rw counts.failures well.failures;
    })

-- ---- nothing is due then

stay_on : (cmd : Cmd) (moment n : ℕ) (rows all : List (ℕ × Row)) → moment < greatest → All (IsTaken cmd rows) all
    → All (StaysOn moment) (mutating cmd moment n all)
stay_on Kill moment n rows all told each =
    killing_all (StaysOn moment) (IsTaken Kill rows) moment all (λ filed is. omega (arith, told)) each
stay_on Discard moment n rows all told each =
    leaving_all (StaysOn moment) (IsTaken Discard rows) all (λ filed is. tt) each
stay_on Requeue moment n rows all told each =
    entering_all (StaysOn moment) (IsTaken Requeue rows) moment n (n + length all) all (omega arith)
    (λ rank filed below is. tt) each
stay_on Clear moment n rows all told each =
    leaving_all (StaysOn moment) (IsTaken Clear rows) all (λ filed is. tt) each

pub mutated_on : (cmd : Cmd) (moment : ℕ) (kept : KeptState) (rows : List (ℕ × Row)) → IsOrderly kept
    → moment < greatest → AreTaken cmd kept.rows rows → IsUpToDate moment kept
    → IsUpToDate moment (mutated cmd moment kept rows)
mutated_on cmd moment kept rows well told taken on =
    let all = mutating cmd moment kept.next rows in
    rw (mutated_rows cmd moment kept rows)
    (outcomes_later moment kept.next (number_behind cmd kept.next rows) kept.rows all
    (are_mutated cmd moment kept rows well taken) (stay_on cmd moment kept.next kept.rows rows told taken.each)
    (λ k d within. inl (on k d within)))

-- The kept state brought up to a moment is what the moves lead to, nothing is due in it, and it is well kept.
use Rattle.std.proofs.Common.{IfSome, ◌≡◌, ◌∙◌, sym, ap, refl, ℕ, ◌<◌, ◌≤◌, ◌+◌, List, [], ◌∷◌, ◌++◌, map, length, arith}
use Rattle.std.specs.Prelude.{All, Option, None, Some, fold, slice_index_or}
use Rattle.std.proofs.lemmas.List.Elements.{All-head, All-tail, All-map}
use Rattle.std.proofs.lemmas.Option.{IfSome_then}
use Rattle.fk_time.specs.Moments.{greatest}
use Rattle.fk_model.specs.declared.row.Row.{Row}
use Rattle.fk_model.specs.declared.move_.Move.TheVariants.{Add}
use Rattle.fk_model.specs.Limits.{greatest_next}
use Rattle.fk_model.specs.Rows.{ticket_of, row_of, IsByTicket}
use Rattle.fk_model.specs.State.{KeptState}
use Rattle.fk_model.specs.Spellings.{IsWord, HasSpelling}
use Rattle.fk_model.specs.Between.{IsWellKept}
use Rattle.fk_model.specs.Changes.{after_move, after_moves, IsTotals}
use Rattle.fk_model.specs.Due.{IsUpToDate, over, expired, due}
use Rattle.fk_model.specs.Failing.{Reason, expiry, failed}
use Rattle.fk_model.specs.Bringing.{forgotten, enqueued, brought_up, move_for, moves_of_forgotten, moves_of_failed, moves_of_enqueued, moves_up}
use Rattle.fk_model.proofs.Tickets.{row_holds}
use Rattle.fk_model.proofs.Orderly.{HasJob, IsOrderly, orderly}
use Rattle.fk_model.proofs.Leading.{AreRowsOf, HasNumbers}
use Rattle.fk_model.proofs.Outcomes.{Outcome, ticket_in, row_in, told_by, rows_with, outcome_by_ticket, outcome_all}
use Rattle.fk_model.proofs.Settling.{IsSpelled, StaysOn, AreOutcomes, outcomes_rows, outcomes_fit, outcomes_above, outcomes_later, outcomes_change}
use Rattle.fk_model.proofs.Chosen.{IsChosen, each_chosen}
use Rattle.fk_model.proofs.Fates.{expiry_is, failed_spelled, failed_on}
use Rattle.fk_model.proofs.Falling.{dead_moment, lease_moment, wait_moment, each_ended, all_due_taken}
use Rattle.fk_model.proofs.BroughtUp.{leaving, failing, entering, outcomes_due, filed_due, pending_filed, all_three, leaving_all, failing_all, entering_all, are_outcomes, told_due}

-- ---- the rows and the numbers

fold_both : {X Y : Type 0} (step : X → Y → X) (from : X) (front back : List Y)
    → fold step from (front ++ back) ≡ fold step (fold step from front) back
fold_both step from [] back = refl
fold_both step from (y ∷ front) back = fold_both step (step from y) front back

pub forgotten_is : (kept : KeptState) (rows : List (ℕ × Row))
    → fold forgotten kept rows ≡ record kept { rows = fold rows_with kept.rows (leaving rows) }
forgotten_is kept [] = refl
forgotten_is kept (filed ∷ rows) = forgotten_is (forgotten kept filed) rows

pub failed_rows : (reason : Reason) (moment word : ℕ) (kept : KeptState) (rows : List (ℕ × Row))
    → (fold (failed reason moment word) kept rows).rows
    ≡ fold rows_with kept.rows (failing reason moment word rows)
failed_rows reason moment word kept [] = refl
failed_rows reason moment word kept (filed ∷ rows) =
    failed_rows reason moment word (failed reason moment word kept filed) rows

pub failed_next : (reason : Reason) (moment word : ℕ) (kept : KeptState) (rows : List (ℕ × Row))
    → (fold (failed reason moment word) kept rows).next ≡ kept.next
failed_next reason moment word kept [] = refl
failed_next reason moment word kept (filed ∷ rows) =
    failed_next reason moment word (failed reason moment word kept filed) rows

pub failed_words : (reason : Reason) (moment word : ℕ) (kept : KeptState) (rows : List (ℕ × Row))
    → IsWord kept.processed → IsWord kept.failures
    → IsWord (fold (failed reason moment word) kept rows).processed
    × IsWord (fold (failed reason moment word) kept rows).failures
failed_words reason moment word kept [] processed failures = (processed, failures)
failed_words reason moment word kept (filed ∷ rows) processed failures =
    failed_words reason moment word (failed reason moment word kept filed) rows (omega arith) (omega arith)

pub enqueued_rows : (moment : ℕ) (kept : KeptState) (rows : List (ℕ × Row))
    → (fold (enqueued moment) kept rows).rows ≡ fold rows_with kept.rows (entering moment kept.next rows)
enqueued_rows moment kept [] = refl
enqueued_rows moment kept (filed ∷ rows) = enqueued_rows moment (enqueued moment kept filed) rows

pub enqueued_numbers : (moment n : ℕ) (kept : KeptState) (rows : List (ℕ × Row)) → n ≡ kept.next + length rows
    → ((fold (enqueued moment) kept rows).next ≡ n)
    × ((fold (enqueued moment) kept rows).processed ≡ kept.processed)
    × ((fold (enqueued moment) kept rows).failures ≡ kept.failures)
enqueued_numbers moment n kept [] e = (omega (arith, e), refl, refl)
enqueued_numbers moment n kept (filed ∷ rows) e =
    enqueued_numbers moment n (enqueued moment kept filed) rows (omega (arith, e))

-- the kept state once reservations have ended
abbrev until_expired : KeptState → ℕ → ℕ → KeptState
until_expired kept moment word =
    fold (failed expiry moment word) (fold forgotten kept (over kept moment)) (expired kept moment)

until_next : (kept : KeptState) (moment word : ℕ) → (until_expired kept moment word).next ≡ kept.next
until_next kept moment word =
    failed_next expiry moment word (fold forgotten kept (over kept moment)) (expired kept moment)
    ∙ ap (λ (k : KeptState). k.next) (forgotten_is kept (over kept moment))

until_rows : (kept : KeptState) (moment word : ℕ)
    → (until_expired kept moment word).rows
    ≡ fold rows_with (fold rows_with kept.rows (leaving (over kept moment)))
    (failing expiry moment word (expired kept moment))
until_rows kept moment word =
    failed_rows expiry moment word (fold forgotten kept (over kept moment)) (expired kept moment)
    ∙ ap (λ (k : KeptState). fold rows_with k.rows (failing expiry moment word (expired kept moment)))
    (forgotten_is kept (over kept moment))

until_words : (kept : KeptState) (moment word : ℕ) → IsWellKept kept
    → IsWord (until_expired kept moment word).processed × IsWord (until_expired kept moment word).failures
until_words kept moment word well =
    failed_words expiry moment word (fold forgotten kept (over kept moment)) (expired kept moment)
    (rw (forgotten_is kept (over kept moment)) well.processed)
    (rw (forgotten_is kept (over kept moment)) well.failures)

pub up_rows : (kept : KeptState) (moment word : ℕ)
    → (brought_up kept moment word).rows ≡ fold rows_with kept.rows (outcomes_due kept moment word)
up_rows kept moment word =
    let first = leaving (over kept moment) in
    let second = failing expiry moment word (expired kept moment) in
    let third = entering moment kept.next (due kept moment) in
    enqueued_rows moment (until_expired kept moment word) (due kept moment)
    ∙ rw (until_next kept moment word, until_rows kept moment word)
    (sym (fold_both rows_with kept.rows first (second ++ third)
    ∙ fold_both rows_with (fold rows_with kept.rows first) second third))

pub up_next : (kept : KeptState) (moment word : ℕ)
    → (brought_up kept moment word).next ≡ kept.next + length (due kept moment)
up_next kept moment word =
    let next = until_next kept moment word in
    (enqueued_numbers moment (kept.next + length (due kept moment)) (until_expired kept moment word)
    (due kept moment) (omega (arith, next))).0

up_words : (kept : KeptState) (moment word : ℕ) → IsWellKept kept
    → IsWord (brought_up kept moment word).processed × IsWord (brought_up kept moment word).failures
up_words kept moment word well =
    let numbers = enqueued_numbers moment ((until_expired kept moment word).next + length (due kept moment))
    (until_expired kept moment word) (due kept moment) refl in
    let words = until_words kept moment word well in
    (rw numbers.1 words.0, rw numbers.2 words.1)

-- ---- its moves

pub move_plain : (ticket : ℕ) (becomes : Option Row) → ¬ IsTotals (move_for ticket becomes)
move_plain ticket None = λ total. total
move_plain ticket (Some row) = λ total. total

move_next : (kept : KeptState) (ticket : ℕ) (becomes : Option Row)
    → (after_move kept (move_for ticket becomes)).next ≡ kept.next
unfolding after_move
move_next kept ticket None = refl
move_next kept ticket (Some row) = refl

pub told_next : (kept : KeptState) (all : List Outcome) → (after_moves kept (map told_by all)).next ≡ kept.next
told_next kept [] = refl
told_next kept (one ∷ all) =
    told_next (after_move kept (told_by one)) all ∙ move_next kept (ticket_in one) one.becomes

none_done : (kept : KeptState) (moment word : ℕ) (first second third : List (ℕ × Row))
    → moves_of_forgotten first ++ moves_of_failed expiry moment word second
    ++ moves_of_enqueued moment kept.next third ≡ []
    → fold (enqueued moment) (fold (failed expiry moment word) (fold forgotten kept first) second) third ≡ kept
none_done kept moment word [] [] [] none = refl
none_done kept moment word [] [] (filed ∷ third) none = absurd (cc)
none_done kept moment word [] (filed ∷ second) third none = absurd (cc)
none_done kept moment word (filed ∷ first) second third none = absurd (cc)

pub none_changed : (n m : ℕ) (rows : List (ℕ × Row)) (all : List Outcome) → AreOutcomes n m rows all
    → fold rows_with rows all ≡ rows → all ≡ []
none_changed n m rows [] are same = refl
none_changed n m rows (one ∷ all) are same = absurd (outcomes_change n m rows one all are same)

pub up_are_rows : (kept : KeptState) (moment word : ℕ) → IsWellKept kept
    → AreRowsOf kept (moves_up kept moment word) (brought_up kept moment word)
up_are_rows kept moment word well =
    let all = outcomes_due kept moment word in
    let are = are_outcomes kept moment word well in
    let m = kept.next + length (due kept moment) in
    let rows = up_rows kept moment word in
    record {
      rows = rows
          ∙ rw (← told_due kept moment word) (sym (outcomes_rows kept.next m kept all are));
      none = none_done kept moment word (over kept moment) (expired kept moment) (due kept moment);
      stays = λ same. sym (told_due kept moment word)
          ∙ ap (map told_by) (none_changed kept.next m kept.rows all are
          (sym rows ∙ ap (λ (k : KeptState). k.rows) same));
      plain = rw (← told_due kept moment word)
          (All-map (λ move. ¬ IsTotals move) told_by all
          (λ k d within. move_plain (ticket_in (slice_index_or all k d)) (slice_index_or all k d).becomes));
    }

-- ---- where the clock's moment is told

-- what holds of each row that can be written holds of each that was chosen
spelled_at : (kept : KeptState) (number : Row → Option ℕ) (moment : ℕ) (filed : ℕ × Row) → IsWellKept kept
    → IsChosen number moment kept.rows filed → HasSpelling (Add (ticket_of filed) (row_of filed))
spelled_at kept number moment filed well is =
    row_holds (λ x. HasSpelling (Add (ticket_of x) (row_of x))) kept.rows (ticket_of filed) (row_of filed)
    well.spelled is.stands

due_spelled : (kept : KeptState) (moment word : ℕ) → IsWellKept kept → moment < greatest
    → kept.next + length (due kept moment) ≤ greatest_next → All IsSpelled (outcomes_due kept moment word)
due_spelled kept moment word well told room =
    all_three IsSpelled kept moment word
    (leaving_all IsSpelled (IsChosen dead_moment moment kept.rows) (over kept moment)
    (λ filed is. (spelled_at kept dead_moment moment filed well is).0)
    (each_chosen dead_moment moment kept.rows well.by_ticket))
    (failing_all IsSpelled (IsChosen lease_moment moment kept.rows) expiry moment word (expired kept moment)
    (λ filed is. failed_spelled expiry moment word filed told expiry_is
    (spelled_at kept lease_moment moment filed well is))
    (each_ended moment kept.rows well.by_ticket))
    (entering_all IsSpelled (IsChosen wait_moment moment kept.rows) moment kept.next
    (kept.next + length (due kept moment)) (due kept moment) (omega arith)
    (λ rank filed below is. let spelled = spelled_at kept wait_moment moment filed well is in (
      spelled.0,
      record {
        when = omega (arith, told);
        failed = spelled.1.rest.failed;
        stands = omega (arith, below, room);
      },
    )) (each_chosen wait_moment moment kept.rows well.by_ticket))

pub due_on : (kept : KeptState) (moment word : ℕ) → IsWellKept kept → moment < greatest
    → All (StaysOn moment) (outcomes_due kept moment word)
due_on kept moment word well told =
    all_three (StaysOn moment) kept moment word
    (leaving_all (StaysOn moment) (IsChosen dead_moment moment kept.rows) (over kept moment) (λ filed is. tt)
    (each_chosen dead_moment moment kept.rows well.by_ticket))
    (failing_all (StaysOn moment) (IsChosen lease_moment moment kept.rows) expiry moment word
    (expired kept moment) (λ filed is. failed_on expiry moment word filed told)
    (each_ended moment kept.rows well.by_ticket))
    (entering_all (StaysOn moment) (IsChosen wait_moment moment kept.rows) moment kept.next
    (kept.next + length (due kept moment)) (due kept moment) (omega arith) (λ rank filed below is. tt)
    (each_chosen wait_moment moment kept.rows well.by_ticket))

-- nothing is due any more
pub up_to_date : (kept : KeptState) (moment word : ℕ) → IsWellKept kept → moment < greatest
    → IsUpToDate moment (brought_up kept moment word)
up_to_date kept moment word well told =
    let all = outcomes_due kept moment word in
    rw (up_rows kept moment word)
    (outcomes_later moment kept.next (kept.next + length (due kept moment)) kept.rows all
    (are_outcomes kept moment word well) (due_on kept moment word well told)
    (λ k d within. pending_filed moment (slice_index_or kept.rows k d) all
    (rw (filed_due kept moment word) (all_due_taken moment kept.rows well.by_ticket k d within))))

pub up_has_numbers : (kept : KeptState) (moment word : ℕ) → IsWellKept kept → moment < greatest
    → (brought_up kept moment word).next ≤ greatest_next
    → HasNumbers kept (moves_up kept moment word) (brought_up kept moment word)
up_has_numbers kept moment word well told within =
    let all = outcomes_due kept moment word in
    let are = are_outcomes kept moment word well in
    let m = kept.next + length (due kept moment) in
    let next = up_next kept moment word in
    let room : m ≤ greatest_next = omega (arith, next, within) in
    let words = up_words kept moment word well in
    let stays = told_next kept all in
    rw (← told_due kept moment word)
    (record {
      fit = outcomes_fit kept.next m kept all are (due_spelled kept moment word well told room);
      number = record {
        within = within;
        risen = omega (arith, next, stays);
        above = rw (next, outcomes_rows kept.next m kept all are) (outcomes_above kept.next m kept.rows all are);
      };
      processed = words.0;
      failures = words.1;
    })

-- ---- whatever the moment, and however great the next number

outcomes_ordered : (rows : List (ℕ × Row)) (all : List Outcome) → IsByTicket rows
    → IsByTicket (fold rows_with rows all)
outcomes_ordered rows [] by_ticket = by_ticket
outcomes_ordered rows (one ∷ all) by_ticket =
    outcomes_ordered (rows_with rows one) all (outcome_by_ticket rows (ticket_in one) one.becomes by_ticket)

-- what becomes of a row is of a job that can be written
abbrev IsOfGood : Outcome → Type 0
IsOfGood one = IfSome one.becomes (λ row. HasJob (ticket_in one, row))

outcomes_jobs : (rows : List (ℕ × Row)) (all : List Outcome) → All HasJob rows → All IsOfGood all
    → All HasJob (fold rows_with rows all)
outcomes_jobs rows [] each good = each
outcomes_jobs rows (one ∷ all) each good =
    outcomes_jobs (rows_with rows one) all
    (outcome_all HasJob HasJob rows (ticket_in one) one.becomes (λ x apart has. has) each
    (All-head IsOfGood one all good)) (All-tail IsOfGood one all good)

good_of : (n m : ℕ) (rows : List (ℕ × Row)) (all : List Outcome) → AreOutcomes n m rows all → All HasJob rows
    → All IsOfGood all
good_of n m rows all are each = λ k d within.
    let one = slice_index_or all k d in
    let had = row_holds HasJob rows (ticket_in one) (row_in one) each (are.stand k d within) in
    IfSome_then one.becomes (are.lawful k d within).of_job (λ row same. rw same.0 had)

pub up_orderly : (kept : KeptState) (moment word : ℕ) → IsWellKept kept
    → IsOrderly (brought_up kept moment word)
up_orderly kept moment word well =
    let all = outcomes_due kept moment word in
    let are = are_outcomes kept moment word well in
    let m = kept.next + length (due kept moment) in
    let jobs = (orderly kept well).jobs in
    record {
      by_ticket = rw (up_rows kept moment word) (outcomes_ordered kept.rows all well.by_ticket);
      above = rw (up_next kept moment word, up_rows kept moment word)
          (outcomes_above kept.next m kept.rows all are);
      jobs = rw (up_rows kept moment word)
          (outcomes_jobs kept.rows all jobs (good_of kept.next m kept.rows all are jobs));
    }

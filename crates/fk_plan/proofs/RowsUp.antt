-- The rows once the state was brought up to date: each as its move leaves it.
use Rattle.std.proofs.Common.{◌≡◌, ◌∙◌, sym, ap, refl, ℕ, ◌+◌, ◌<◌, List, [], ◌∷◌, Bool, true, false, map, length, arith}
use Rattle.std.specs.Prelude.{All, Option, None, Some, IfSome, option_map, option_and_then, filter_map, fold, ◌==◌, slice_index_or}
use Rattle.std.proofs.lemmas.Bool.Decides.{nat_tests}
use Rattle.std.proofs.lemmas.Option.{IfSome_then}
use Rattle.std.proofs.lemmas.List.Elements.{All-head, All-tail, All-map}
use Rattle.fk_time.specs.Moments.{greatest}
use Rattle.fk_job.specs.RowText.{HasFailureMoments, HasMoments}
use Rattle.fk_job.specs.declared.failure.Failure.{Failure}
use Rattle.fk_model.specs.declared.row.Row.{Row}
use Rattle.fk_model.specs.declared.move_.Move.{Move}
use Rattle.fk_model.specs.declared.move_.Move.TheVariants.{Add, Put, Drop}
use Rattle.fk_model.specs.declared.mutation.Target.{Target}
use Rattle.fk_model.specs.Rows.{ticket_of, row_of, filed_at, row_at}
use Rattle.fk_model.specs.State.{KeptState}
use Rattle.fk_model.specs.Orders.{number_in, ticket_in, moment_in, timed}
use Rattle.fk_model.specs.Changes.{put_row}
use Rattle.fk_model.specs.Spellings.{HasFailureSpelling, HasRowSpelling, HasSpelling}
use Rattle.fk_model.specs.Between.{IsWellKept}
use Rattle.fk_model.specs.Due.{over, expired, due}
use Rattle.fk_model.specs.Failing.{expiry, failed_row}
use Rattle.fk_model.specs.Bringing.{brought_up, move_for, moves_up}
use Rattle.fk_model.specs.Mutated.{rows_in}
use Rattle.fk_model.proofs.Tickets.{row_holds}
use Rattle.fk_model.proofs.Lookups.{filed_from_row}
use Rattle.fk_model.proofs.Finding.{find_holds}
use Rattle.fk_model.proofs.Standing.{IsNumberOf, each_number}
use Rattle.fk_model.proofs.Outcomes.{Outcome, ticket_in as outcome_ticket, row_in, told_by, rows_with, IsOfJob, outcome_other, new_rank, behind_rank}
use Rattle.fk_model.proofs.Settling.{IsLawful, IsSpelled, AreOutcomes, first_becomes}
use Rattle.fk_model.proofs.Chosen.{IsChosen, each_chosen}
use Rattle.fk_model.proofs.Fates.{expiry_is, failed_spelled}
use Rattle.fk_model.proofs.Falling.{dead_moment, lease_moment, wait_moment, each_ended}
use Rattle.fk_model.proofs.BroughtUp.{outcomes_due, all_three, leaving_all, failing_all, entering_all, are_outcomes, told_due}
use Rattle.fk_model.proofs.UpToDate.{up_rows, up_orderly}
use Rattle.fk_plan.specs.Choosing.{set_behind, is_move_of, move_of, row_told, told_at, rows_told, TellsMoments}
use Rattle.fk_plan.proofs.Behind.{rest_of}
use Rattle.fk_plan.proofs.SetsUp.{same_given, set_up}

-- ---- under one ticket

-- what a move leaves of the row of its ticket
abbrev left_by : Option Move → Option Row → Option Row
left_by None row = row
left_by (Some (Drop ticket)) row = None
left_by (Some step) row = option_map (row_told (Some step)) row

of_outcome : (ticket : ℕ) (one : Outcome) → is_move_of ticket (told_by one) ≡ (outcome_ticket one == ticket)
of_outcome ticket one = by_row ticket one.filed one.becomes
  where
    by_row : (ticket : ℕ) (filed : ℕ × Row) (becomes : Option Row)
        → is_move_of ticket (move_for (ticket_of filed) becomes) ≡ (ticket_of filed == ticket)
    by_row ticket filed None = refl
    by_row ticket filed (Some new) = refl

put_is : (row new : Row) → IsOfJob row (Some new)
    → put_row new.stamp.enqueued new.stamp.failure new.place row ≡ new
put_is row new same = rw (← same.0, ← same.1) refl

left_told : (ticket : ℕ) (row : Row) (becomes : Option Row) → IsOfJob row becomes
    → becomes ≡ left_by (Some (move_for ticket becomes)) (Some row)
left_told ticket row None of_job = refl
left_told ticket row (Some new) of_job = ap Some (sym (put_is row new of_job))

-- what stands under a ticket behind outcomes is what the first move of that ticket leaves
all_left : (n m : ℕ) (rows : List (ℕ × Row)) (all : List Outcome) (ticket : ℕ) → AreOutcomes n m rows all
    → row_at (fold rows_with rows all) ticket ≡ left_by (move_of (map told_by all) ticket) (row_at rows ticket)
all_left n m rows [] ticket are = refl
all_left n m rows (one ∷ all) ticket are =
    one_left (outcome_ticket one == ticket) refl
    (all_left (behind_rank n (new_rank one.becomes)) m (rows_with rows one) all ticket
    (rest_of n m rows one all are))
  where
    one_left : (test : Bool) → (outcome_ticket one == ticket) ≡ test
        → row_at (fold rows_with (rows_with rows one) all) ticket
        ≡ left_by (move_of (map told_by all) ticket) (row_at (rows_with rows one) ticket)
        → row_at (fold rows_with rows (one ∷ all)) ticket
        ≡ left_by (move_of (map told_by (one ∷ all)) ticket) (row_at rows ticket)
    one_left true e rest =
        let same : outcome_ticket one ≡ ticket = grind (arith, nat_tests, e) in
        let stands = All-head (λ x. row_at rows (outcome_ticket x) ≡ Some (row_in x)) one all are.stand in
        rw (of_outcome ticket one, e, ← same, stands)
        (first_becomes n m rows one all are
        ∙ left_told (outcome_ticket one) (row_in one) one.becomes (All-head IsLawful one all are.lawful).of_job)
    one_left false e rest =
        rw (of_outcome ticket one, e)
        (rest ∙ ap (left_by (move_of (map told_by all) ticket))
        (outcome_other rows (outcome_ticket one) one.becomes ticket are.by_ticket
        (λ same. absurd (grind (arith, nat_tests, e, same)))))

-- ---- the rows of a set

row_left : (number : Row → Option ℕ) (ticket n : ℕ) (step : Option Move) (old : Option Row)
    → option_and_then number (left_by step old) ≡ Some n
    → option_map {U = ℕ × Row} (λ row. (ticket, row)) (left_by step old)
    ≡ option_map (λ row. (ticket, row_told step row)) old
row_left number ticket n None None has = refl
row_left number ticket n None (Some row) has = refl
row_left number ticket n (Some (Drop other)) old has = absurd (cc)
row_left number ticket n (Some (Put other enqueued failure place)) None has = refl
row_left number ticket n (Some (Put other enqueued failure place)) (Some row) has = refl
row_left number ticket n (Some step) None has = refl
row_left number ticket n (Some step) (Some row) has = refl

each_told : (chosen : Target) (kept : KeptState) (moment word : ℕ) (pair : ℕ × ℕ) → IsWellKept kept
    → IsNumberOf (λ row. moment_in chosen row.place) (brought_up kept moment word).rows pair
    → filed_at (brought_up kept moment word).rows (ticket_in pair)
    ≡ told_at kept.rows (moves_up kept moment word) (ticket_in pair)
each_told chosen kept moment word pair well has =
    let step = move_of (moves_up kept moment word) (ticket_in pair) in
    let old = row_at kept.rows (ticket_in pair) in
    let left : row_at (brought_up kept moment word).rows (ticket_in pair) ≡ left_by step old =
    rw (up_rows kept moment word, ← told_due kept moment word)
    (all_left kept.next (kept.next + length (due kept moment)) kept.rows (outcomes_due kept moment word)
    (ticket_in pair) (are_outcomes kept moment word well)) in
    filed_from_row (brought_up kept moment word).rows (ticket_in pair)
    ∙ ap (option_map (λ row. (ticket_in pair, row))) left
    ∙ row_left (λ row. moment_in chosen row.place) (ticket_in pair) (number_in pair) step old
    (ap (option_and_then (λ row. moment_in chosen row.place)) (sym left) ∙ has)

same_all : {X Y : Type 0} (f g : X → Option Y) (xs : List X) → All (λ x. f x ≡ g x) xs
    → filter_map f xs ≡ filter_map g xs
same_all f g [] each = refl
same_all f g (x ∷ xs) each =
    same_given f g x x xs xs (g x) (All-head (λ y. f y ≡ g y) x xs each) refl
    (same_all f g xs (All-tail (λ y. f y ≡ g y) x xs each))

-- the rows of a set of the state that was brought up to date
pub rows_up : (chosen : Target) (kept : KeptState) (moment word : ℕ) → IsWellKept kept → moment < greatest
    → rows_in chosen (brought_up kept moment word)
    ≡ rows_told kept.rows (moves_up kept moment word)
    (set_behind chosen kept.rows moment (moves_up kept moment word))
rows_up chosen kept moment word well told =
    let up = brought_up kept moment word in
    let pairs = timed chosen up.rows in
    let numbers = each_number (λ row. moment_in chosen row.place) up.rows (up_orderly kept moment word well).by_ticket in
    same_all (λ pair. filed_at up.rows (ticket_in pair))
    (λ pair. told_at kept.rows (moves_up kept moment word) (ticket_in pair)) pairs
    (λ k d within. each_told chosen kept moment word (slice_index_or pairs k d) well (numbers k d within))
    ∙ ap (rows_told kept.rows (moves_up kept moment word)) (set_up chosen kept moment word well told)

-- ---- the moments of their stamps

abbrev HasTold : Outcome → Type 0
HasTold one = TellsMoments (told_by one)

failure_moments : (failure : Option Failure) → IfSome failure HasFailureSpelling → IfSome failure HasFailureMoments
failure_moments failure spelled =
    IfSome_then failure spelled (λ one fits. record { failed_by = fits.failed; next = fits.next })

spelled_told : (filed : ℕ × Row) (becomes : Option Row) → IsSpelled (record { filed = filed; becomes = becomes })
    → HasTold (record { filed = filed; becomes = becomes })
spelled_told filed None spelled = tt
spelled_told filed (Some new) spelled =
    (spelled.1.when, failure_moments new.stamp.failure spelled.1.failed)

spelled_at : (kept : KeptState) (number : Row → Option ℕ) (moment : ℕ) (filed : ℕ × Row) → IsWellKept kept
    → IsChosen number moment kept.rows filed → HasSpelling (Add (ticket_of filed) (row_of filed))
spelled_at kept number moment filed well is =
    row_holds (λ x. HasSpelling (Add (ticket_of x) (row_of x))) kept.rows (ticket_of filed) (row_of filed)
    well.spelled is.stands

due_told : (kept : KeptState) (moment word : ℕ) → IsWellKept kept → moment < greatest
    → All HasTold (outcomes_due kept moment word)
due_told kept moment word well told =
    all_three HasTold kept moment word
    (leaving_all HasTold (IsChosen dead_moment moment kept.rows) (over kept moment) (λ filed is. tt)
    (each_chosen dead_moment moment kept.rows well.by_ticket))
    (failing_all HasTold (IsChosen lease_moment moment kept.rows) expiry moment word (expired kept moment)
    (λ filed is. spelled_told filed (failed_row expiry moment word filed)
    (failed_spelled expiry moment word filed told expiry_is (spelled_at kept lease_moment moment filed well is)))
    (each_ended moment kept.rows well.by_ticket))
    (entering_all HasTold (IsChosen wait_moment moment kept.rows) moment kept.next
    (kept.next + length (due kept moment)) (due kept moment) (omega arith)
    (λ rank filed below is. let spelled = spelled_at kept wait_moment moment filed well is in
    (omega (arith, told), failure_moments (row_of filed).stamp.failure spelled.1.rest.failed))
    (each_chosen wait_moment moment kept.rows well.by_ticket))

pub up_tells : (kept : KeptState) (moment word : ℕ) → IsWellKept kept → moment < greatest
    → All TellsMoments (moves_up kept moment word)
up_tells kept moment word well told =
    rw (← told_due kept moment word)
    (All-map TellsMoments told_by (outcomes_due kept moment word) (due_told kept moment word well told))

moments_by : (row : Row) (step : Option Move) → HasRowSpelling row → IfSome step TellsMoments
    → HasMoments (row_told step row).stamp
moments_by row None spelled tells = record {
  created = spelled.created;
  enqueued = spelled.rest.when;
  failed = failure_moments row.stamp.failure spelled.rest.failed;
}
moments_by row (Some (Put ticket enqueued failure place)) spelled tells =
    record { created = spelled.created; enqueued = tells.0; failed = tells.1 }
moments_by row (Some other) spelled tells = record {
  created = spelled.created;
  enqueued = spelled.rest.when;
  failed = failure_moments row.stamp.failure spelled.rest.failed;
}

found_tells : (moves : List Move) (ticket : ℕ) (found : Option Move) → All TellsMoments moves
    → move_of moves ticket ≡ found → IfSome found TellsMoments
found_tells moves ticket None each at = tt
found_tells moves ticket (Some step) each at = find_holds TellsMoments (is_move_of ticket) moves step each at

-- the moments of the stamp of a row can be written, as its move leaves it
pub told_has_moments : (kept : KeptState) (moves : List Move) (ticket : ℕ) (row : Row) → IsWellKept kept
    → All TellsMoments moves → Some row ≡ row_at kept.rows ticket
    → HasMoments (row_told (move_of moves ticket) row).stamp
told_has_moments kept moves ticket row well tells at =
    let spelled = row_holds (λ x. HasSpelling (Add (ticket_of x) (row_of x))) kept.rows ticket row well.spelled
    (sym at) in
    moments_by row (move_of moves ticket) spelled.1 (found_tells moves ticket (move_of moves ticket) tells refl)

-- What is left of outcomes behind the first, and what the rows become one by one.
use Rattle.std.proofs.Common.{◌≡◌, ◌≢◌, ◌∙◌, sym, ℕ, List, ◌∷◌}
use Rattle.std.specs.Prelude.{Some, slice_index_or}
use Rattle.std.proofs.lemmas.List.Elements.{All-tail}
use Rattle.fk_model.specs.declared.row.Row.{Row}
use Rattle.fk_model.specs.Rows.{row_at}
use Rattle.fk_model.proofs.Sorting.{head_of_all, tail_of_all}
use Rattle.fk_model.proofs.Outcomes.{Outcome, ticket_in, row_in, rows_with, outcome_by_ticket, outcome_other, new_rank, behind_rank, outcome_above}
use Rattle.fk_model.proofs.Settling.{IsLawful, AreOutcomes, first_lower}

pub rest_of : (n m : ℕ) (rows : List (ℕ × Row)) (one : Outcome) (all : List Outcome)
    → AreOutcomes n m rows (one ∷ all)
    → AreOutcomes (behind_rank n (new_rank one.becomes)) m (rows_with rows one) all
rest_of n m rows one all are = record {
  by_ticket = outcome_by_ticket rows (ticket_in one) one.becomes are.by_ticket;
  higher = outcome_above n rows (ticket_in one) one.becomes are.higher
      (first_lower n m rows one all are) are.ranked.0;
  stand = λ k d within.
      outcome_other rows (ticket_in one) one.becomes (ticket_in (slice_index_or all k d)) are.by_ticket
      (λ same. head_of_all (λ x y. ticket_in x ≢ ticket_in y) one all are.once k d within (sym same))
      ∙ All-tail (λ x. row_at rows (ticket_in x) ≡ Some (row_in x)) one all are.stand k d within;
  once = tail_of_all (λ x y. ticket_in x ≢ ticket_in y) one all are.once;
  lawful = All-tail IsLawful one all are.lawful;
  ranked = are.ranked.1;
}

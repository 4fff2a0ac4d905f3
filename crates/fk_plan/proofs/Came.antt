-- What stands under a ticket once the state was brought up to date: what stood there, or what was put into its queue.
use Rattle.std.proofs.Common.{◌≡◌, ◌⊎◌, ◌∙◌, sym, ap, refl, subst, ℕ, ◌<◌, ◌+◌, List, [], ◌∷◌, inl, inr, length, arith}
use Rattle.std.specs.Prelude.{All, Option, None, Some, IfSome, IsTrue, fold}
use Rattle.std.proofs.lemmas.Bool.Decides.{nat_tests}
use Rattle.std.proofs.lemmas.List.Elements.{All-head, All-tail}
use Rattle.fk_model.specs.declared.row.Row.{Row}
use Rattle.fk_model.specs.Rows.{ticket_of, row_of, IsByTicket, row_at}
use Rattle.fk_model.specs.State.{KeptState}
use Rattle.fk_model.specs.Orders.{is_queued}
use Rattle.fk_model.specs.Between.{IsWellKept}
use Rattle.fk_model.specs.Due.{over, expired, due}
use Rattle.fk_model.specs.Failing.{expiry, failed_row, failure_of, fate_of}
use Rattle.fk_model.specs.Bringing.{waiting_row, brought_up}
use Rattle.fk_model.proofs.Outcomes.{Outcome, ticket_in, rows_with, outcome_by_ticket, outcome_here, outcome_other, new_rank}
use Rattle.fk_model.proofs.Chosen.{IsChosen, each_chosen}
use Rattle.fk_model.proofs.Fates.{fate_unranked}
use Rattle.fk_model.proofs.Falling.{dead_moment, lease_moment, wait_moment, each_ended, waiting_not_queued}
use Rattle.fk_model.proofs.BroughtUp.{outcomes_due, all_three, leaving_all, failing_all, entering_all}
use Rattle.fk_model.proofs.UpToDate.{up_rows}

-- ---- one by one

three_ways : (a b : ℕ) → (a < b) ⊎ (a ≡ b) ⊎ (b < a)
three_ways a b = grind (arith, nat_tests)

-- what holds of what each of them has become holds of each row that isn't as it was
abbrev Becomes : (ℕ → Row → Type 0) → Outcome → Type 0
Becomes P one = IfSome one.becomes (P (ticket_in one))

of_new : (P : Row → Type 0) (becomes : Option Row) (new : Row) → IfSome becomes P → becomes ≡ Some new → P new
of_new P None new holds e = absurd (cc)
of_new P (Some row) new holds e = let same : row ≡ new = cc in rw (← same) holds

was_or_came : (P : ℕ → Row → Type 0) (rows : List (ℕ × Row)) (all : List Outcome) (ticket : ℕ) (new : Row)
    → IsByTicket rows → All (Becomes P) all → row_at (fold rows_with rows all) ticket ≡ Some new
    → (row_at rows ticket ≡ Some new) ⊎ P ticket new
was_or_came P rows [] ticket new by_ticket each at = inl at
was_or_came P rows (one ∷ all) ticket new by_ticket each at =
    elim (was_or_came P (rows_with rows one) all ticket new
    (outcome_by_ticket rows (ticket_in one) one.becomes by_ticket) (All-tail (Becomes P) one all each) at) [
      | inr came ↦ inr came
      | inl stands ↦ elim (three_ways ticket (ticket_in one)) [
        | inl lower ↦ inl (sym (outcome_other rows (ticket_in one) one.becomes ticket by_ticket
            (omega (arith, lower))) ∙ stands)
        | inr (inl same) ↦ inr (subst (λ t. P t new) (sym same)
            (of_new (P (ticket_in one)) one.becomes new (All-head (Becomes P) one all each)
            (sym (outcome_here rows (ticket_in one) one.becomes)
            ∙ ap (row_at (rows_with rows one)) (sym same) ∙ stands)))
        | inr (inr higher) ↦ inl (sym (outcome_other rows (ticket_in one) one.becomes ticket by_ticket
            (omega (arith, higher))) ∙ stands)
      ]
    ]

-- ---- a row that waits then

-- it was put into its queue
pub record HasEntered (kept : KeptState) (moment ticket : ℕ) (new : Row) : Type 0 where
  pub old : Row
  pub stood : row_at kept.rows ticket ≡ Some old
  pub apart : ¬ IsTrue (is_queued old.place)
  pub rank : ℕ
  pub is : new ≡ waiting_row moment rank old

abbrev EntersIf : KeptState → ℕ → ℕ → Row → Type 0
EntersIf kept moment ticket new = IsTrue (is_queued new.place) → HasEntered kept moment ticket new

unranked_out : (P : Row → Type 0) (becomes : Option Row) → new_rank becomes ≡ None
    → IfSome becomes (λ new. IsTrue (is_queued new.place) → P new)
unranked_out P None none = tt
unranked_out P (Some new) none = λ queued. absurd (cc)

each_enters : (kept : KeptState) (moment word : ℕ) → IsWellKept kept
    → All (Becomes (EntersIf kept moment)) (outcomes_due kept moment word)
each_enters kept moment word well =
    let P = Becomes (EntersIf kept moment) in
    all_three P kept moment word
    (leaving_all P (IsChosen dead_moment moment kept.rows) (over kept moment) (λ filed is. tt)
    (each_chosen dead_moment moment kept.rows well.by_ticket))
    (failing_all P (IsChosen lease_moment moment kept.rows) expiry moment word (expired kept moment)
    (λ filed is. unranked_out (HasEntered kept moment (ticket_of filed)) (failed_row expiry moment word filed)
    (fate_unranked filed (failure_of expiry moment word filed) (fate_of moment word filed)))
    (each_ended moment kept.rows well.by_ticket))
    (entering_all P (IsChosen wait_moment moment kept.rows) moment kept.next
    (kept.next + length (due kept moment)) (due kept moment) (omega arith)
    (λ rank filed below is queued. record {
      old = row_of filed;
      stood = is.stands;
      apart = waiting_not_queued moment kept.rows filed is;
      rank = rank;
      is = refl;
    }) (each_chosen wait_moment moment kept.rows well.by_ticket))

-- a row that waits once the state was brought up to date waited before, or was put into its queue
pub waited_or_entered : (kept : KeptState) (moment word ticket : ℕ) (new : Row) → IsWellKept kept
    → row_at (brought_up kept moment word).rows ticket ≡ Some new → IsTrue (is_queued new.place)
    → (row_at kept.rows ticket ≡ Some new) ⊎ HasEntered kept moment ticket new
waited_or_entered kept moment word ticket new well at queued =
    elim (was_or_came (EntersIf kept moment) kept.rows (outcomes_due kept moment word) ticket new well.by_ticket
    (each_enters kept moment word well)
    (ap (λ rows. row_at rows ticket) (sym (up_rows kept moment word)) ∙ at)) [
      | inl stands ↦ inl stands
      | inr came ↦ inr (came queued)
    ]

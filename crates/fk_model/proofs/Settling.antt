-- Rows that become others or leave, one behind the other and each once: the moves that tell it fit and lead
-- to those rows, and nothing is due that wasn't among them.
use Rattle.std.proofs.Common.{◌≡◌, ◌≢◌, ◌⊎◌, ◌∙◌, sym, ap, refl, ℕ, ◌<◌, List, [], ◌∷◌, inl, inr, map, true, false, arith}
use Rattle.std.specs.Prelude.{All, AllPairs, None, Some, IfSome, IsTrue, fold, slice_index_or}
use Rattle.std.proofs.lemmas.Bool.Decides.{nat_tests}
use Rattle.std.proofs.lemmas.Option.{IfSome_then}
use Rattle.std.proofs.lemmas.List.Elements.{All-head, All-tail}
use Rattle.fk_model.specs.declared.row.Row.{Row}
use Rattle.fk_model.specs.Rows.{ticket_of, row_of, IsByTicket, row_at}
use Rattle.fk_model.specs.State.{KeptState}
use Rattle.fk_model.specs.Orders.{is_queued, is_working}
use Rattle.fk_model.specs.Spellings.{HasSpelling}
use Rattle.fk_model.specs.Between.{IsAboveAll}
use Rattle.fk_model.specs.Changes.{after_move, after_moves, FitInTurn}
use Rattle.fk_model.specs.Due.{leaves_at}
use Rattle.fk_model.proofs.Sorting.{head_of_all, tail_of_all}
use Rattle.fk_model.proofs.Tickets.{row_holds}
use Rattle.fk_model.proofs.Outcomes.{Outcome, ticket_in, row_in, told_by, rows_with, IsOfJob, told_rows, outcome_by_ticket, outcome_here, outcome_other, outcome_all, new_rank, HasRank, behind_rank, outcome_above, told_fits}

-- ---- outcomes

-- a row stays where it is until later
abbrev pub IsLater : ℕ → Row → Type 0
IsLater moment row = IfSome (leaves_at row.place) (λ at. moment < at)

-- what holds of an outcome by itself
pub record IsLawful (one : Outcome) : Type 0 where
  pub apart : ¬ IsTrue (is_queued (row_in one).place)
  pub of_job : IsOfJob (row_in one) one.becomes
  pub idle : IfSome one.becomes (λ row. is_working row.place ≡ false)
  pub changes : one.becomes ≢ Some (row_in one)
  pub unranked : is_working (row_in one).place ≡ true → new_rank one.becomes ≡ None

-- its move can be written
abbrev pub IsSpelled : Outcome → Type 0
IsSpelled one = HasSpelling (told_by one)

-- its row stays then until later
abbrev pub StaysOn : ℕ → Outcome → Type 0
StaysOn moment one = IfSome one.becomes (IsLater moment)

-- the ranks that rows get are the numbers from one to another
abbrev pub AreRanked : ℕ → List Outcome → ℕ → Type 0
AreRanked n [] m = n ≡ m
AreRanked n (one ∷ all) m =
    HasRank n (new_rank one.becomes) × AreRanked (behind_rank n (new_rank one.becomes)) all m

-- what holds of outcomes: each row stands there, and comes once
pub record AreOutcomes (n m : ℕ) (rows : List (ℕ × Row)) (all : List Outcome) : Type 0 where
  pub by_ticket : IsByTicket rows
  pub higher : IsAboveAll n rows
  pub stand : All (λ one. row_at rows (ticket_in one) ≡ Some (row_in one)) all
  pub once : AllPairs (λ one other. ticket_in one ≢ ticket_in other) all
  pub lawful : All IsLawful all
  pub ranked : AreRanked n all m

pub first_lower : (n m : ℕ) (rows : List (ℕ × Row)) (one : Outcome) (all : List Outcome)
    → AreOutcomes n m rows (one ∷ all) → ticket_in one < n
first_lower n m rows one all are =
    row_holds (λ x. ticket_of x < n) rows (ticket_in one) (row_in one) are.higher.tickets
    (All-head (λ x. row_at rows (ticket_in x) ≡ Some (row_in x)) one all are.stand)

-- what is left of them behind the first
rest_of : (n m : ℕ) (rows : List (ℕ × Row)) (one : Outcome) (all : List Outcome)
    → AreOutcomes n m rows (one ∷ all)
    → AreOutcomes (behind_rank n (new_rank one.becomes)) m (rows_with rows one) all
rest_of n m rows one all are = record {
  by_ticket = outcome_by_ticket rows (ticket_in one) one.becomes are.by_ticket;
  higher = outcome_above n rows (ticket_in one) one.becomes are.higher
      (first_lower n m rows one all are) are.ranked.0;
  stand = λ k d within.
      outcome_other rows (ticket_in one) one.becomes (ticket_in (slice_index_or all k d)) are.by_ticket
      (λ same. head_of_all (λ x y. ticket_in x ≢ ticket_in y) one all are.once k d within (sym same))
      ∙ All-tail (λ x. row_at rows (ticket_in x) ≡ Some (row_in x)) one all are.stand k d within;
  once = tail_of_all (λ x y. ticket_in x ≢ ticket_in y) one all are.once;
  lawful = All-tail IsLawful one all are.lawful;
  ranked = are.ranked.1;
}

-- ---- their moves

first_rows : (n m : ℕ) (kept : KeptState) (one : Outcome) (all : List Outcome)
    → AreOutcomes n m kept.rows (one ∷ all)
    → (after_move kept (told_by one)).rows ≡ rows_with kept.rows one
first_rows n m kept one all are =
    told_rows kept (ticket_in one) (row_in one) one.becomes are.by_ticket
    (All-head (λ x. row_at kept.rows (ticket_in x) ≡ Some (row_in x)) one all are.stand)
    (All-head IsLawful one all are.lawful).of_job

rest_behind : (n m : ℕ) (kept : KeptState) (one : Outcome) (all : List Outcome)
    → AreOutcomes n m kept.rows (one ∷ all)
    → AreOutcomes (behind_rank n (new_rank one.becomes)) m (after_move kept (told_by one)).rows all
rest_behind n m kept one all are =
    rw (first_rows n m kept one all are) (rest_of n m kept.rows one all are)

-- they lead to the rows that are there then
pub outcomes_rows : (n m : ℕ) (kept : KeptState) (all : List Outcome)
    → AreOutcomes n m kept.rows all
    → (after_moves kept (map told_by all)).rows ≡ fold rows_with kept.rows all
outcomes_rows n m kept [] are = refl
outcomes_rows n m kept (one ∷ all) are =
    outcomes_rows (behind_rank n (new_rank one.becomes)) m (after_move kept (told_by one)) all
    (rest_behind n m kept one all are)
    ∙ ap (λ rows. fold rows_with rows all) (first_rows n m kept one all are)

-- they fit
pub outcomes_fit : (n m : ℕ) (kept : KeptState) (all : List Outcome) → AreOutcomes n m kept.rows all
    → All IsSpelled all → FitInTurn kept (map told_by all)
unfolding FitInTurn
outcomes_fit n m kept [] are spelled = tt
outcomes_fit n m kept (one ∷ all) are spelled =
    let lawful = All-head IsLawful one all are.lawful in (
      told_fits kept n (ticket_in one) (row_in one) one.becomes
          (All-head (λ x. row_at kept.rows (ticket_in x) ≡ Some (row_in x)) one all are.stand)
          lawful.apart (All-head IsSpelled one all spelled) lawful.idle are.ranked.0 are.higher,
      outcomes_fit (behind_rank n (new_rank one.becomes)) m (after_move kept (told_by one)) all
          (rest_behind n m kept one all are) (All-tail IsSpelled one all spelled),
    )

-- the number behind them is above all
pub outcomes_above : (n m : ℕ) (rows : List (ℕ × Row)) (all : List Outcome)
    → AreOutcomes n m rows all → IsAboveAll m (fold rows_with rows all)
outcomes_above n m rows [] are = rw (← are.ranked) are.higher
outcomes_above n m rows (one ∷ all) are =
    outcomes_above (behind_rank n (new_rank one.becomes)) m (rows_with rows one) all
    (rest_of n m rows one all are)

-- ---- nothing is due

-- the row of a ticket is among them
abbrev pub IsAmong : ℕ → List Outcome → Type 0
IsAmong ticket [] = ⊥
IsAmong ticket (one ∷ all) = (ticket ≡ ticket_in one) ⊎ IsAmong ticket all

-- a row isn't due, or is among them
abbrev pub IsPending : ℕ → List Outcome → ℕ × Row → Type 0
IsPending moment all filed = IsLater moment (row_of filed) ⊎ IsAmong (ticket_of filed) all

less_pending : (moment : ℕ) (one : Outcome) (all : List Outcome) (filed : ℕ × Row)
    → ticket_of filed ≢ ticket_in one → IsPending moment (one ∷ all) filed → IsPending moment all filed
less_pending moment one all filed apart (inl later) = inl later
less_pending moment one all filed apart (inr (inl same)) = absurd (apart same)
less_pending moment one all filed apart (inr (inr among)) = inr among

none_pending : (moment : ℕ) (filed : ℕ × Row) → IsPending moment [] filed → IsLater moment (row_of filed)
none_pending moment filed (inl later) = later
none_pending moment filed (inr among) = absurd among

-- where each row that is due is among them, none is then
pub outcomes_later : (moment n m : ℕ) (rows : List (ℕ × Row)) (all : List Outcome) → AreOutcomes n m rows all
    → All (StaysOn moment) all → All (IsPending moment all) rows
    → All (λ filed. IsLater moment (row_of filed)) (fold rows_with rows all)
outcomes_later moment n m rows [] are on pending =
    λ k d within. none_pending moment (slice_index_or rows k d) (pending k d within)
outcomes_later moment n m rows (one ∷ all) are on pending =
    outcomes_later moment (behind_rank n (new_rank one.becomes)) m (rows_with rows one) all
    (rest_of n m rows one all are) (All-tail (StaysOn moment) one all on)
    (outcome_all (IsPending moment (one ∷ all)) (IsPending moment all) rows (ticket_in one) one.becomes
    (less_pending moment one all) pending
    (IfSome_then one.becomes (All-head (StaysOn moment) one all on) (λ row later. inl later)))

-- ---- something changes

-- a row that isn't among them stays as it is
others_stay : (rows : List (ℕ × Row)) (all : List Outcome) (ticket : ℕ) → IsByTicket rows
    → All (λ one. ticket ≢ ticket_in one) all → row_at (fold rows_with rows all) ticket ≡ row_at rows ticket
others_stay rows [] ticket by_ticket apart = refl
others_stay rows (one ∷ all) ticket by_ticket apart =
    others_stay (rows_with rows one) all ticket (outcome_by_ticket rows (ticket_in one) one.becomes by_ticket)
    (All-tail (λ x. ticket ≢ ticket_in x) one all apart)
    ∙ outcome_other rows (ticket_in one) one.becomes ticket by_ticket
    (All-head (λ x. ticket ≢ ticket_in x) one all apart)

-- what the first row has become
pub first_becomes : (n m : ℕ) (rows : List (ℕ × Row)) (one : Outcome) (all : List Outcome)
    → AreOutcomes n m rows (one ∷ all)
    → row_at (fold rows_with rows (one ∷ all)) (ticket_in one) ≡ one.becomes
first_becomes n m rows one all are =
    others_stay (rows_with rows one) all (ticket_in one)
    (outcome_by_ticket rows (ticket_in one) one.becomes are.by_ticket)
    (head_of_all (λ x y. ticket_in x ≢ ticket_in y) one all are.once)
    ∙ outcome_here rows (ticket_in one) one.becomes

-- where there are any, the rows change
pub outcomes_change : (n m : ℕ) (rows : List (ℕ × Row)) (one : Outcome) (all : List Outcome)
    → AreOutcomes n m rows (one ∷ all) → fold rows_with rows (one ∷ all) ≡ rows → ⊥
outcomes_change n m rows one all are same =
    let before = All-head (λ x. row_at rows (ticket_in x) ≡ Some (row_in x)) one all are.stand in
    (All-head IsLawful one all are.lawful).changes
    (sym (first_becomes n m rows one all are) ∙ ap (λ xs. row_at xs (ticket_in one)) same ∙ before)

-- ---- what stands under a ticket then

-- a ticket is that of one of them, and its row has become what is told of it
pub record HasBecome (P : Outcome → Type 0) (after : List (ℕ × Row)) (ticket : ℕ) : Type 0 where
  pub one : Outcome
  pub is : P one
  pub here : ticket ≡ ticket_in one
  pub became : row_at after ticket ≡ one.becomes

either_ticket : (a b : ℕ) → (a ≡ b) ⊎ (a ≢ b)
either_ticket a b = grind (arith, nat_tests)

-- each row stays as it is, or is that of one of them
pub outcomes_at : (P : Outcome → Type 0) (n m : ℕ) (rows : List (ℕ × Row)) (all : List Outcome) (ticket : ℕ)
    → AreOutcomes n m rows all → All P all
    → (row_at (fold rows_with rows all) ticket ≡ row_at rows ticket)
    ⊎ HasBecome P (fold rows_with rows all) ticket
outcomes_at P n m rows [] ticket are each = inl refl
outcomes_at P n m rows (one ∷ all) ticket are each =
    let rest = outcomes_at P (behind_rank n (new_rank one.becomes)) m (rows_with rows one) all ticket
    (rest_of n m rows one all are) (All-tail P one all each) in
    elim (either_ticket ticket (ticket_in one)) [
      | inl same ↦ inr (record {
        one = one;
        is = All-head P one all each;
        here = same;
        became = rw same (first_becomes n m rows one all are);
      })
      | inr other ↦ elim rest [
        | inl stays ↦ inl (stays ∙ outcome_other rows (ticket_in one) one.becomes ticket are.by_ticket other)
        | inr became ↦ inr became
      ]
    ]

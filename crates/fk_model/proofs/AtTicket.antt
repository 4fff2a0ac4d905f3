-- What stands under a ticket once rows have become others or have left, one behind the other, whichever they are.
use Rattle.std.proofs.Common.{◌≡◌, ◌≢◌, ◌⊎◌, ◌∙◌, sym, refl, subst, ℕ, List, [], ◌∷◌, Bool, true, false, inl, inr, arith}
use Rattle.std.specs.Prelude.{All, Option, None, Some, fold, ◌==◌}
use Rattle.std.proofs.lemmas.Bool.Decides.{nat_tests}
use Rattle.std.proofs.lemmas.Option.{same_Some}
use Rattle.std.proofs.lemmas.List.Elements.{All-nil, All-cons, All-head, All-tail}
use Rattle.fk_model.specs.declared.row.Row.{Row}
use Rattle.fk_model.specs.Rows.{ticket_of, IsByTicket, row_at}
use Rattle.fk_model.specs.Failing.{with_outcome}
use Rattle.fk_model.proofs.Filed.{same_filed}
use Rattle.fk_model.proofs.Outcomes.{Outcome, ticket_in, row_in, rows_with, outcome_by_ticket, outcome_here, outcome_other}

-- ---- one row

pub one_or_other : (a b : ℕ) (test : Bool) → (a == b) ≡ test → (a ≡ b) ⊎ (a ≢ b)
one_or_other a b true e = inl (grind (arith, nat_tests, e))
one_or_other a b false e = inr (λ same. absurd (grind (arith, nat_tests, e, same)))

-- what holds of what becomes of it, and of another row that stays, holds of what stands under a ticket
pub at_one : (P : Bool → Option Row → Type 0) (rows : List (ℕ × Row)) (filed : ℕ × Row) (becomes : Option Row)
    (ticket : ℕ) (row : Row) (test : Bool) → (ticket_of filed == ticket) ≡ test → IsByTicket rows
    → row_at rows ticket ≡ Some row → (ticket_of filed ≡ ticket → P true becomes) → P false (Some row)
    → P test (row_at (with_outcome rows (ticket_of filed) becomes) ticket)
at_one P rows filed becomes ticket row true e by_ticket at here other =
    let same : ticket_of filed ≡ ticket = grind (arith, nat_tests, e) in
    let there : row_at (with_outcome rows (ticket_of filed) becomes) ticket ≡ becomes =
    rw (← same) (outcome_here rows (ticket_of filed) becomes) in
    rw there (here same)
at_one P rows filed becomes ticket row false e by_ticket at here other =
    let apart : ticket ≢ ticket_of filed = λ same. absurd (grind (arith, nat_tests, e, same)) in
    rw (outcome_other rows (ticket_of filed) becomes ticket by_ticket apart, at) other

-- ---- one behind the other

-- the last of those of a ticket, with what holds of it
pub record IsLast (R : Outcome → Type 0) (after : List (ℕ × Row)) (ticket : ℕ) : Type 0 where
  pub one : Outcome
  pub holds : R one
  pub here : ticket_in one ≡ ticket
  pub stands : row_at after ticket ≡ one.becomes

-- none of them is of the ticket
pub record AreApart (all : List Outcome) (rows after : List (ℕ × Row)) (ticket : ℕ) : Type 0 where
  pub apart : All (λ one. ticket_in one ≢ ticket) all
  pub stays : row_at after ticket ≡ row_at rows ticket

one_more : (R : Outcome → Type 0) (rows : List (ℕ × Row)) (one : Outcome) (all : List Outcome)
    (after : List (ℕ × Row)) (ticket : ℕ) → IsByTicket rows → R one
    → IsLast R after ticket ⊎ AreApart all (rows_with rows one) after ticket
    → (ticket_in one ≡ ticket) ⊎ (ticket_in one ≢ ticket)
    → IsLast R after ticket ⊎ AreApart (one ∷ all) rows after ticket
one_more R rows one all after ticket by_ticket holds (inl last) way = inl last
one_more R rows one all after ticket by_ticket holds (inr rest) (inl here) =
    let there : row_at (rows_with rows one) ticket ≡ one.becomes =
    rw (← here) (outcome_here rows (ticket_in one) one.becomes) in
    inl (record { one = one; holds = holds; here = here; stands = rest.stays ∙ there })
one_more R rows one all after ticket by_ticket holds (inr rest) (inr apart) = inr (record {
  apart = All-cons (λ x. ticket_in x ≢ ticket) one all apart rest.apart;
  stays = rest.stays
      ∙ outcome_other rows (ticket_in one) one.becomes ticket by_ticket (λ same. apart (sym same));
})

-- what has become of a ticket is what the last of them says, or none is of it
pub last_or_apart : (R : Outcome → Type 0) (rows : List (ℕ × Row)) (all : List Outcome) (ticket : ℕ)
    → IsByTicket rows → All R all
    → IsLast R (fold rows_with rows all) ticket ⊎ AreApart all rows (fold rows_with rows all) ticket
last_or_apart R rows [] ticket by_ticket each =
    inr (record { apart = All-nil (λ x. ticket_in x ≢ ticket); stays = refl })
last_or_apart R rows (one ∷ all) ticket by_ticket each =
    one_more R rows one all (fold rows_with (rows_with rows one) all) ticket by_ticket (All-head R one all each)
    (last_or_apart R (rows_with rows one) all ticket
    (outcome_by_ticket rows (ticket_in one) one.becomes by_ticket) (All-tail R one all each))
    (one_or_other (ticket_in one) ticket (ticket_in one == ticket) refl)

-- ---- under a ticket

-- each of them is of a row that stands there
abbrev pub AllStand : List (ℕ × Row) → List Outcome → Type 0
AllStand rows all = All (λ one. row_at rows (ticket_in one) ≡ Some (row_in one)) all

-- it is, and something holds of it
record HoldsThere (P : ℕ × Row → Option Row → Type 0) (rows : List (ℕ × Row)) (one : Outcome) : Type 0 where
  pub stands : row_at rows (ticket_in one) ≡ Some (row_in one)
  pub holds : P one.filed one.becomes

there_holds : (P : ℕ × Row → Option Row → Type 0) (rows after : List (ℕ × Row)) (all : List Outcome) (ticket : ℕ)
    (row : Row) → row_at rows ticket ≡ Some row
    → (All (λ one. ticket_in one ≢ ticket) all → P (ticket, row) (Some row))
    → IsLast (HoldsThere P rows) after ticket ⊎ AreApart all rows after ticket
    → P (ticket, row) (row_at after ticket)
there_holds P rows after all ticket row at other (inl last) =
    let here : row_at rows (ticket_in last.one) ≡ Some row = rw last.here at in
    let same : row_in last.one ≡ row =
    same_Some (row_in last.one) row (sym last.holds.stands ∙ here) in
    rw last.stands
    (subst (λ filed. P filed last.one.becomes) (same_filed last.one.filed ticket row last.here same)
    last.holds.holds)
there_holds P rows after all ticket row at other (inr rest) = rw (rest.stays, at) (other rest.apart)

-- what holds of each of them, and of a row that is none of them, holds of a row and what has become of it
pub at_ticket : (P : ℕ × Row → Option Row → Type 0) (rows : List (ℕ × Row)) (all : List Outcome) (ticket : ℕ)
    (row : Row) → IsByTicket rows → AllStand rows all → row_at rows ticket ≡ Some row
    → All (λ one. P one.filed one.becomes) all
    → (All (λ one. ticket_in one ≢ ticket) all → P (ticket, row) (Some row))
    → P (ticket, row) (row_at (fold rows_with rows all) ticket)
at_ticket P rows all ticket row by_ticket stand at each other =
    there_holds P rows (fold rows_with rows all) all ticket row at other
    (last_or_apart (HoldsThere P rows) rows all ticket by_ticket
    (λ k d within. record { stands = stand k d within; holds = each k d within }))

none_there : (rows after : List (ℕ × Row)) (all : List Outcome) (ticket : ℕ) → row_at rows ticket ≡ None
    → IsLast (λ one. row_at rows (ticket_in one) ≡ Some (row_in one)) after ticket ⊎ AreApart all rows after ticket
    → row_at after ticket ≡ None
none_there rows after all ticket at (inl last) =
    let here : row_at rows (ticket_in last.one) ≡ None = rw last.here at in
    let there = last.holds in
    absurd (cc)
none_there rows after all ticket at (inr rest) = rest.stays ∙ at

-- where no row stood, none stands then
pub at_none : (rows : List (ℕ × Row)) (all : List Outcome) (ticket : ℕ) → IsByTicket rows → AllStand rows all
    → row_at rows ticket ≡ None → row_at (fold rows_with rows all) ticket ≡ None
at_none rows all ticket by_ticket stand at =
    none_there rows (fold rows_with rows all) all ticket at
    (last_or_apart (λ one. row_at rows (ticket_in one) ≡ Some (row_in one)) rows all ticket by_ticket stand)

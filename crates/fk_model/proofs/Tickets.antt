-- Rows stay in order of ticket, and what holds of each row holds of each, as rows come and go.
use Rattle.std.proofs.Common.{◌≡◌, ◌∙◌, sym, ap, refl, subst, ℕ, ◌<◌, List, [], ◌∷◌, ◌++◌, Bool, true, false, not, map, arith}
use Rattle.std.specs.Prelude.{All, if◌then◌else◌, None, Some, option_map, nat_lt, ◌==◌}
use Rattle.std.proofs.lemmas.Bool.Decides.{nat_tests}
use Rattle.std.proofs.lemmas.List.Elements.{All-cons, All-append, All-filter, All-weaker}
use Rattle.std.proofs.lemmas.List.Kept.{AllPairs-cons, AllPairs-filter}
use Rattle.std.specs.List.Sorted.{IsStrictlyIncreasing}
use Rattle.fk_model.specs.declared.row.Row.{Row}
use Rattle.fk_model.specs.Rows.{ticket_of, row_of, IsByTicket, row_at, with_row, with_changed, without_row}
use Rattle.fk_model.proofs.Sieves.{filter_all, filter_none}
use Rattle.fk_model.proofs.Sorting.{joined}
use Rattle.fk_model.proofs.Cuts.{IsLower, lower_pairs, by_lower_pairs, below, above, is_lower, not_lower, is_other}
use Rattle.fk_model.proofs.Filed.{below_are, above_are, changed_at}
use Rattle.fk_model.proofs.Lookups.{filed_from_row}
use Rattle.fk_model.proofs.Finding.{find_holds, find_none}

-- ---- the order

pub by_ticket_with : (rows : List (ℕ × Row)) (ticket : ℕ) (row : Row)
    → IsByTicket rows → IsByTicket (with_row rows ticket row)
by_ticket_with rows ticket row by_ticket =
    let all = lower_pairs rows by_ticket in
    by_lower_pairs (with_row rows ticket row)
    (joined IsLower (below ticket rows) ((ticket, row) ∷ above ticket rows)
    (AllPairs-filter IsLower (λ x. nat_lt (ticket_of x) ticket) rows all)
    (AllPairs-cons IsLower (ticket, row) (above ticket rows) (above_are ticket rows)
    (AllPairs-filter IsLower (λ x. nat_lt ticket (ticket_of x)) rows all))
    (All-weaker (λ x. ticket_of x < ticket) (λ x. All (IsLower x) ((ticket, row) ∷ above ticket rows))
    (λ x lower. All-cons (IsLower x) (ticket, row) (above ticket rows) lower
    (All-weaker (λ y. ticket < ticket_of y) (IsLower x) (λ y higher. omega arith)
    (above ticket rows) (above_are ticket rows)))
    (below ticket rows) (below_are ticket rows)))

pub by_ticket_without : (rows : List (ℕ × Row)) (ticket : ℕ)
    → IsByTicket rows → IsByTicket (without_row rows ticket)
by_ticket_without rows ticket by_ticket =
    by_lower_pairs (without_row rows ticket)
    (AllPairs-filter IsLower (λ x. not (ticket_of x == ticket)) rows (lower_pairs rows by_ticket))

same_ticket : (filed : ℕ × Row) (ticket : ℕ) (change : Row → Row) (test : Bool)
    → (ticket_of filed == ticket) ≡ test
    → ticket_of (if test then (ticket, change (row_of filed)) else filed) ≡ ticket_of filed
same_ticket filed ticket change true e = grind (arith, nat_tests, e)
same_ticket filed ticket change false e = refl

-- a change leaves the tickets
pub tickets_changed : (rows : List (ℕ × Row)) (ticket : ℕ) (change : Row → Row)
    → map ticket_of (with_changed rows ticket change) ≡ map ticket_of rows
tickets_changed [] ticket change = refl
tickets_changed (filed ∷ rows) ticket change =
    rw (
      same_ticket filed ticket change (ticket_of filed == ticket) refl,
      tickets_changed rows ticket change,
    ) refl

pub by_ticket_changed : (rows : List (ℕ × Row)) (ticket : ℕ) (change : Row → Row)
    → IsByTicket rows → IsByTicket (with_changed rows ticket change)
by_ticket_changed rows ticket change by_ticket =
    subst IsStrictlyIncreasing (sym (tickets_changed rows ticket change)) by_ticket

-- ---- what holds of each row

pub all_with : (P : ℕ × Row → Type 0) (rows : List (ℕ × Row)) (ticket : ℕ) (row : Row)
    → All P rows → P (ticket, row) → All P (with_row rows ticket row)
all_with P rows ticket row each new =
    All-append P (below ticket rows) ((ticket, row) ∷ above ticket rows)
    (All-filter (λ x. nat_lt (ticket_of x) ticket) P rows each)
    (All-cons P (ticket, row) (above ticket rows) new
    (All-filter (λ x. nat_lt ticket (ticket_of x)) P rows each))

pub all_without : (P : ℕ × Row → Type 0) (rows : List (ℕ × Row)) (ticket : ℕ)
    → All P rows → All P (without_row rows ticket)
all_without P rows ticket each = All-filter (λ x. not (ticket_of x == ticket)) P rows each

pub all_changed : (P : ℕ × Row → Type 0) (rows : List (ℕ × Row)) (ticket : ℕ) (change : Row → Row)
    → (row : Row) → IsByTicket rows → row_at rows ticket ≡ Some row
    → All P rows → P (ticket, change row) → All P (with_changed rows ticket change)
all_changed P rows ticket change row by_ticket at each new =
    rw (changed_at rows ticket change row by_ticket at)
    (all_with P rows ticket (change row) each new)

-- ---- above all tickets

-- a row under a ticket above all others comes last
pub with_row_last : (rows : List (ℕ × Row)) (ticket : ℕ) (row : Row)
    → All (λ x. ticket_of x < ticket) rows → with_row rows ticket row ≡ rows ++ (ticket, row) ∷ []
with_row_last rows ticket row lower =
    rw (
      filter_all (λ x. nat_lt (ticket_of x) ticket) rows
          (All-weaker (λ x. ticket_of x < ticket) (λ x. nat_lt (ticket_of x) ticket ≡ true)
          (λ x first. is_lower (ticket_of x) ticket first) rows lower),
      filter_none (λ x. nat_lt ticket (ticket_of x)) rows
          (All-weaker (λ x. ticket_of x < ticket) (λ x. nat_lt ticket (ticket_of x) ≡ false)
          (λ x first. not_lower ticket (ticket_of x) (omega arith)) rows lower),
    ) refl

-- nothing stands under a ticket above all others
pub none_above : (rows : List (ℕ × Row)) (ticket : ℕ)
    → All (λ x. ticket_of x < ticket) rows → row_at rows ticket ≡ None
none_above rows ticket lower =
    ap (option_map row_of)
    (find_none (λ x. ticket_of x == ticket) rows
    (All-weaker (λ x. ticket_of x < ticket) (λ x. (ticket_of x == ticket) ≡ false)
    (λ x first. is_other (ticket_of x) ticket (omega arith)) rows lower))

-- what holds of each row holds of the one under a ticket
pub row_holds : (P : ℕ × Row → Type 0) (rows : List (ℕ × Row)) (ticket : ℕ) (row : Row)
    → All P rows → row_at rows ticket ≡ Some row → P (ticket, row)
row_holds P rows ticket row each at =
    find_holds P (λ x. ticket_of x == ticket) rows (ticket, row) each
    (filed_from_row rows ticket ∙ ap (option_map (λ x. (ticket, x))) at)

-- What stands under a ticket once one row was put, changed or taken away.
use Rattle.std.proofs.Common.{◌≡◌, ◌≢◌, ◌∙◌, sym, ap, refl, ℕ, ◌<◌, List, ◌∷◌, true, false, not, arith}
use Rattle.std.specs.Prelude.{Option, None, Some, option_map, ◌==◌}
use Rattle.std.proofs.lemmas.Bool.Decides.{nat_tests}
use Rattle.std.proofs.lemmas.List.Elements.{All-weaker, filter_passes}
use Rattle.fk_model.specs.declared.row.Row.{Row}
use Rattle.fk_model.specs.Rows.{ticket_of, row_of, IsByTicket, filed_at, row_at, with_row, with_changed, without_row}
use Rattle.fk_model.proofs.Cuts.{below, above, is_same, is_other}
use Rattle.fk_model.proofs.Filed.{below_are, same_filed, without_parts, changed_at, changed_none}
use Rattle.fk_model.proofs.Finding.{find_behind, find_none, find_past, find_filter, find_passes}

-- ---- at the ticket

-- the row of a ticket stands under that ticket
pub filed_from_row : (rows : List (ℕ × Row)) (ticket : ℕ)
    → filed_at rows ticket ≡ option_map (λ row. (ticket, row)) (row_at rows ticket)
filed_from_row rows ticket = one_found rows ticket (filed_at rows ticket) refl
  where
    one_found : (rows : List (ℕ × Row)) (ticket : ℕ) (found : Option (ℕ × Row))
        → filed_at rows ticket ≡ found → found ≡ option_map (λ row. (ticket, row)) (option_map row_of found)
    one_found rows ticket None at = refl
    one_found rows ticket (Some filed) at =
        let passes : (ticket_of filed == ticket) ≡ true =
        find_passes (λ x. ticket_of x == ticket) rows filed at in
        let same : ticket_of filed ≡ ticket = grind (arith, nat_tests, passes) in
        ap Some (same_filed filed ticket (row_of filed) same refl)

-- where the same row stands, the same is found
pub filed_by_row : (rows others : List (ℕ × Row)) (ticket : ℕ) → row_at rows ticket ≡ row_at others ticket
    → filed_at rows ticket ≡ filed_at others ticket
filed_by_row rows others ticket same =
    filed_from_row rows ticket ∙ ap (option_map (λ row. (ticket, row))) same
    ∙ sym (filed_from_row others ticket)

-- the row that is put is the one that stands there
pub row_at_with : (rows : List (ℕ × Row)) (ticket : ℕ) (row : Row)
    → row_at (with_row rows ticket row) ticket ≡ Some row
row_at_with rows ticket row =
    ap (option_map row_of)
    (find_behind (λ x. ticket_of x == ticket) (below ticket rows) ((ticket, row) ∷ above ticket rows)
    (All-weaker (λ x. ticket_of x < ticket) (λ x. (ticket_of x == ticket) ≡ false)
    (λ x lower. grind (arith, nat_tests, lower)) (below ticket rows) (below_are ticket rows)))
    ∙ rw (is_same ticket ticket refl) refl

-- where a row was taken away, none stands
pub row_at_without : (rows : List (ℕ × Row)) (ticket : ℕ)
    → row_at (without_row rows ticket) ticket ≡ None
row_at_without rows ticket =
    ap (option_map row_of)
    (find_none (λ x. ticket_of x == ticket) (without_row rows ticket)
    (All-weaker (λ x. not (ticket_of x == ticket) ≡ true) (λ x. (ticket_of x == ticket) ≡ false)
    (λ x other. grind (arith, nat_tests, other)) (without_row rows ticket)
    (filter_passes (λ x. not (ticket_of x == ticket)) rows)))

at_changed : (rows : List (ℕ × Row)) (ticket : ℕ) (change : Row → Row) (found : Option Row)
    → IsByTicket rows → row_at rows ticket ≡ found
    → row_at (with_changed rows ticket change) ticket ≡ option_map change found
at_changed rows ticket change None by_ticket at =
    rw (changed_none rows ticket change by_ticket at) at
at_changed rows ticket change (Some row) by_ticket at =
    rw (changed_at rows ticket change row by_ticket at) (row_at_with rows ticket (change row))

-- a row that is changed stands there as it is then
pub row_at_changed : (rows : List (ℕ × Row)) (ticket : ℕ) (change : Row → Row) → IsByTicket rows
    → row_at (with_changed rows ticket change) ticket ≡ option_map change (row_at rows ticket)
row_at_changed rows ticket change by_ticket =
    at_changed rows ticket change (row_at rows ticket) by_ticket refl

-- ---- at another ticket

other_kept : (ticket other number : ℕ) → other ≢ ticket → (number == other) ≡ true
    → not (number == ticket) ≡ true
other_kept ticket other number apart same = grind (arith, nat_tests, apart, same)

pub row_at_without_other : (rows : List (ℕ × Row)) (ticket other : ℕ) → other ≢ ticket
    → row_at (without_row rows ticket) other ≡ row_at rows other
row_at_without_other rows ticket other apart =
    ap (option_map row_of)
    (find_filter (λ x. ticket_of x == other) (λ x. not (ticket_of x == ticket))
    (λ x. other_kept ticket other (ticket_of x) apart) rows)

pub row_at_with_other : (rows : List (ℕ × Row)) (ticket : ℕ) (row : Row) (other : ℕ)
    → IsByTicket rows → other ≢ ticket
    → row_at (with_row rows ticket row) other ≡ row_at rows other
row_at_with_other rows ticket row other by_ticket apart =
    let differ : ticket ≢ other = λ same. apart (sym same) in
    ap (option_map row_of)
    (find_past (λ x. ticket_of x == other) (below ticket rows) (above ticket rows) (ticket, row)
    (is_other ticket other differ))
    ∙ ap (λ xs. row_at xs other) (sym (without_parts rows ticket by_ticket))
    ∙ row_at_without_other rows ticket other apart

other_changed : (rows : List (ℕ × Row)) (ticket : ℕ) (change : Row → Row) (other : ℕ)
    (found : Option Row) → IsByTicket rows → other ≢ ticket → row_at rows ticket ≡ found
    → row_at (with_changed rows ticket change) other ≡ row_at rows other
other_changed rows ticket change other None by_ticket apart at =
    rw (changed_none rows ticket change by_ticket at) refl
other_changed rows ticket change other (Some row) by_ticket apart at =
    rw (changed_at rows ticket change row by_ticket at)
    (row_at_with_other rows ticket (change row) other by_ticket apart)

pub row_at_changed_other : (rows : List (ℕ × Row)) (ticket : ℕ) (change : Row → Row) (other : ℕ)
    → IsByTicket rows → other ≢ ticket
    → row_at (with_changed rows ticket change) other ≡ row_at rows other
row_at_changed_other rows ticket change other by_ticket apart =
    other_changed rows ticket change other (row_at rows ticket) by_ticket apart refl

-- Rows in order of ticket with one more of them, with one changed, and without one.
use Rattle.std.proofs.Common.{◌≡◌, ◌≢◌, ◌∙◌, sym, ap, refl, ℕ, ◌<◌, List, [], ◌∷◌, ◌++◌, true, not, map, arith}
use Rattle.std.specs.Prelude.{All, if◌then◌else◌, Option, None, Some, option_map, nat_lt, ◌==◌}
use Rattle.std.proofs.lemmas.Bool.Decides.{nat_tests}
use Rattle.std.proofs.lemmas.List.{map-append}
use Rattle.std.proofs.lemmas.List.Elements.{All-head, All-tail, All-weaker, filter-append, filter_passes}
use Rattle.fk_model.specs.declared.row.Row.{Row}
use Rattle.fk_model.specs.Rows.{ticket_of, row_of, IsByTicket, filed_at, row_at, with_row, with_changed, without_row}
use Rattle.fk_model.proofs.Sieves.{filter_past, filter_within}
use Rattle.fk_model.proofs.Cuts.{lower_pairs, below, above, is_same, is_other, IsCut, cut}

-- ---- the parts at a ticket

pub below_are : (ticket : ℕ) (rows : List (ℕ × Row)) → All (λ x. ticket_of x < ticket) (below ticket rows)
below_are ticket rows =
    All-weaker (λ x. nat_lt (ticket_of x) ticket ≡ true) (λ x. ticket_of x < ticket)
    (λ x lower. grind (arith, nat_tests, lower)) (below ticket rows)
    (filter_passes (λ x. nat_lt (ticket_of x) ticket) rows)

pub above_are : (ticket : ℕ) (rows : List (ℕ × Row)) → All (λ x. ticket < ticket_of x) (above ticket rows)
above_are ticket rows =
    All-weaker (λ x. nat_lt ticket (ticket_of x) ≡ true) (λ x. ticket < ticket_of x)
    (λ x higher. grind (arith, nat_tests, higher)) (above ticket rows)
    (filter_passes (λ x. nat_lt ticket (ticket_of x)) rows)

keeps_below : (ticket number : ℕ) → nat_lt number ticket ≡ true → not (number == ticket) ≡ true
keeps_below ticket number lower = grind (arith, nat_tests, lower)

keeps_above : (ticket number : ℕ) → nat_lt ticket number ≡ true → not (number == ticket) ≡ true
keeps_above ticket number higher = grind (arith, nat_tests, higher)

-- ---- without a row

without_below : (rows : List (ℕ × Row)) (ticket : ℕ)
    → without_row (below ticket rows) ticket ≡ below ticket rows
without_below rows ticket =
    filter_within (λ x. not (ticket_of x == ticket)) (λ x. nat_lt (ticket_of x) ticket)
    (λ x. keeps_below ticket (ticket_of x)) rows

without_above : (rows : List (ℕ × Row)) (ticket : ℕ)
    → without_row (above ticket rows) ticket ≡ above ticket rows
without_above rows ticket =
    filter_within (λ x. not (ticket_of x == ticket)) (λ x. nat_lt ticket (ticket_of x))
    (λ x. keeps_above ticket (ticket_of x)) rows

without_cut : (rows : List (ℕ × Row)) (ticket : ℕ) (found : Option (ℕ × Row))
    → IsCut ticket rows found → without_row rows ticket ≡ below ticket rows ++ above ticket rows
without_cut rows ticket None cut_there =
    ap (λ xs. without_row xs ticket) (sym cut_there)
    ∙ filter-append (λ x. not (ticket_of x == ticket)) (below ticket rows) (above ticket rows)
    ∙ rw (without_below rows ticket, without_above rows ticket) refl
without_cut rows ticket (Some filed) cut_there =
    ap (λ xs. without_row xs ticket) (sym cut_there.0)
    ∙ filter_past (λ x. not (ticket_of x == ticket)) (below ticket rows) (above ticket rows) filed
    (ap not (is_same (ticket_of filed) ticket cut_there.1))
    ∙ rw (without_below rows ticket, without_above rows ticket) refl

-- what is left without a ticket is what stands below it and above it
pub without_parts : (rows : List (ℕ × Row)) (ticket : ℕ) → IsByTicket rows
    → without_row rows ticket ≡ below ticket rows ++ above ticket rows
without_parts rows ticket by_ticket =
    without_cut rows ticket (filed_at rows ticket) (cut ticket rows (lower_pairs rows by_ticket))

-- ---- where a row stands, and where none does

pub same_filed : (filed : ℕ × Row) (ticket : ℕ) (row : Row)
    → ticket_of filed ≡ ticket → row_of filed ≡ row → filed ≡ (ticket, row)
same_filed filed ticket row one other = rw (← one, ← other) refl

standing_found : (rows : List (ℕ × Row)) (ticket : ℕ) (row : Row) (found : Option (ℕ × Row))
    → IsCut ticket rows found → option_map row_of found ≡ Some row
    → below ticket rows ++ (ticket, row) ∷ above ticket rows ≡ rows
standing_found rows ticket row None cut_there at = absurd (cc)
standing_found rows ticket row (Some filed) cut_there at =
    let same : row_of filed ≡ row = cc in
    rw (← same_filed filed ticket row cut_there.1 same) cut_there.0

-- with the row that stands there, the rows are as they are
pub standing : (rows : List (ℕ × Row)) (ticket : ℕ) (row : Row) → IsByTicket rows
    → row_at rows ticket ≡ Some row → with_row rows ticket row ≡ rows
standing rows ticket row by_ticket at =
    standing_found rows ticket row (filed_at rows ticket) (cut ticket rows (lower_pairs rows by_ticket))
    at

absent_found : (rows : List (ℕ × Row)) (ticket : ℕ) (found : Option (ℕ × Row))
    → IsCut ticket rows found → option_map row_of found ≡ None
    → below ticket rows ++ above ticket rows ≡ rows
absent_found rows ticket None cut_there at = cut_there
absent_found rows ticket (Some filed) cut_there at = absurd (cc)

-- without a ticket that has no row, the rows are as they are
pub without_none : (rows : List (ℕ × Row)) (ticket : ℕ) → IsByTicket rows
    → row_at rows ticket ≡ None → without_row rows ticket ≡ rows
without_none rows ticket by_ticket none =
    without_parts rows ticket by_ticket
    ∙ absent_found rows ticket (filed_at rows ticket) (cut ticket rows (lower_pairs rows by_ticket)) none

-- ---- with a row changed

map_same : {X : Type 0} (f : X → X) (xs : List X) → All (λ x. f x ≡ x) xs → map f xs ≡ xs
map_same f [] each = refl
map_same f (x ∷ xs) each =
    rw (All-head (λ y. f y ≡ y) x xs each, map_same f xs (All-tail (λ y. f y ≡ y) x xs each)) refl

changed_elsewhere : (rows : List (ℕ × Row)) (ticket : ℕ) (change : Row → Row)
    → All (λ x. ticket_of x ≢ ticket) rows → with_changed rows ticket change ≡ rows
changed_elsewhere rows ticket change apart =
    map_same (λ x. if ticket_of x == ticket then (ticket, change (row_of x)) else x) rows
    (All-weaker (λ x. ticket_of x ≢ ticket)
    (λ x. ◌≡◌ {A = ℕ × Row} (if ticket_of x == ticket then (ticket, change (row_of x)) else x) x)
    (λ x other. rw (is_other (ticket_of x) ticket other) refl) rows apart)

changed_below : (rows : List (ℕ × Row)) (ticket : ℕ) (change : Row → Row)
    → with_changed (below ticket rows) ticket change ≡ below ticket rows
changed_below rows ticket change =
    changed_elsewhere (below ticket rows) ticket change
    (All-weaker (λ x. ticket_of x < ticket) (λ x. ticket_of x ≢ ticket)
    (λ x lower same. omega arith) (below ticket rows) (below_are ticket rows))

changed_above : (rows : List (ℕ × Row)) (ticket : ℕ) (change : Row → Row)
    → with_changed (above ticket rows) ticket change ≡ above ticket rows
changed_above rows ticket change =
    changed_elsewhere (above ticket rows) ticket change
    (All-weaker (λ x. ticket < ticket_of x) (λ x. ticket_of x ≢ ticket)
    (λ x higher same. omega arith) (above ticket rows) (above_are ticket rows))

-- a row that stands there is changed in its place
pub changed_at : (rows : List (ℕ × Row)) (ticket : ℕ) (change : Row → Row) (row : Row)
    → IsByTicket rows → row_at rows ticket ≡ Some row
    → with_changed rows ticket change ≡ with_row rows ticket (change row)
changed_at rows ticket change row by_ticket at =
    ap (λ xs. with_changed xs ticket change) (sym (standing rows ticket row by_ticket at))
    ∙ map-append (λ x. if ticket_of x == ticket then (ticket, change (row_of x)) else x)
    (below ticket rows) ((ticket, row) ∷ above ticket rows)
    ∙ rw (
      changed_below rows ticket change,
      changed_above rows ticket change,
      is_same ticket ticket refl,
    ) refl

-- where none stands, nothing is changed
pub changed_none : (rows : List (ℕ × Row)) (ticket : ℕ) (change : Row → Row)
    → IsByTicket rows → row_at rows ticket ≡ None → with_changed rows ticket change ≡ rows
changed_none rows ticket change by_ticket none =
    let parts = absent_found rows ticket (filed_at rows ticket)
    (cut ticket rows (lower_pairs rows by_ticket)) none in
    ap (λ xs. with_changed xs ticket change) (sym parts)
    ∙ map-append (λ x. if ticket_of x == ticket then (ticket, change (row_of x)) else x)
    (below ticket rows) (above ticket rows)
    ∙ rw (changed_below rows ticket change, changed_above rows ticket change) parts

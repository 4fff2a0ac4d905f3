-- The numbers of rows, with their tickets, in order: what they are as rows come and go. A queue is such
-- a list by rank, and a set by moment is one by moment.
use Rattle.std.proofs.Common.{◌≡◌, ◌∙◌, sym, ap, refl, ℕ, List, ◌∷◌, ◌++◌}
use Rattle.std.specs.Prelude.{Option, None, Some, filter_map}
use Rattle.std.proofs.lemmas.List.Elements.{filter_map-append}
use Rattle.fk_model.specs.declared.row.Row.{Row}
use Rattle.fk_model.specs.Rows.{IsByTicket, row_at, with_row, with_changed, without_row}
use Rattle.fk_json.specs.PairOrder.{with_pair}
use Rattle.fk_model.specs.Orders.{in_order, with_ticket}
use Rattle.fk_model.proofs.Insertion.{sorted_around}
use Rattle.fk_model.proofs.Cuts.{below, above}
use Rattle.fk_model.proofs.Filed.{without_parts, without_none, standing, changed_at}

-- a number of rows, with their tickets, in order
abbrev pub numbered : (Row → Option ℕ) → List (ℕ × Row) → List (ℕ × ℕ)
numbered number rows = in_order (filter_map (with_ticket number) rows)

-- pairs, and among them that of a row with this number, if it has one
abbrev pub gained : Option ℕ → ℕ → List (ℕ × ℕ) → List (ℕ × ℕ)
gained None ticket pairs = pairs
gained (Some number) ticket pairs = with_pair (number, ticket) pairs

-- ---- a row that is put

one_more : (number : Row → Option ℕ) (front back : List (ℕ × Row)) (ticket : ℕ) (row : Row)
    (found : Option ℕ) → number row ≡ found
    → numbered number (front ++ (ticket, row) ∷ back) ≡ gained found ticket (numbered number (front ++ back))
one_more number front back ticket row None e =
    ap in_order (filter_map-append (with_ticket number) front ((ticket, row) ∷ back)
    ∙ rw e (sym (filter_map-append (with_ticket number) front back)))
one_more number front back ticket row (Some n) e =
    ap in_order (filter_map-append (with_ticket number) front ((ticket, row) ∷ back) ∙ rw e refl)
    ∙ sorted_around (filter_map (with_ticket number) front) (filter_map (with_ticket number) back) (n, ticket)
    ∙ ap (λ xs. with_pair (n, ticket) (in_order xs)) (sym (filter_map-append (with_ticket number) front back))

-- a row is put under a ticket: its number is one more among those of the other rows
pub numbered_with : (number : Row → Option ℕ) (rows : List (ℕ × Row)) (ticket : ℕ) (row : Row)
    → IsByTicket rows
    → numbered number (with_row rows ticket row)
    ≡ gained (number row) ticket (numbered number (without_row rows ticket))
numbered_with number rows ticket row by_ticket =
    one_more number (below ticket rows) (above ticket rows) ticket row (number row) refl
    ∙ ap (λ xs. gained (number row) ticket (numbered number xs))
    (sym (without_parts rows ticket by_ticket))

-- a new row: its number is one more
pub numbered_new : (number : Row → Option ℕ) (rows : List (ℕ × Row)) (ticket : ℕ) (row : Row)
    → IsByTicket rows → row_at rows ticket ≡ None
    → numbered number (with_row rows ticket row) ≡ gained (number row) ticket (numbered number rows)
numbered_new number rows ticket row by_ticket none =
    numbered_with number rows ticket row by_ticket
    ∙ ap (λ xs. gained (number row) ticket (numbered number xs)) (without_none rows ticket by_ticket none)

-- a row that stands under its ticket: its number is one of them
pub numbered_standing : (number : Row → Option ℕ) (rows : List (ℕ × Row)) (ticket : ℕ) (row : Row)
    → IsByTicket rows → row_at rows ticket ≡ Some row
    → numbered number rows ≡ gained (number row) ticket (numbered number (without_row rows ticket))
numbered_standing number rows ticket row by_ticket at =
    ap (numbered number) (sym (standing rows ticket row by_ticket at))
    ∙ numbered_with number rows ticket row by_ticket

-- ---- a row that is changed

pub numbered_changed : (number : Row → Option ℕ) (rows : List (ℕ × Row)) (ticket : ℕ)
    (change : Row → Row) (row : Row) → IsByTicket rows → row_at rows ticket ≡ Some row
    → numbered number (with_changed rows ticket change)
    ≡ gained (number (change row)) ticket (numbered number (without_row rows ticket))
numbered_changed number rows ticket change row by_ticket at =
    ap (numbered number) (changed_at rows ticket change row by_ticket at)
    ∙ numbered_with number rows ticket (change row) by_ticket

-- a row whose number stays changes none of them
pub numbered_stays : (number : Row → Option ℕ) (rows : List (ℕ × Row)) (ticket : ℕ)
    (change : Row → Row) (row : Row) → IsByTicket rows → row_at rows ticket ≡ Some row
    → number (change row) ≡ number row
    → numbered number (with_changed rows ticket change) ≡ numbered number rows
numbered_stays number rows ticket change row by_ticket at same =
    numbered_changed number rows ticket change row by_ticket at
    ∙ ap (λ n. gained n ticket (numbered number (without_row rows ticket))) same
    ∙ sym (numbered_standing number rows ticket row by_ticket at)

-- ---- a row that is taken away

-- a row that has no number takes none with it
pub numbered_none_less : (number : Row → Option ℕ) (rows : List (ℕ × Row)) (ticket : ℕ) (row : Row)
    → IsByTicket rows → row_at rows ticket ≡ Some row → number row ≡ None
    → numbered number (without_row rows ticket) ≡ numbered number rows
numbered_none_less number rows ticket row by_ticket at none =
    sym (numbered_standing number rows ticket row by_ticket at
    ∙ ap (λ n. gained n ticket (numbered number (without_row rows ticket))) none)

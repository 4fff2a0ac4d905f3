-- The numbers of rows in order: the first of them, the last of them, and what holds of each.
use Rattle.std.proofs.Common.{◌≡◌, ◌≢◌, ◌∙◌, sym, ap, refl, ℕ, ◌<◌, List, [], ◌∷◌, ◌++◌, Bool, true, not, filter, map, drop, arith}
use Rattle.std.specs.Prelude.{All, Option, None, Some, IfSome, option_map, ◌==◌, filter_map, slice_get}
use Rattle.std.specs.List.Sorted.{IsStrictlyIncreasing}
use Rattle.std.proofs.lemmas.Bool.Decides.{nat_tests}
use Rattle.std.proofs.lemmas.Option.{same_Some}
use Rattle.std.proofs.lemmas.List.Elements.{All-weaker, filter_passes}
use Rattle.fk_model.specs.declared.row.Row.{Row}
use Rattle.fk_model.specs.Rows.{ticket_of, row_of, IsByTicket, row_at, with_row, with_changed, without_row}
use Rattle.fk_json.specs.PairOrder.{with_pair}
use Rattle.fk_model.specs.Orders.{number_in, ticket_in, in_order, with_ticket}
use Rattle.fk_model.proofs.Sieves.{filter_mapped, all_mapped}
use Rattle.fk_model.proofs.Rising.{rising_filter}
use Rattle.fk_model.proofs.Sorting.{are_in_order}
use Rattle.fk_model.proofs.Insertion.{sorted_all}
use Rattle.fk_model.proofs.Ordered.{filter_sorted, with_last, was_first}
use Rattle.fk_model.proofs.Numbered.{numbered, gained, numbered_new, numbered_standing, numbered_changed, numbered_none_less}

-- ---- without a ticket

-- a pair is of another ticket
abbrev pub is_of_other : ℕ → ℕ × ℕ → Bool
is_of_other ticket pair = not (ticket_in pair == ticket)

keeps_ticket : (given : Option ℕ) (ticket : ℕ) (pair : ℕ × ℕ)
    → option_map (λ n. (n, ticket)) given ≡ Some pair → ticket_in pair ≡ ticket
keeps_ticket None ticket pair e = absurd (cc)
keeps_ticket (Some n) ticket pair e = sym (ap ticket_in (same_Some (n, ticket) pair e))

-- the numbers without a row are those that are of another ticket
pub numbered_without : (number : Row → Option ℕ) (rows : List (ℕ × Row)) (ticket : ℕ)
    → numbered number (without_row rows ticket) ≡ filter (is_of_other ticket) (numbered number rows)
numbered_without number rows ticket =
    ap in_order (sym (filter_mapped (with_ticket number) (is_of_other ticket)
    (λ x. not (ticket_of x == ticket))
    (λ filed pair at. ap (λ n. not (n == ticket))
    (keeps_ticket (number (row_of filed)) (ticket_of filed) pair at)) rows))
    ∙ sym (filter_sorted (is_of_other ticket) (filter_map (with_ticket number) rows))

-- without a row, each number is of another ticket
pub others_without : (number : Row → Option ℕ) (rows : List (ℕ × Row)) (ticket : ℕ)
    → All (λ pair. ticket_in pair ≢ ticket) (numbered number (without_row rows ticket))
others_without number rows ticket =
    rw (numbered_without number rows ticket)
    (All-weaker (λ pair. is_of_other ticket pair ≡ true) (λ pair. ticket_in pair ≢ ticket)
    (λ pair other same. let none : not (ticket_in pair == ticket) ≡ true = other in
    absurd (grind (arith, nat_tests, none, same)))
    (filter (is_of_other ticket) (numbered number rows))
    (filter_passes (is_of_other ticket) (numbered number rows)))

-- ---- at the end

-- a new row whose number is above all others comes last
pub numbered_last : (number : Row → Option ℕ) (rows : List (ℕ × Row)) (ticket : ℕ) (row : Row) (n : ℕ)
    → IsByTicket rows → row_at rows ticket ≡ None → number row ≡ Some n
    → All (λ pair. number_in pair < n) (numbered number rows)
    → numbered number (with_row rows ticket row) ≡ numbered number rows ++ (n, ticket) ∷ []
numbered_last number rows ticket row n by_ticket none has lower =
    numbered_new number rows ticket row by_ticket none
    ∙ ap (λ o. gained o ticket (numbered number rows)) has
    ∙ with_last (n, ticket) (numbered number rows) lower

-- a row that had no number and gets one above all others comes last
pub changed_last : (number : Row → Option ℕ) (rows : List (ℕ × Row)) (ticket : ℕ)
    (change : Row → Row) (row : Row) (n : ℕ) → IsByTicket rows → row_at rows ticket ≡ Some row
    → number row ≡ None → number (change row) ≡ Some n
    → All (λ pair. number_in pair < n) (numbered number rows)
    → numbered number (with_changed rows ticket change) ≡ numbered number rows ++ (n, ticket) ∷ []
changed_last number rows ticket change row n by_ticket at had has lower =
    numbered_changed number rows ticket change row by_ticket at
    ∙ ap (λ o. gained o ticket (numbered number (without_row rows ticket))) has
    ∙ ap (with_pair (n, ticket)) (numbered_none_less number rows ticket row by_ticket at had)
    ∙ with_last (n, ticket) (numbered number rows) lower

-- ---- at the front

first_opened : (pairs : List (ℕ × ℕ)) (ticket : ℕ)
    → option_map ticket_in (slice_get pairs 0) ≡ Some ticket
    → (first : ℕ × ℕ) × (rest : List (ℕ × ℕ)) × (pairs ≡ first ∷ rest) × (ticket_in first ≡ ticket)
first_opened [] ticket at = absurd (cc)
first_opened (first ∷ rest) ticket at = (first, rest, refl, same_Some (ticket_in first) ticket at)

-- a row that is the first by its number stands in front of the others
pub numbered_first : (number : Row → Option ℕ) (rows : List (ℕ × Row)) (ticket : ℕ) (row : Row) (n : ℕ)
    → IsByTicket rows → row_at rows ticket ≡ Some row → number row ≡ Some n
    → option_map ticket_in (slice_get (numbered number rows) 0) ≡ Some ticket
    → numbered number rows ≡ (n, ticket) ∷ numbered number (without_row rows ticket)
numbered_first number rows ticket row n by_ticket at has first =
    let whole : numbered number rows ≡ with_pair (n, ticket) (numbered number (without_row rows ticket)) =
    numbered_standing number rows ticket row by_ticket at
    ∙ ap (λ o. gained o ticket (numbered number (without_row rows ticket))) has in
    let opened = first_opened (numbered number rows) ticket first in
    whole ∙ was_first (n, ticket) (numbered number (without_row rows ticket)) opened.1 opened.0
    (are_in_order (filter_map (with_ticket number) (without_row rows ticket)))
    (others_without number rows ticket) (sym whole ∙ opened.2) opened.3

-- without the first, the rest of them is left
pub first_leaves : (number : Row → Option ℕ) (rows : List (ℕ × Row)) (ticket : ℕ) (row : Row) (n : ℕ)
    → IsByTicket rows → row_at rows ticket ≡ Some row → number row ≡ Some n
    → option_map ticket_in (slice_get (numbered number rows) 0) ≡ Some ticket
    → numbered number (without_row rows ticket) ≡ drop 1 (numbered number rows)
first_leaves number rows ticket row n by_ticket at has first =
    sym (ap (drop 1) (numbered_first number rows ticket row n by_ticket at has first))

-- ---- what holds of each

-- what holds of the number of each row holds of each number
pub numbers_hold : (P : ℕ → Type 0) (number : Row → Option ℕ) (rows : List (ℕ × Row))
    → All (λ filed. IfSome (number (row_of filed)) P) rows
    → All (λ pair. P (number_in pair)) (numbered number rows)
numbers_hold P number rows each =
    sorted_all (λ pair. P (number_in pair)) (filter_map (with_ticket number) rows)
    (all_mapped (λ pair. P (number_in pair)) (with_ticket number) rows
    (All-weaker (λ filed. IfSome (number (row_of filed)) P)
    (λ filed. IfSome (with_ticket number filed) (λ pair. P (number_in pair)))
    (λ filed holds. of_number P (number (row_of filed)) (ticket_of filed) holds) rows each))
  where
    of_number : (P : ℕ → Type 0) (given : Option ℕ) (ticket : ℕ) → IfSome given P
        → IfSome (option_map (λ n. (n, ticket)) given) (λ pair. P (number_in pair))
    of_number P None ticket holds = tt
    of_number P (Some n) ticket holds = holds

-- ---- numbers that rise

pub rising_without : (number : Row → Option ℕ) (rows : List (ℕ × Row)) (ticket : ℕ)
    → IsStrictlyIncreasing (map number_in (numbered number rows))
    → IsStrictlyIncreasing (map number_in (numbered number (without_row rows ticket)))
rising_without number rows ticket rising =
    rw (numbered_without number rows ticket)
    (rising_filter number_in (is_of_other ticket) (numbered number rows) rising)

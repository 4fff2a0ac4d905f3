-- Each row stands under its ticket, and each number is that of the row under its ticket.
use Rattle.std.proofs.Common.{◌≡◌, refl, ℕ, ◌<◌, List, [], ◌∷◌, arith}
use Rattle.std.specs.Prelude.{All, AllPairs, Option, None, Some, IfSome, option_map, option_and_then, filter_map, slice_index_or}
use Rattle.std.proofs.lemmas.List.Elements.{All-nil, All-cons, All-weaker}
use Rattle.fk_model.specs.declared.row.Row.{Row}
use Rattle.fk_model.specs.Rows.{ticket_of, row_of, IsByTicket, filed_at, row_at}
use Rattle.fk_model.specs.Orders.{number_in, ticket_in, with_ticket}
use Rattle.fk_model.proofs.Sieves.{all_mapped}
use Rattle.fk_model.proofs.Sorting.{head_of_all, tail_of_all}
use Rattle.fk_model.proofs.Insertion.{sorted_all}
use Rattle.fk_model.proofs.Cuts.{IsLower, lower_pairs, is_same, is_other}
use Rattle.fk_model.proofs.Numbered.{numbered}

-- ---- rows

lower_found : (rows : List (ℕ × Row)) → AllPairs IsLower rows
    → All (λ filed. filed_at rows (ticket_of filed) ≡ Some filed) rows
lower_found [] all = All-nil (λ filed. filed_at [] (ticket_of filed) ≡ Some filed)
lower_found (one ∷ rows) all =
    let rest = lower_found rows (tail_of_all IsLower one rows all) in
    let later = head_of_all IsLower one rows all in
    All-cons (λ filed. filed_at (one ∷ rows) (ticket_of filed) ≡ Some filed) one rows
    (rw (is_same (ticket_of one) (ticket_of one) refl) refl)
    (λ k d within. let higher : ticket_of one < ticket_of (slice_index_or rows k d) = later k d within in
    rw (is_other (ticket_of one) (ticket_of (slice_index_or rows k d)) (omega arith))
    (rest k d within))

-- each row is found under its ticket
pub each_found : (rows : List (ℕ × Row)) → IsByTicket rows
    → All (λ filed. filed_at rows (ticket_of filed) ≡ Some filed) rows
each_found rows by_ticket = lower_found rows (lower_pairs rows by_ticket)

-- ---- numbers

-- the row under the ticket of a pair has the pair's number
abbrev pub IsNumberOf : (Row → Option ℕ) → List (ℕ × Row) → ℕ × ℕ → Type 0
IsNumberOf number rows pair =
    option_and_then number (row_at rows (ticket_in pair)) ≡ Some (number_in pair)

number_of : (number : Row → Option ℕ) (rows : List (ℕ × Row)) (filed : ℕ × Row) (given : Option ℕ)
    → number (row_of filed) ≡ given → filed_at rows (ticket_of filed) ≡ Some filed
    → IfSome (option_map (λ n. (n, ticket_of filed)) given) (IsNumberOf number rows)
number_of number rows filed None e at = tt
number_of number rows filed (Some n) e at = rw at e

-- each of the numbers is that of the row under its ticket
pub each_number : (number : Row → Option ℕ) (rows : List (ℕ × Row)) → IsByTicket rows
    → All (IsNumberOf number rows) (numbered number rows)
each_number number rows by_ticket =
    sorted_all (IsNumberOf number rows) (filter_map (with_ticket number) rows)
    (all_mapped (IsNumberOf number rows) (with_ticket number) rows
    (All-weaker (λ filed. filed_at rows (ticket_of filed) ≡ Some filed)
    (λ filed. IfSome (with_ticket number filed) (IsNumberOf number rows))
    (λ filed at. number_of number rows filed (number (row_of filed)) refl at)
    rows (each_found rows by_ticket)))

-- The first row to fetch, by the first of the queues and those behind it.
use Rattle.std.proofs.Common.{◌≡◌, ◌∙◌, sym, ap, refl, subst, ℕ, suc, ◌+◌, ◌<◌, ◌≤◌, List, [], ◌∷◌, ◌++◌, drop, length, get_or, add-one}
use Rattle.std.proofs.Math.ListN.{drop_of_length-le}
use Rattle.std.proofs.Math.Seq.{drop-cons}
use Rattle.std.specs.Prelude.{Option, None, Some, option_map, option_and_then, slice_get, flat_map}
use Rattle.std.proofs.lemmas.Option.{slice_get_within, get_or_from_slice_get}
use Rattle.fk_model.specs.declared.row.Row.{Row}
use Rattle.fk_model.specs.Rows.{ticket_of, IsByTicket, filed_at, row_at}
use Rattle.fk_model.specs.State.{KeptState}
use Rattle.fk_model.specs.Orders.{ticket_in, number_in, rank_in, queue, first_waiting}
use Rattle.fk_model.proofs.Lookups.{filed_from_row}
use Rattle.fk_model.proofs.Standing.{IsNumberOf, each_number}

-- ---- a ticket in a queue

found_ticket : (ticket rank : ℕ) (number : Row → Option ℕ) (found : Option Row)
    → option_and_then number found ≡ Some rank
    → option_map ticket_of (option_map (λ row. (ticket, row)) found) ≡ Some ticket
found_ticket ticket rank number None e = absurd (cc)
found_ticket ticket rank number (Some row) e = refl

-- the first of a queue stands under its ticket
stands_first : (kept : KeptState) (name : List ℕ) (pair : ℕ × ℕ) → IsByTicket kept.rows
    → slice_get (queue kept.rows name) 0 ≡ Some pair
    → option_map ticket_of (filed_at kept.rows (ticket_in pair)) ≡ Some (ticket_in pair)
stands_first kept name pair by_ticket at =
    let pairs = queue kept.rows name in
    let number = subst (IsNumberOf (rank_in name) kept.rows)
    (get_or_from_slice_get pairs 0 pair pair at)
    (each_number (rank_in name) kept.rows by_ticket 0 pair (slice_get_within pairs 0 pair at)) in
    rw (filed_from_row kept.rows (ticket_in pair))
    (found_ticket (ticket_in pair) (number_in pair) (rank_in name)
    (row_at kept.rows (ticket_in pair)) number)

-- ---- the first of the queues, and those behind it

head_of_both : {X : Type 0} (xs ys : List X) (x : X) → slice_get xs 0 ≡ Some x
    → slice_get (xs ++ ys) 0 ≡ Some x
head_of_both [] ys x at = absurd (cc)
head_of_both (z ∷ xs) ys x at = at

here_by : (kept : KeptState) (name : List ℕ) (names : List (List ℕ)) (ticket : ℕ)
    (ahead : Option (ℕ × ℕ)) → IsByTicket kept.rows → slice_get (queue kept.rows name) 0 ≡ ahead
    → Some ticket ≡ option_map ticket_in ahead
    → Some ticket ≡ option_map ticket_of (first_waiting kept (name ∷ names))
here_by kept name names ticket None by_ticket at one = absurd (cc)
here_by kept name names ticket (Some pair) by_ticket at one =
    rw (head_of_both (queue kept.rows name) (flat_map (queue kept.rows) names) pair at)
    (one ∙ sym (stands_first kept name pair by_ticket at))

-- the first queue has a row
waits_here : (kept : KeptState) (name : List ℕ) (names : List (List ℕ)) (ticket : ℕ)
    → IsByTicket kept.rows → Some ticket ≡ option_map ticket_in (slice_get (queue kept.rows name) 0)
    → Some ticket ≡ option_map ticket_of (first_waiting kept (name ∷ names))
waits_here kept name names ticket by_ticket one =
    here_by kept name names ticket (slice_get (queue kept.rows name) 0) by_ticket refl one

none_of_both : {X : Type 0} (f : X → ℕ) (xs ys : List X) → None ≡ option_map f (slice_get xs 0)
    → slice_get (xs ++ ys) 0 ≡ slice_get ys 0
none_of_both f [] ys none = refl
none_of_both f (x ∷ xs) ys none = absurd (cc)

-- it has none
waits_behind : (kept : KeptState) (name : List ℕ) (names : List (List ℕ))
    → None ≡ option_map ticket_in (slice_get (queue kept.rows name) 0)
    → first_waiting kept (name ∷ names) ≡ first_waiting kept names
waits_behind kept name names none =
    rw (none_of_both ticket_in (queue kept.rows name) (flat_map (queue kept.rows) names) none) refl

-- ---- the queue at a place, and those behind it

pub left_from : {X : Type 0} (names : List X) (at : ℕ) (name : X) → at < length names
    → name ≡ get_or names at name → drop at names ≡ name ∷ drop (at + 1) names
left_from names at name within here =
    rw add-one (drop-cons names at name within ∙ ap (λ n. n ∷ drop (suc at) names) (sym here))

-- the queue at a place has a row
pub waits_at : (kept : KeptState) (names : List (List ℕ)) (at : ℕ) (name : List ℕ) (ticket : ℕ)
    → IsByTicket kept.rows → at < length names → name ≡ get_or names at name
    → Some ticket ≡ option_map ticket_in (slice_get (queue kept.rows name) 0)
    → Some ticket ≡ option_map ticket_of (first_waiting kept (drop at names))
waits_at kept names at name ticket by_ticket within here one =
    rw (left_from names at name within here)
    (waits_here kept name (drop (at + 1) names) ticket by_ticket one)

-- it has none
pub waits_past : (kept : KeptState) (names : List (List ℕ)) (at : ℕ) (name : List ℕ)
    → at < length names → name ≡ get_or names at name
    → None ≡ option_map ticket_in (slice_get (queue kept.rows name) 0)
    → first_waiting kept (drop (at + 1) names) ≡ first_waiting kept (drop at names)
waits_past kept names at name within here none =
    rw (left_from names at name within here)
    (sym (waits_behind kept name (drop (at + 1) names) none))

-- none is left
pub waits_nowhere : (kept : KeptState) (names : List (List ℕ)) (at : ℕ) → length names ≤ at
    → None ≡ option_map ticket_of (first_waiting kept (drop at names))
waits_nowhere kept names at past =
    ap (λ left. option_map ticket_of (first_waiting kept left)) (sym (drop_of_length-le names past))

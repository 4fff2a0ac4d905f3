-- Of the rows that workers have under a jid, the one that is found is the first.
use Rattle.std.proofs.Common.{◌≡◌, ◌∙◌, sym, ap, refl, ℕ, ◌<◌, List, [], ◌∷◌, Bool, true, false, not, filter, arith}
use Rattle.std.specs.Prelude.{All, AllPairs, ◌&&◌, if◌then◌else◌, Option, None, Some, option_map, find, nat_lt, bytes_eq, ◌==◌}
use Rattle.std.specs.List.{list_any}
use Rattle.std.proofs.Math.Bool.{and-false}
use Rattle.std.proofs.lemmas.Bool.Decides.{nat_tests}
use Rattle.std.proofs.lemmas.Option.{same_Some}
use Rattle.std.proofs.lemmas.List.Elements.{All-weaker}
use Rattle.std.proofs.lemmas.List.Folds.{list_any_none}
use Rattle.fk_model.specs.declared.row.Row.{Row}
use Rattle.fk_model.specs.Rows.{ticket_of, row_of, IsByTicket, filed_at, row_at}
use Rattle.fk_model.specs.State.{KeptState}
use Rattle.fk_model.specs.Orders.{is_working, leased}
use Rattle.fk_model.specs.ReservationEnds.{is_reserved_under, is_first_under}
use Rattle.fk_model.proofs.Finding.{find_holds}
use Rattle.fk_model.proofs.Sorting.{head_of_all, tail_of_all}
use Rattle.fk_model.proofs.Cuts.{IsLower, lower_pairs, not_lower, is_lower, is_other}
use Rattle.fk_model.proofs.Tickets.{row_holds}
use Rattle.fk_model.proofs.Asked.{is_of}

-- ---- a find behind a filter

find_both_if : {X : Type 0} (p q : X → Bool) (x : X) (xs : List X) (passes : Bool) → p x ≡ passes
    → find q (filter p xs) ≡ find (λ y. p y && q y) xs
    → find q (filter p (x ∷ xs)) ≡ find (λ y. p y && q y) (x ∷ xs)
find_both_if p q x xs true e rest = rw (e, rest) refl
find_both_if p q x xs false e rest = rw e rest

-- what passes both tests first
find_both : {X : Type 0} (p q : X → Bool) (xs : List X)
    → find q (filter p xs) ≡ find (λ x. p x && q x) xs
find_both p q [] = refl
find_both p q (x ∷ xs) = find_both_if p q x xs (p x) refl (find_both p q xs)

-- ---- the first of rows in order of ticket

-- a row passes, and none that passes is of a lesser ticket
abbrev is_first : (Row → Bool) → List (ℕ × Row) → ℕ → Row → Bool
is_first passes rows ticket row =
    passes row && not (list_any (λ other. passes (row_of other) && nat_lt (ticket_of other) ticket) rows)

-- the first that passes
abbrev first_of : (Row → Bool) → List (ℕ × Row) → Option (ℕ × Row)
first_of passes rows = find (λ filed. passes (row_of filed)) rows

none_lesser : (passes : Row → Bool) (rows : List (ℕ × Row)) (ticket : ℕ) → All (λ x. ticket < ticket_of x) rows
    → list_any (λ other. passes (row_of other) && nat_lt (ticket_of other) ticket) rows ≡ false
none_lesser passes rows ticket higher =
    list_any_none (λ other. passes (row_of other) && nat_lt (ticket_of other) ticket) rows
    (All-weaker (λ x. ticket < ticket_of x)
    (λ x. (passes (row_of x) && nat_lt (ticket_of x) ticket) ≡ false)
    (λ x above. rw (not_lower (ticket_of x) ticket (omega (arith, above))) (and-false (passes (row_of x))))
    rows higher)

none_found : (passes : Row → Bool) (rows : List (ℕ × Row)) (ticket : ℕ) (found : Option (ℕ × Row))
    → first_of passes rows ≡ found → All (λ x. ticket < ticket_of x) rows → is_of ticket found ≡ false
none_found passes rows ticket None e higher = refl
none_found passes rows ticket (Some filed) e higher =
    let above : ticket < ticket_of filed =
    find_holds (λ x. ticket < ticket_of x) (λ x. passes (row_of x)) rows filed higher e in
    is_other (ticket_of filed) ticket (λ same. omega (arith, above, same))

first_here : (passes : Row → Bool) (one : ℕ × Row) (rest : List (ℕ × Row)) (ticket : ℕ) (row : Row) (yes : Bool)
    → passes row ≡ yes → row_of one ≡ row → ticket_of one ≡ ticket → All (λ x. ticket < ticket_of x) rest
    → is_first passes (one ∷ rest) ticket row ≡ is_of ticket (first_of passes (one ∷ rest))
first_here passes one rest ticket row true e there here higher =
    let same : (ticket_of one == ticket) ≡ true = grind (arith, nat_tests, here) in
    rw (there, e, not_lower (ticket_of one) ticket (omega (arith, here)), none_lesser passes rest ticket higher, same)
    refl
first_here passes one rest ticket row false e there here higher =
    rw (there, e) (sym (none_found passes rest ticket (first_of passes rest) refl higher))

first_later : (passes : Row → Bool) (one : ℕ × Row) (rest : List (ℕ × Row)) (ticket : ℕ) (row : Row) (yes : Bool)
    → passes (row_of one) ≡ yes → ticket_of one < ticket
    → is_first passes rest ticket row ≡ is_of ticket (first_of passes rest)
    → is_first passes (one ∷ rest) ticket row ≡ is_of ticket (first_of passes (one ∷ rest))
first_later passes one rest ticket row true e lower same =
    rw (e, is_lower (ticket_of one) ticket lower, is_other (ticket_of one) ticket (λ s. omega (arith, lower, s)))
    (and-false (passes row))
first_later passes one rest ticket row false e lower same = rw e same

first_step : (passes : Row → Bool) (one : ℕ × Row) (rest : List (ℕ × Row)) (ticket : ℕ) (row : Row) (here : Bool)
    → (ticket_of one == ticket) ≡ here → All (IsLower one) rest
    → option_map row_of (if here then Some one else filed_at rest ticket) ≡ Some row
    → (row_at rest ticket ≡ Some row → is_first passes rest ticket row ≡ is_of ticket (first_of passes rest))
    → is_first passes (one ∷ rest) ticket row ≡ is_of ticket (first_of passes (one ∷ rest))
first_step passes one rest ticket row true e lower at same =
    let here : ticket_of one ≡ ticket = grind (arith, nat_tests, e) in
    first_here passes one rest ticket row (passes row) refl (same_Some (row_of one) row at) here
    (All-weaker (IsLower one) (λ x. ticket < ticket_of x) (λ x above. omega (arith, above, here)) rest lower)
first_step passes one rest ticket row false e lower at same =
    first_later passes one rest ticket row (passes (row_of one)) refl
    (row_holds (IsLower one) rest ticket row lower at) (same at)

first_found : (passes : Row → Bool) (rows : List (ℕ × Row)) (ticket : ℕ) (row : Row) → AllPairs IsLower rows
    → row_at rows ticket ≡ Some row
    → is_first passes rows ticket row ≡ is_of ticket (first_of passes rows)
first_found passes [] ticket row all at = absurd (cc)
first_found passes (one ∷ rest) ticket row all at =
    first_step passes one rest ticket row (ticket_of one == ticket) refl (head_of_all IsLower one rest all) at
    (first_found passes rest ticket row (tail_of_all IsLower one rest all))

-- ---- under a jid

-- the row of a ticket is the first that a worker has under a jid exactly where it is the one that is found
pub first_is_leased : (kept : KeptState) (jid : List ℕ) (ticket : ℕ) (row : Row) → IsByTicket kept.rows
    → row_at kept.rows ticket ≡ Some row
    → is_first_under jid kept.rows ticket row ≡ is_of ticket (leased kept jid)
first_is_leased kept jid ticket row by_ticket at =
    first_found (is_reserved_under jid) kept.rows ticket row (lower_pairs kept.rows by_ticket) at
    ∙ ap (is_of ticket)
    (sym (find_both (λ x. is_working (row_of x).place) (λ x. bytes_eq (row_of x).job.jid jid) kept.rows))

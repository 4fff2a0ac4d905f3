-- The rows that are due go into their queues one by one.
use Rattle.std.proofs.Common.{◌≡◌, ◌∙◌, sym, ap, refl, subst, ℕ, suc, ◌+◌, ◌<◌, List, [], ◌∷◌, ◌++◌, Bool, true, false, not, drop, append_assoc, arith}
use Rattle.std.specs.Prelude.{All, if◌then◌else◌, Option, None, Some, option_map, option_and_then, bytes_eq, nat_lt, slice_get}
use Rattle.std.proofs.lemmas.Option.{slice_get_within, get_or_from_slice_get}
use Rattle.std.proofs.lemmas.List.Elements.{All-nil, All-cons, All-append, All-weaker, All-filter}
use Rattle.fk_model.specs.declared.row.Row.{Row}
use Rattle.fk_model.specs.Rows.{IsByTicket, filed_at, row_at}
use Rattle.fk_model.specs.State.{KeptState}
use Rattle.fk_model.specs.Orders.{number_in, ticket_in}
use Rattle.fk_model.specs.Due.{rows_of}
use Rattle.fk_model.proofs.Lookups.{filed_from_row}
use Rattle.fk_model.proofs.Numbered.{numbered}
use Rattle.fk_model.proofs.Standing.{IsNumberOf, each_number}
use Rattle.fk_model.proofs.Falling.{wait_moment}
use Rattle.fk_lists.specs.Room.{list_at}
use Rattle.fk_plan.specs.Arrivals.{arrivals}
use Rattle.fk_plan.specs.Upkeep.{pairs_due}
use Rattle.fk_plan.proofs.Left.{left_some}

-- ---- the row of a pair

none_at : (kept : KeptState) (moment at : ℕ) (found : Option (ℕ × ℕ)) (ticket : ℕ) → IsByTicket kept.rows
    → slice_get (pairs_due kept moment) at ≡ found → option_map ticket_in found ≡ Some ticket
    → None ≡ row_at kept.rows ticket → ⊥
none_at kept moment at None ticket by_ticket e one none = absurd (cc)
none_at kept moment at (Some pair) ticket by_ticket e one none =
    let pairs = pairs_due kept moment in
    let number : IsNumberOf wait_moment kept.rows pair =
    subst (IsNumberOf wait_moment kept.rows) (get_or_from_slice_get pairs at pair pair e)
    (All-filter (λ p. not (nat_lt moment (number_in p))) (IsNumberOf wait_moment kept.rows)
    (numbered wait_moment kept.rows) (each_number wait_moment kept.rows by_ticket) at pair
    (slice_get_within pairs at pair e)) in
    let own : ticket_in pair ≡ ticket = cc in
    let gone : row_at kept.rows (ticket_in pair) ≡ None = ap (row_at kept.rows) own ∙ sym none in
    let differs : None ≡ Some (number_in pair) = sym (ap (option_and_then wait_moment) gone) ∙ number in
    absurd (cc)

-- the row of a pair that is due stands there
pub row_due : (kept : KeptState) (moment at : ℕ) (ticket : ℕ) → IsByTicket kept.rows
    → option_map ticket_in (slice_get (pairs_due kept moment) at) ≡ Some ticket
    → None ≡ row_at kept.rows ticket → ⊥
row_due kept moment at ticket by_ticket one none =
    none_at kept moment at (slice_get (pairs_due kept moment) at) ticket by_ticket refl one none

-- ---- one row

-- the pair of a row that goes into the queue of a name, if it does
abbrev pub entry : List ℕ → ℕ → ℕ → Row → List (ℕ × ℕ)
entry name rank ticket row = if bytes_eq row.job.queue name then (rank, ticket) ∷ [] else []

arrives_if : (name : List ℕ) (rank ticket : ℕ) (row : Row) (rows : List (ℕ × Row)) (there : Bool)
    → bytes_eq row.job.queue name ≡ there
    → arrivals name rank ((ticket, row) ∷ rows)
    ≡ (if there then (rank, ticket) ∷ [] else []) ++ arrivals name (rank + 1) rows
arrives_if name rank ticket row rows true e = rw e refl
arrives_if name rank ticket row rows false e = rw e refl

first_row : (rows : List (ℕ × Row)) (pair : ℕ × ℕ) (pairs : List (ℕ × ℕ)) (ticket : ℕ) (row : Row)
    → ticket_in pair ≡ ticket → Some row ≡ row_at rows ticket
    → rows_of rows (pair ∷ pairs) ≡ (ticket, row) ∷ rows_of rows pairs
first_row rows pair pairs ticket row own here =
    let found : filed_at rows (ticket_in pair) ≡ Some (ticket, row) =
    rw own (filed_from_row rows ticket ∙ ap (option_map (λ r. (ticket, r))) (sym here)) in
    rw found refl

arrives_found : (rows : List (ℕ × Row)) (pairs : List (ℕ × ℕ)) (at ticket rank : ℕ) (row : Row) (name : List ℕ)
    (found : Option (ℕ × ℕ)) → slice_get pairs at ≡ found → option_map ticket_in found ≡ Some ticket
    → Some row ≡ row_at rows ticket
    → arrivals name rank (rows_of rows (drop at pairs))
    ≡ entry name rank ticket row ++ arrivals name (rank + 1) (rows_of rows (drop (at + 1) pairs))
arrives_found rows pairs at ticket rank row name None e one here = absurd (cc)
arrives_found rows pairs at ticket rank row name (Some pair) e one here =
    let own : ticket_in pair ≡ ticket = cc in
    let next : suc at ≡ at + 1 = omega arith in
    ap (λ xs. arrivals name rank (rows_of rows xs)) (left_some pairs at pair e)
    ∙ ap (arrivals name rank) (first_row rows pair (drop (suc at) pairs) ticket row own here)
    ∙ arrives_if name rank ticket row (rows_of rows (drop (suc at) pairs)) (bytes_eq row.job.queue name) refl
    ∙ ap (λ n. entry name rank ticket row ++ arrivals name (rank + 1) (rows_of rows (drop n pairs))) next

-- what has arrived of a queue, and what is left to arrive, is the whole
pub arrives : (rows : List (ℕ × Row)) (pairs : List (ℕ × ℕ)) (at ticket rank : ℕ) (row : Row) (name : List ℕ)
    (before after whole : List (ℕ × ℕ)) → option_map ticket_in (slice_get pairs at) ≡ Some ticket
    → Some row ≡ row_at rows ticket → after ≡ before ++ entry name rank ticket row
    → before ++ arrivals name rank (rows_of rows (drop at pairs)) ≡ whole
    → after ++ arrivals name (rank + 1) (rows_of rows (drop (at + 1) pairs)) ≡ whole
arrives rows pairs at ticket rank row name before after whole one here e left =
    let rest = arrivals name (rank + 1) (rows_of rows (drop (at + 1) pairs)) in
    ap (λ xs. xs ++ rest) e
    ∙ append_assoc before (entry name rank ticket row) rest
    ∙ ap (λ xs. before ++ xs)
    (sym (arrives_found rows pairs at ticket rank row name (slice_get pairs at) refl one here))
    ∙ left

lower_if : (rank ticket : ℕ) (there : Bool)
    → All (λ pair. number_in pair < rank + 1) (if there then (rank, ticket) ∷ [] else [])
lower_if rank ticket true =
    All-cons (λ pair. number_in pair < rank + 1) (rank, ticket) [] (omega arith)
    (All-nil (λ pair. number_in pair < rank + 1))
lower_if rank ticket false = All-nil (λ pair. number_in pair < rank + 1)

-- and the ranks are below the next one
pub arrives_lower : (name : List ℕ) (rank ticket : ℕ) (row : Row) (before after : List (ℕ × ℕ))
    → after ≡ before ++ entry name rank ticket row → All (λ pair. number_in pair < rank) before
    → All (λ pair. number_in pair < rank + 1) after
arrives_lower name rank ticket row before after e lower =
    rw e (All-append (λ pair. number_in pair < rank + 1) before (entry name rank ticket row)
    (All-weaker (λ pair. number_in pair < rank) (λ pair. number_in pair < rank + 1)
    (λ pair less. omega arith) before lower)
    (lower_if rank ticket (bytes_eq row.job.queue name)))

-- ---- before the first

pub none_listed : (name : List ℕ) → list_at [] name ≡ []
unfolding list_at
none_listed name = refl

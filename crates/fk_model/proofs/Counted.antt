-- How many rows pass a test, as rows come and go; and the first row that a worker has under a jid.
use Rattle.std.proofs.Common.{◌≡◌, ◌∙◌, sym, ap, refl, ℕ, ◌+◌, List, [], ◌∷◌, ◌++◌, Bool, true, false, filter, length, arith, length-append}
use Rattle.std.specs.Prelude.{if◌then◌else◌, Option, None, Some, option_map, is_some, slice_get, find, bytes_eq}
use Rattle.std.proofs.lemmas.List.Elements.{filter-append}
use Rattle.fk_model.specs.declared.row.Row.{Row}
use Rattle.fk_model.specs.declared.place.Place.{Place}
use Rattle.fk_model.specs.Rows.{ticket_of, row_of, IsByTicket, row_at, with_row, with_changed, without_row}
use Rattle.fk_model.specs.State.{KeptState}
use Rattle.fk_model.specs.Orders.{number_in, is_working, working, leased}
use Rattle.fk_model.proofs.Cuts.{below, above}
use Rattle.fk_model.proofs.Filed.{without_parts, standing, changed_at}
use Rattle.fk_model.proofs.Ticketed.{ticketed}

-- one, where a test passes
abbrev pub one_if : Bool → ℕ
one_if test = if test then 1 else 0

-- ---- how many pass

count_step : {X : Type 0} (test : X → Bool) (front back : List X) (x : X) (passes : Bool)
    → test x ≡ passes
    → length (filter test (front ++ x ∷ back)) ≡ one_if passes + length (filter test (front ++ back))
count_step test front back x true e =
    let whole = filter-append test front (x ∷ back) in
    let parts = filter-append test front back in
    rw (whole, parts, e) (simp length-append (omega arith))
count_step test front back x false e =
    let whole = filter-append test front (x ∷ back) in
    let parts = filter-append test front back in
    rw (whole, parts, e) (simp length-append (omega arith))

pub count_with : (test : ℕ × Row → Bool) (rows : List (ℕ × Row)) (ticket : ℕ) (row : Row)
    → IsByTicket rows
    → length (filter test (with_row rows ticket row))
    ≡ one_if (test (ticket, row)) + length (filter test (without_row rows ticket))
count_with test rows ticket row by_ticket =
    count_step test (below ticket rows) (above ticket rows) (ticket, row) (test (ticket, row)) refl
    ∙ ap (λ xs. one_if (test (ticket, row)) + length (filter test xs))
    (sym (without_parts rows ticket by_ticket))

pub count_standing : (test : ℕ × Row → Bool) (rows : List (ℕ × Row)) (ticket : ℕ) (row : Row)
    → IsByTicket rows → row_at rows ticket ≡ Some row
    → length (filter test rows)
    ≡ one_if (test (ticket, row)) + length (filter test (without_row rows ticket))
count_standing test rows ticket row by_ticket at =
    ap (λ xs. length (filter test xs)) (sym (standing rows ticket row by_ticket at))
    ∙ count_with test rows ticket row by_ticket

pub count_changed : (test : ℕ × Row → Bool) (rows : List (ℕ × Row)) (ticket : ℕ)
    (change : Row → Row) (row : Row) → IsByTicket rows → row_at rows ticket ≡ Some row
    → length (filter test (with_changed rows ticket change))
    ≡ one_if (test (ticket, change row)) + length (filter test (without_row rows ticket))
count_changed test rows ticket change row by_ticket at =
    ap (λ xs. length (filter test xs)) (changed_at rows ticket change row by_ticket at)
    ∙ count_with test rows ticket (change row) by_ticket

-- ---- the first that a worker has under a jid

-- the number of a row under a jid
abbrev pub under_jid : (Place → Option ℕ) → List ℕ → Row → Option ℕ
under_jid until jid row = if bytes_eq row.job.jid jid then until row.place else None

first_step : (until : Place → Option ℕ) (jid : List ℕ) (filed : ℕ × Row) (rows : List (ℕ × Row))
    (given : Option ℕ) (named : Bool) → until (row_of filed).place ≡ given
    → is_some given ≡ is_working (row_of filed).place
    → bytes_eq (row_of filed).job.jid jid ≡ named
    → option_map ticket_of (find (λ x. bytes_eq (row_of x).job.jid jid) (working rows))
    ≡ option_map number_in (slice_get (ticketed (under_jid until jid) rows) 0)
    → option_map ticket_of (find (λ x. bytes_eq (row_of x).job.jid jid) (working (filed ∷ rows)))
    ≡ option_map number_in (slice_get (ticketed (under_jid until jid) (filed ∷ rows)) 0)
first_step until jid filed rows None true e works named rest = rw (← works, named, e) rest
first_step until jid filed rows None false e works named rest = rw (← works, named) rest
first_step until jid filed rows (Some n) true e works named rest = rw (← works, named, e) refl
first_step until jid filed rows (Some n) false e works named rest = rw (← works, named) rest

first_of_jid : (until : Place → Option ℕ)
    → ((place : Place) → is_some (until place) ≡ is_working place)
    → (jid : List ℕ) (rows : List (ℕ × Row))
    → option_map ticket_of (find (λ x. bytes_eq (row_of x).job.jid jid) (working rows))
    ≡ option_map number_in (slice_get (ticketed (under_jid until jid) rows) 0)
first_of_jid until works jid [] = refl
first_of_jid until works jid (filed ∷ rows) =
    first_step until jid filed rows (until (row_of filed).place) (bytes_eq (row_of filed).job.jid jid)
    refl (works (row_of filed).place) refl (first_of_jid until works jid rows)

-- Where a number is that of each row that a worker has, the first ticket of a jid with its number is the
-- ticket of the row that is leased under the jid.
pub leased_first : (until : Place → Option ℕ)
    → ((place : Place) → is_some (until place) ≡ is_working place) → (kept : KeptState) (jid : List ℕ)
    → option_map ticket_of (leased kept jid)
    ≡ option_map number_in (slice_get (ticketed (under_jid until jid) kept.rows) 0)
leased_first until works kept jid = first_of_jid until works jid kept.rows

-- How much room moves need, where fewer rows are known before them, and behind the first of them.
use Rattle.std.proofs.Common.{◌≡◌, ◌≢◌, ◌∙◌, sym, ap, refl, ℕ, ◌+◌, ◌≤◌, List, [], ◌∷◌, ◌++◌, Bool, true, false, arith}
use Rattle.std.specs.Prelude.{Option, None, Some, option_map, ◌==◌}
use Rattle.std.specs.Option.{option_map_or}
use Rattle.std.proofs.lemmas.Bool.Decides.{nat_tests}
use Rattle.std.proofs.lemmas.Option.{same_Some}
use Rattle.fk_job.specs.declared.job.Job.{Job}
use Rattle.fk_job.specs.declared.failure.Failure.{Failure}
use Rattle.fk_model.specs.declared.row.Row.{Row}
use Rattle.fk_model.specs.declared.place.Place.{Place}
use Rattle.fk_model.specs.declared.move_.Move.{Move}
use Rattle.fk_model.specs.declared.move_.Move.TheVariants.{Add, Put, Drop, DropAll, Totals}
use Rattle.fk_model.specs.Rows.{IsByTicket, row_at, with_row, with_changed, without_row}
use Rattle.fk_model.specs.Changes.{put_row}
use Rattle.fk_model.proofs.Counted.{one_if}
use Rattle.fk_model.proofs.Lookups.{row_at_with, row_at_with_other, row_at_without, row_at_without_other, row_at_changed, row_at_changed_other}
use Rattle.fk_model.proofs.Tickets.{by_ticket_with, by_ticket_without, by_ticket_changed}
use Rattle.fk_core.specs.Reserved.{job_put, known_behind, count_put}

-- ---- one move and those behind it

pub count_first : (test : Job × Place → Bool) (rows : List (ℕ × Row)) (move : Move) (moves : List Move)
    → count_put test rows (move ∷ moves)
    ≡ one_if (option_map_or test (job_put rows move) false) + count_put test (known_behind rows move) moves
unfolding count_put
count_first test rows move moves = refl

pub count_none : (test : Job × Place → Bool) (rows : List (ℕ × Row)) → count_put test rows [] ≡ 0
unfolding count_put
count_none test rows = refl

-- the first moves need no more than all
pub count_front : (test : Job × Place → Bool) (rows : List (ℕ × Row)) (front back : List Move)
    → count_put test rows front ≤ count_put test rows (front ++ back)
unfolding count_put
count_front test rows [] back = omega arith
count_front test rows (move ∷ front) back =
    omega (arith, count_front test (known_behind rows move) front back)

-- ---- fewer rows

-- of some rows no more is known than of others: the job of each is the job of the other under its ticket
pub record KnowsLess (less more : List (ℕ × Row)) : Type 0 where
  pub by_less : IsByTicket less
  pub by_more : IsByTicket more
  pub known : (ticket : ℕ) (row : Row) → row_at less ticket ≡ Some row
      → option_map (λ (other : Row). other.job) (row_at more ticket) ≡ Some row.job

behind_here : (less more : List (ℕ × Row)) (ticket : ℕ) (row : Row) (other : ℕ) (found : Row)
    (same : Bool) → (other == ticket) ≡ same → KnowsLess less more
    → row_at (with_row less ticket row) other ≡ Some found
    → option_map (λ (x : Row). x.job) (row_at (with_row more ticket row) other) ≡ Some found.job
behind_here less more ticket row other found true e knows at =
    let here : other ≡ ticket = grind (arith, nat_tests, e) in
    let mine : Some row ≡ Some found = sym (row_at_with less ticket row) ∙ (rw here at at) in
    rw (here, row_at_with more ticket row) (ap (option_map (λ (x : Row). x.job)) mine)
behind_here less more ticket row other found false e knows at =
    let apart : other ≢ ticket = λ same. absurd (grind (arith, nat_tests, e, same)) in
    rw (row_at_with_other more ticket row other knows.by_more apart)
    (knows.known other found (sym (row_at_with_other less ticket row other knows.by_less apart) ∙ at))

behind : (less more : List (ℕ × Row)) (move : Move) → KnowsLess less more
    → KnowsLess (known_behind less move) (known_behind more move)
behind less more (Add ticket row) knows = record {
  by_less = by_ticket_with less ticket row knows.by_less;
  by_more = by_ticket_with more ticket row knows.by_more;
  known = λ other found at. behind_here less more ticket row other found (other == ticket) refl knows at;
}
behind less more (Put ticket enqueued failure place) knows = knows
behind less more (Drop ticket) knows = knows
behind less more DropAll knows = knows
behind less more (Totals next processed failures) knows = knows

put_less : (test : Job × Place → Bool) (place : Place) (less more : Option Row)
    → ((row : Row) → less ≡ Some row → option_map (λ (other : Row). other.job) more ≡ Some row.job)
    → one_if (option_map_or test (option_map (λ (row : Row). (row.job, place)) less) false)
    ≤ one_if (option_map_or test (option_map (λ (row : Row). (row.job, place)) more) false)
put_less test place None more known = omega arith
put_less test place (Some row) None known = absurd (cc (known row refl))
put_less test place (Some row) (Some other) known =
    let same : other.job ≡ row.job = same_Some other.job row.job (known row refl) in
    rw same (omega arith)

first_less : (test : Job × Place → Bool) (less more : List (ℕ × Row)) (move : Move)
    → KnowsLess less more
    → one_if (option_map_or test (job_put less move) false)
    ≤ one_if (option_map_or test (job_put more move) false)
first_less test less more (Add ticket row) knows = omega arith
first_less test less more (Put ticket enqueued failure place) knows =
    put_less test place (row_at less ticket) (row_at more ticket) (knows.known ticket)
first_less test less more (Drop ticket) knows = omega arith
first_less test less more DropAll knows = omega arith
first_less test less more (Totals next processed failures) knows = omega arith

-- where less is known, the moves need no more
pub count_less : (test : Job × Place → Bool) (less more : List (ℕ × Row)) (moves : List Move)
    → KnowsLess less more → count_put test less moves ≤ count_put test more moves
count_less test less more [] knows = rw (count_none test less, count_none test more) (omega arith)
count_less test less more (move ∷ moves) knows =
    let rest = count_less test (known_behind less move) (known_behind more move) moves
    (behind less more move knows) in
    let first = first_less test less more move knows in
    rw (count_first test less move moves, count_first test more move moves) (omega arith)

-- ---- rows that are changed or taken away

changed_here : (rows : List (ℕ × Row)) (ticket : ℕ) (enqueued : Option ℕ) (failure : Option Failure)
    (place : Place) (row : Row) (had : Option Row)
    → option_map (put_row enqueued failure place) had ≡ Some row
    → option_map (λ (other : Row). other.job) had ≡ Some row.job
changed_here rows ticket enqueued failure place row None at = absurd (cc)
changed_here rows ticket enqueued failure place row (Some had) at =
    ap (option_map (λ (other : Row). other.job)) at

changed_at_any : (rows : List (ℕ × Row)) (ticket : ℕ) (enqueued : Option ℕ) (failure : Option Failure)
    (place : Place) (other : ℕ) (row : Row) (same : Bool) → IsByTicket rows → (other == ticket) ≡ same
    → row_at (with_changed rows ticket (put_row enqueued failure place)) other ≡ Some row
    → option_map (λ (x : Row). x.job) (row_at rows other) ≡ Some row.job
changed_at_any rows ticket enqueued failure place other row true by_ticket e at =
    let here : other ≡ ticket = grind (arith, nat_tests, e) in
    let mine = sym (row_at_changed rows ticket (put_row enqueued failure place) by_ticket)
    ∙ (rw here at at) in
    rw here (changed_here rows ticket enqueued failure place row (row_at rows ticket) mine)
changed_at_any rows ticket enqueued failure place other row false by_ticket e at =
    let apart : other ≢ ticket = λ same. absurd (grind (arith, nat_tests, e, same)) in
    ap (option_map (λ (x : Row). x.job))
    (sym (row_at_changed_other rows ticket (put_row enqueued failure place) other by_ticket apart) ∙ at)

-- a Put leaves each row its job
pub knows_changed : (rows : List (ℕ × Row)) (ticket : ℕ) (enqueued : Option ℕ)
    (failure : Option Failure) (place : Place) → IsByTicket rows
    → KnowsLess (with_changed rows ticket (put_row enqueued failure place)) rows
knows_changed rows ticket enqueued failure place by_ticket = record {
  by_less = by_ticket_changed rows ticket (put_row enqueued failure place) by_ticket;
  by_more = by_ticket;
  known = λ other row at. changed_at_any rows ticket enqueued failure place other row (other == ticket)
      by_ticket refl at;
}

without_at_any : (rows : List (ℕ × Row)) (ticket other : ℕ) (row : Row) (same : Bool)
    → (other == ticket) ≡ same → row_at (without_row rows ticket) other ≡ Some row
    → option_map (λ (x : Row). x.job) (row_at rows other) ≡ Some row.job
without_at_any rows ticket other row true e at =
    let here : other ≡ ticket = grind (arith, nat_tests, e) in
    let none = row_at_without rows ticket in
    let some = rw here at at in
    absurd (cc)
without_at_any rows ticket other row false e at =
    let apart : other ≢ ticket = λ same. absurd (grind (arith, nat_tests, e, same)) in
    ap (option_map (λ (x : Row). x.job)) (sym (row_at_without_other rows ticket other apart) ∙ at)

pub knows_without : (rows : List (ℕ × Row)) (ticket : ℕ) → IsByTicket rows
    → KnowsLess (without_row rows ticket) rows
knows_without rows ticket by_ticket = record {
  by_less = by_ticket_without rows ticket by_ticket;
  by_more = by_ticket;
  known = λ other row at. without_at_any rows ticket other row (other == ticket) refl at;
}

pub knows_none : (rows : List (ℕ × Row)) → IsByTicket rows → KnowsLess [] rows
knows_none rows by_ticket = record {
  by_less = λ k within. absurd (omega arith);
  by_more = by_ticket;
  known = λ ticket row at. absurd (cc);
}

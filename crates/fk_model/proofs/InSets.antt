-- Which of the rows a MUTATE takes: those that stand in its set, and match where it looks at a filter.
use Rattle.std.proofs.Common.{◌≡◌, ◌∙◌, refl, ℕ, List, [], ◌∷◌, Bool, true, false, filter, arith}
use Rattle.std.specs.Prelude.{All, ◌&&◌, ◌||◌, if◌then◌else◌, is_some, Option, None, Some, IfSome, option_map, option_and_then, filter_map, ◌==◌}
use Rattle.std.specs.List.{list_any}
use Rattle.std.proofs.Math.Bool.{and-false}
use Rattle.std.proofs.lemmas.Bool.Decides.{nat_tests}
use Rattle.std.proofs.lemmas.List.Elements.{All-nil, All-cons, All-head, All-tail, All-weaker}
use Rattle.std.proofs.lemmas.List.Folds.{list_any_none}
use Rattle.fk_model.specs.declared.row.Row.{Row}
use Rattle.fk_model.specs.declared.mutation.Cmd.{Cmd}
use Rattle.fk_model.specs.declared.mutation.Cmd.TheVariants.{Kill, Discard, Requeue, Clear}
use Rattle.fk_model.specs.declared.mutation.Filter.{Filter}
use Rattle.fk_model.specs.declared.mutation.Target.{Target}
use Rattle.fk_model.specs.Rows.{ticket_of, row_of, IsByTicket, filed_at, row_at}
use Rattle.fk_model.specs.State.{KeptState}
use Rattle.fk_model.specs.Orders.{number_in, ticket_in, moment_in, with_ticket, timed}
use Rattle.fk_model.specs.Due.{rows_of}
use Rattle.fk_model.specs.Filters.{row_matches}
use Rattle.fk_model.specs.Mutated.{rows_in, taken}
use Rattle.fk_model.specs.PushEnds.{PushEnd, discarded, cleared, is_in, push_ended_by_mutate}
use Rattle.fk_model.proofs.Cuts.{is_same, is_other}
use Rattle.fk_model.proofs.Tickets.{row_holds}
use Rattle.fk_model.proofs.Standing.{IsNumberOf, each_number}
use Rattle.fk_model.proofs.Chosen.{found_ticket, all_unsorted, all_given}
use Rattle.fk_model.proofs.OfSets.{IsOfSet, set_moment, each_of_set}
use Rattle.fk_model.proofs.Asked.{row_there}

-- the ticket is that of one of these rows
abbrev pub is_among : ℕ → List (ℕ × Row) → Bool
is_among ticket rows = list_any (λ filed. ticket_of filed == ticket) rows

or_true : (one other : Bool) → other ≡ true → (one || other) ≡ true
or_true true other e = refl
or_true false other e = e

-- ---- a set

named_step : (number : Row → Option ℕ) (rows : List (ℕ × Row)) (pair : ℕ × ℕ) (pairs : List (ℕ × ℕ))
    (found : Option (ℕ × Row)) → filed_at rows (ticket_in pair) ≡ found
    → option_and_then number (option_map row_of found) ≡ Some (number_in pair)
    → All (λ one. is_among (ticket_in one) (rows_of rows pairs) ≡ true) pairs
    → All (λ one. is_among (ticket_in one) (rows_of rows (pair ∷ pairs)) ≡ true) (pair ∷ pairs)
named_step number rows pair pairs None e has rest = absurd (cc)
named_step number rows pair pairs (Some filed) e has rest =
    let all = rows_of rows pairs in
    rw e (All-cons (λ one. is_among (ticket_in one) (filed ∷ all) ≡ true) pair pairs
    (rw (is_same (ticket_of filed) (ticket_in pair) (found_ticket rows (ticket_in pair) filed e)) refl)
    (All-weaker (λ one. is_among (ticket_in one) all ≡ true)
    (λ one. is_among (ticket_in one) (filed ∷ all) ≡ true)
    (λ one among. or_true (ticket_of filed == ticket_in one) (is_among (ticket_in one) all) among) pairs rest))

-- each pair names one of the rows of them all
each_named : (number : Row → Option ℕ) (rows : List (ℕ × Row)) (pairs : List (ℕ × ℕ))
    → All (IsNumberOf number rows) pairs
    → All (λ one. is_among (ticket_in one) (rows_of rows pairs) ≡ true) pairs
each_named number rows [] has = All-nil (λ one. is_among (ticket_in one) [] ≡ true)
each_named number rows (pair ∷ pairs) has =
    named_step number rows pair pairs (filed_at rows (ticket_in pair)) refl
    (All-head (IsNumberOf number rows) pair pairs has)
    (each_named number rows pairs (All-tail (IsNumberOf number rows) pair pairs has))

-- each row that has a moment in the set is among its rows
each_in_set : (target : Target) (kept : KeptState) → IsByTicket kept.rows
    → All (λ x. IfSome (with_ticket (set_moment target) x)
    (λ pair. is_among (ticket_in pair) (rows_in target kept) ≡ true)) kept.rows
each_in_set target kept by_ticket =
    let Named = λ (pair : ℕ × ℕ). is_among (ticket_in pair) (rows_in target kept) ≡ true in
    let pairs = filter_map (with_ticket (set_moment target)) kept.rows in
    all_given Named (with_ticket (set_moment target)) kept.rows
    (all_unsorted Named pairs
    (each_named (set_moment target) kept.rows (timed target kept.rows)
    (each_number (set_moment target) kept.rows by_ticket)))

-- a row that has none isn't
not_in_set : (target : Target) (kept : KeptState) (ticket : ℕ) (row : Row) → IsByTicket kept.rows
    → row_at kept.rows ticket ≡ Some row → moment_in target row.place ≡ None
    → is_among ticket (rows_in target kept) ≡ false
not_in_set target kept ticket row by_ticket at none =
    list_any_none (λ filed. ticket_of filed == ticket) (rows_in target kept)
    (All-weaker (IsOfSet target kept.rows) (λ x. (ticket_of x == ticket) ≡ false)
    (λ x is. is_other (ticket_of x) ticket
    (λ same. let there : row_of x ≡ row = row_there kept.rows x ticket row is.stands at same in
    let has = is.has in absurd (cc)))
    (rows_in target kept) (each_of_set target kept by_ticket))

in_set_if : (target : Target) (kept : KeptState) (ticket : ℕ) (row : Row) (moment : Option ℕ)
    → IsByTicket kept.rows → row_at kept.rows ticket ≡ Some row → moment_in target row.place ≡ moment
    → is_among ticket (rows_in target kept) ≡ is_some moment
in_set_if target kept ticket row None by_ticket at e = not_in_set target kept ticket row by_ticket at e
in_set_if target kept ticket row (Some moment) by_ticket at e =
    let named : IfSome (option_map (λ n. (n, ticket)) (moment_in target row.place))
    (λ pair. is_among (ticket_in pair) (rows_in target kept) ≡ true) =
    row_holds (λ x. IfSome (with_ticket (set_moment target) x)
    (λ pair. is_among (ticket_in pair) (rows_in target kept) ≡ true)) kept.rows ticket row
    (each_in_set target kept by_ticket) at in
    let there : is_among ticket (rows_in target kept) ≡ true = rw e at named in there

-- the row of a ticket is among the rows of a set exactly where it stands in it
in_set : (target : Target) (kept : KeptState) (ticket : ℕ) (row : Row) → IsByTicket kept.rows
    → row_at kept.rows ticket ≡ Some row → is_among ticket (rows_in target kept) ≡ is_in target row
in_set target kept ticket row by_ticket at =
    in_set_if target kept ticket row (moment_in target row.place) by_ticket at refl

-- ---- those that match

matching_step : (passes : Row → Bool) (x : ℕ × Row) (xs : List (ℕ × Row)) (ticket : ℕ) (row : Row)
    (here yes : Bool) → (ticket_of x == ticket) ≡ here → passes (row_of x) ≡ yes
    → (ticket_of x ≡ ticket → row_of x ≡ row)
    → is_among ticket (filter (λ y. passes (row_of y)) xs) ≡ (is_among ticket xs && passes row)
    → is_among ticket (filter (λ y. passes (row_of y)) (x ∷ xs)) ≡ (is_among ticket (x ∷ xs) && passes row)
matching_step passes x xs ticket row true true e f there rest =
    let same : row_of x ≡ row = there (grind (arith, nat_tests, e)) in
    let also : passes row ≡ true = rw (← same) f in
    rw (f, e, also) refl
matching_step passes x xs ticket row true false e f there rest =
    let same : row_of x ≡ row = there (grind (arith, nat_tests, e)) in
    let also : passes row ≡ false = rw (← same) f in
    rw (f, e, also) (rest ∙ rw also (and-false (is_among ticket xs)))
matching_step passes x xs ticket row false true e f there rest = rw (f, e) rest
matching_step passes x xs ticket row false false e f there rest = rw (f, e) rest

matching_among : (passes : Row → Bool) (rows xs : List (ℕ × Row)) (ticket : ℕ) (row : Row)
    → row_at rows ticket ≡ Some row → All (λ x. row_at rows (ticket_of x) ≡ Some (row_of x)) xs
    → is_among ticket (filter (λ y. passes (row_of y)) xs) ≡ (is_among ticket xs && passes row)
matching_among passes rows [] ticket row at each = refl
matching_among passes rows (x ∷ xs) ticket row at each =
    let Stands = λ (y : ℕ × Row). row_at rows (ticket_of y) ≡ Some (row_of y) in
    matching_step passes x xs ticket row (ticket_of x == ticket) (passes (row_of x)) refl refl
    (row_there rows x ticket row (All-head Stands x xs each) at)
    (matching_among passes rows xs ticket row at (All-tail Stands x xs each))

-- ---- how a MUTATE ends a push

-- how a MUTATE ends the push of a row that it takes
abbrev pub push_ended_taken : Cmd → Option PushEnd
push_ended_taken Kill = None
push_ended_taken Discard = Some discarded
push_ended_taken Requeue = None
push_ended_taken Clear = Some cleared

none_either : (so : Bool) → ◌≡◌ {A = Option PushEnd} None (if so then None else None)
none_either true = refl
none_either false = refl

-- it ends that of a row exactly where it takes the row
pub mutate_ends : (cmd : Cmd) (target : Target) (filter : Filter) (kept : KeptState) (ticket : ℕ) (row : Row)
    → IsByTicket kept.rows → row_at kept.rows ticket ≡ Some row
    → push_ended_by_mutate cmd target filter row
    ≡ (if is_among ticket (taken cmd target filter kept) then push_ended_taken cmd else None)
mutate_ends Kill target filter kept ticket row by_ticket at =
    none_either (is_among ticket (taken Kill target filter kept))
mutate_ends Discard target filter kept ticket row by_ticket at =
    rw (
      matching_among (row_matches filter) kept.rows (rows_in target kept) ticket row at
          (All-weaker (IsOfSet target kept.rows) (λ x. row_at kept.rows (ticket_of x) ≡ Some (row_of x))
          (λ x is. is.stands) (rows_in target kept) (each_of_set target kept by_ticket)),
      in_set target kept ticket row by_ticket at,
    ) refl
mutate_ends Requeue target filter kept ticket row by_ticket at =
    none_either (is_among ticket (taken Requeue target filter kept))
mutate_ends Clear target filter kept ticket row by_ticket at = rw (in_set target kept ticket row by_ticket at) refl

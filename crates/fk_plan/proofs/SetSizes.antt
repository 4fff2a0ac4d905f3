-- How many rows stand in a set by moment, and how many workers have, once the state was brought up to date.
use Rattle.std.proofs.Common.{◌≡◌, ◌∙◌, sym, ap, refl, ℕ, ◌+◌, ◌<◌, ◌≤◌, List, [], ◌∷◌, Bool, true, false, not, filter, length, map, arith}
use Rattle.std.specs.Prelude.{All, Option, None, Some, IfSome, is_some, nat_lt, filter_map}
use Rattle.std.specs.Option.{option_map_or}
use Rattle.std.proofs.lemmas.Bool.Decides.{nat_tests}
use Rattle.std.proofs.lemmas.Option.{same_Some}
use Rattle.std.proofs.lemmas.List.Elements.{All-head, All-tail, All-weaker}
use Rattle.std.proofs.lemmas.List.Filters.{length-filter_both}
use Rattle.std.proofs.lemmas.List.Sums.{length-filter}
use Rattle.fk_time.specs.Moments.{greatest}
use Rattle.fk_model.specs.declared.row.Row.{Row}
use Rattle.fk_model.specs.declared.place.Place.{Place}
use Rattle.fk_model.specs.declared.place.Place.TheVariants.{Queued, Scheduled, Retry, Dead, Working}
use Rattle.fk_model.specs.declared.mutation.Target.{Target}
use Rattle.fk_model.specs.declared.mutation.Target.TheVariants as target
use Rattle.fk_model.specs.Rows.{ticket_of, row_of}
use Rattle.fk_model.specs.State.{KeptState}
use Rattle.fk_model.specs.Orders.{number_in, leased_until, is_working, moment_in, timed, with_ticket, working}
use Rattle.fk_model.specs.Between.{IsWellKept}
use Rattle.fk_model.specs.Due.{leaves_at, waits_until, has_come, up_to, over, expired, due}
use Rattle.fk_model.specs.Failing.{expiry}
use Rattle.fk_model.specs.Bringing.{brought_up, move_for, moves_up}
use Rattle.fk_model.proofs.Chosen.{IsChosen, each_chosen}
use Rattle.fk_model.proofs.Counted.{one_if}
use Rattle.fk_model.proofs.Falling.{dead_moment, lease_moment, wait_moment, each_ended}
use Rattle.fk_model.proofs.Outcomes.{Outcome, ticket_in, row_in, told_by}
use Rattle.fk_model.proofs.Settling.{IsLater, StaysOn}
use Rattle.fk_model.proofs.Sorting.{are_the_same}
use Rattle.fk_model.proofs.BroughtUp.{outcomes_due, all_three, leaving_all, failing_all, entering_all, told_due}
use Rattle.fk_model.proofs.UpToDate.{due_on, up_to_date}
use Rattle.fk_core.specs.Lookups.{outlasts}
use Rattle.fk_core.specs.Sets.{stands_at}
use Rattle.fk_core.proofs.Whereabouts.{count_first, timed_count}
use Rattle.fk_plan.specs.Tallies.{puts, count_put}
use Rattle.fk_plan.proofs.Held.{is_held, working_up}
use Rattle.fk_plan.proofs.HowMany.{is_there, rows_there, moves_there, up_there}

-- a place is in a set beyond a moment
abbrev is_beyond : Target → ℕ → Place → Bool
is_beyond target moment place = option_map_or (nat_lt moment) (moment_in target place) false

-- ---- the moment of a row in a set is the one at which it leaves

moment_leaves : (target : Target) (place : Place) (at : ℕ) → moment_in target place ≡ Some at
    → leaves_at place ≡ Some at
moment_leaves target.Scheduled (Scheduled when) at e = e
moment_leaves target.Retries (Retry when) at e = e
moment_leaves target.Dead (Dead until) at e = e
moment_leaves target.Scheduled (Queued rank) at e = absurd (cc)
moment_leaves target.Scheduled (Retry when) at e = absurd (cc)
moment_leaves target.Scheduled (Dead until) at e = absurd (cc)
moment_leaves target.Scheduled (Working wid since until) at e = absurd (cc)
moment_leaves target.Retries (Queued rank) at e = absurd (cc)
moment_leaves target.Retries (Scheduled when) at e = absurd (cc)
moment_leaves target.Retries (Dead until) at e = absurd (cc)
moment_leaves target.Retries (Working wid since until) at e = absurd (cc)
moment_leaves target.Dead (Queued rank) at e = absurd (cc)
moment_leaves target.Dead (Scheduled when) at e = absurd (cc)
moment_leaves target.Dead (Retry when) at e = absurd (cc)
moment_leaves target.Dead (Working wid since until) at e = absurd (cc)

lease_leaves : (place : Place) (at : ℕ) → leased_until place ≡ Some at → leaves_at place ≡ Some at
lease_leaves (Queued rank) at e = absurd (cc)
lease_leaves (Scheduled when) at e = absurd (cc)
lease_leaves (Retry when) at e = absurd (cc)
lease_leaves (Dead until) at e = absurd (cc)
lease_leaves (Working wid since until) at e = e

wait_leaves : (place : Place) (at : ℕ) → waits_until place ≡ Some at → leaves_at place ≡ Some at
wait_leaves (Queued rank) at e = absurd (cc)
wait_leaves (Scheduled when) at e = e
wait_leaves (Retry when) at e = e
wait_leaves (Dead until) at e = absurd (cc)
wait_leaves (Working wid since until) at e = absurd (cc)

-- a row that leaves its place by now isn't beyond the moment
gone : (moment at : ℕ) (leaves given : Option ℕ) → leaves ≡ Some at → at ≤ moment
    → ((x : ℕ) → given ≡ Some x → leaves ≡ Some x) → option_map_or (nat_lt moment) given false ≡ false
gone moment at leaves None e come follows = refl
gone moment at leaves (Some x) e come follows =
    let same = same_Some at x (sym e ∙ follows x refl) in grind (arith, nat_tests, come, same)

place_gone : (target : Target) (moment at : ℕ) (place : Place) → leaves_at place ≡ Some at → at ≤ moment
    → is_beyond target moment place ≡ false
place_gone target moment at place e come =
    gone moment at (leaves_at place) (moment_in target place) e come (moment_leaves target place)

due_gone : (set : Target) (kept : KeptState) (moment word : ℕ) → IsWellKept kept
    → All (λ one. is_beyond set moment (row_in one).place ≡ false) (outcomes_due kept moment word)
due_gone set kept moment word well =
    let Gone = λ (one : Outcome). is_beyond set moment (row_in one).place ≡ false in
    all_three Gone kept moment word
    (leaving_all Gone (IsChosen dead_moment moment kept.rows) (over kept moment)
    (λ filed is. place_gone set moment is.at (row_of filed).place
    (moment_leaves target.Dead (row_of filed).place is.at is.has) is.come)
    (each_chosen dead_moment moment kept.rows well.by_ticket))
    (failing_all Gone (IsChosen lease_moment moment kept.rows) expiry moment word (expired kept moment)
    (λ filed is. place_gone set moment is.at (row_of filed).place
    (lease_leaves (row_of filed).place is.at is.has) is.come)
    (each_ended moment kept.rows well.by_ticket))
    (entering_all Gone (IsChosen wait_moment moment kept.rows) moment kept.next
    (kept.next + length (due kept moment)) (due kept moment) (omega arith)
    (λ rank filed below is. place_gone set moment is.at (row_of filed).place
    (wait_leaves (row_of filed).place is.at is.has) is.come)
    (each_chosen wait_moment moment kept.rows well.by_ticket))

-- ---- where nothing is due, each row of a set is beyond the moment

still : (moment : ℕ) (leaves given : Option ℕ) → IfSome leaves (λ at. moment < at)
    → ((x : ℕ) → given ≡ Some x → leaves ≡ Some x) → option_map_or (nat_lt moment) given false ≡ is_some given
still moment leaves None later follows = refl
still moment leaves (Some x) later follows =
    let here : moment < x = rw (follows x refl) at later in grind (arith, nat_tests, here)

place_still : (target : Target) (moment : ℕ) (row : Row) → IsLater moment row
    → is_beyond target moment row.place ≡ stands_at target row.place
place_still target moment row later =
    still moment (leaves_at row.place) (moment_in target row.place) later (moment_leaves target row.place)

same_counted : {X : Type 0} (p q : X → Bool) (xs : List X) → All (λ x. p x ≡ q x) xs
    → length (filter p xs) ≡ length (filter q xs)
same_counted p q [] same = refl
same_counted p q (x ∷ xs) same =
    let rest = same_counted p q xs (All-tail (λ y. p y ≡ q y) x xs same) in
    let first = count_first p x xs (q x) (All-head (λ y. p y ≡ q y) x xs same) in
    let other = count_first q x xs (q x) refl in
    omega (arith, rest, first, other)

-- the same of the moves
put_still : (target : Target) (moment ticket : ℕ) (becomes : Option Row) → IfSome becomes (IsLater moment)
    → puts (is_beyond target moment) (move_for ticket becomes) ≡ puts (stands_at target) (move_for ticket becomes)
put_still target moment ticket None later = refl
put_still target moment ticket (Some row) later = place_still target moment row later

puts_still : (target : Target) (moment : ℕ) (all : List Outcome) → All (StaysOn moment) all
    → length (moves_there (is_beyond target moment) (map told_by all))
    ≡ length (moves_there (stands_at target) (map told_by all))
puts_still target moment [] on = refl
puts_still target moment (one ∷ all) on =
    let rest = puts_still target moment all (All-tail (StaysOn moment) one all on) in
    let here = put_still target moment (ticket_in one) one.becomes (All-head (StaysOn moment) one all on) in
    let first = count_first (puts (is_beyond target moment)) (told_by one) (map told_by all) _ here in
    let other = count_first (puts (stands_at target)) (told_by one) (map told_by all) _ refl in
    omega (arith, rest, first, other)

-- ---- those of the tables that stay

abbrev later_pair : ℕ → ℕ × ℕ → Bool
later_pair moment pair = nat_lt moment (number_in pair)

beyond_step : (target : Target) (moment : ℕ) (filed : ℕ × Row) (rows : List (ℕ × Row)) (given : Option ℕ)
    → moment_in target (row_of filed).place ≡ given
    → length (filter (later_pair moment) (filter_map (with_ticket (λ row. moment_in target row.place)) rows))
    ≡ length (rows_there (is_beyond target moment) rows)
    → length (filter (later_pair moment) (filter_map (with_ticket (λ row. moment_in target row.place)) (filed ∷ rows)))
    ≡ length (rows_there (is_beyond target moment) (filed ∷ rows))
beyond_step target moment filed rows None e rest = rw e rest
beyond_step target moment filed rows (Some at) e rest =
    let pairs = filter_map (with_ticket (λ row. moment_in target row.place)) rows in
    let first = count_first (later_pair moment) (at, ticket_of filed) pairs (nat_lt moment at) refl in
    let other = count_first (is_there (is_beyond target moment)) filed rows (nat_lt moment at) (rw e refl) in
    let whole : filter_map (with_ticket (λ row. moment_in target row.place)) (filed ∷ rows)
    ≡ (at, ticket_of filed) ∷ pairs = rw e refl in
    ap (λ all. length (filter (later_pair moment) all)) whole ∙ first
    ∙ ap (λ n. one_if (nat_lt moment at) + n) rest ∙ sym other

all_beyond : (target : Target) (moment : ℕ) (rows : List (ℕ × Row))
    → length (filter (later_pair moment) (filter_map (with_ticket (λ row. moment_in target row.place)) rows))
    ≡ length (rows_there (is_beyond target moment) rows)
all_beyond target moment [] = refl
all_beyond target moment (filed ∷ rows) =
    beyond_step target moment filed rows (moment_in target (row_of filed).place) refl
    (all_beyond target moment rows)

-- those whose moment has come, and those whose moment is still to come
pub both_parts : (target : Target) (moment : ℕ) (rows : List (ℕ × Row))
    → length (up_to moment (timed target rows)) + length (rows_there (is_beyond target moment) rows)
    ≡ length (timed target rows)
both_parts target moment rows =
    let pairs = filter_map (with_ticket (λ row. moment_in target row.place)) rows in
    let whole = length-filter_both (later_pair moment) (λ pair. not (later_pair moment pair)) (λ pair. refl)
    (timed target rows) in
    let sorted = length-filter (later_pair moment) (timed target rows) ∙ are_the_same (later_pair moment) pairs
    ∙ sym (length-filter (later_pair moment) pairs) ∙ all_beyond target moment rows in
    omega (arith, whole, sorted)

-- ---- the sizes

-- a set loses those whose moment has come, and gains those that were put there
pub timed_up : (target : Target) (kept : KeptState) (moment word : ℕ) → IsWellKept kept → moment < greatest
    → length (timed target (brought_up kept moment word).rows) + length (up_to moment (timed target kept.rows))
    ≡ length (timed target kept.rows) + count_put target (moves_up kept moment word)
timed_up target kept moment word well told =
    let up = (brought_up kept moment word).rows in
    let set = timed_count target up in
    let late = same_counted (is_there (is_beyond target moment)) (is_there (stands_at target)) up
    (All-weaker (λ filed. IsLater moment (row_of filed))
    (λ filed. is_there (is_beyond target moment) filed ≡ is_there (stands_at target) filed)
    (λ filed. place_still target moment (row_of filed)) up (up_to_date kept moment word well told)) in
    let there = up_there (is_beyond target moment) kept moment word well (due_gone target kept moment word well) in
    let moved = puts_still target moment (outcomes_due kept moment word) (due_on kept moment word well told) in
    let made = ap (λ moves. length (moves_there (is_beyond target moment) moves)) (told_due kept moment word) in
    let makes = ap (λ moves. length (moves_there (stands_at target) moves)) (told_due kept moment word) in
    let counted = length-filter (puts (stands_at target)) (moves_up kept moment word) in
    let parts = both_parts target moment kept.rows in
    omega (arith, set, late, there, moved, made, makes, counted, parts)

one_held : (moment : ℕ) (place : Place)
    → one_if (is_working place) ≡ one_if (outlasts moment place) + one_if (has_come moment (leased_until place))
one_held moment (Queued rank) = refl
one_held moment (Scheduled at) = refl
one_held moment (Retry at) = refl
one_held moment (Dead until) = refl
one_held moment (Working wid since until) = either (nat_lt moment until)
  where
    either : (test : Bool) → 1 ≡ one_if test + one_if (not test)
    either true = refl
    either false = refl

all_working : (moment : ℕ) (rows : List (ℕ × Row))
    → length (working rows) ≡ length (filter (is_held moment) rows)
    + length (filter (λ filed. has_come moment (leased_until (row_of filed).place)) rows)
all_working moment [] = refl
all_working moment (filed ∷ rows) =
    let rest = all_working moment rows in
    let one = one_held moment (row_of filed).place in
    let whole = count_first (λ x. is_working (row_of x).place) filed rows _ refl in
    let held = count_first (is_held moment) filed rows _ refl in
    let come = count_first (λ x. has_come moment (leased_until (row_of x).place)) filed rows _ refl in
    omega (arith, rest, one, whole, held, come)

-- workers lose those whose reservation has run out
pub working_fewer : (kept : KeptState) (moment word : ℕ) → IsWellKept kept → moment < greatest
    → length (working kept.rows) ≡ length (working (brought_up kept moment word).rows) + length (expired kept moment)
working_fewer kept moment word well told =
    let up = ap length (working_up kept moment word well told) in
    let all = all_working moment kept.rows in
    omega (arith, up, all)

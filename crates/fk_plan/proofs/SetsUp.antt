-- A set by moment once the state was brought up to date: those whose moment is still to come, and those of the rows
-- that its moves put there.
use Rattle.std.proofs.Common.{◌≡◌, ◌∙◌, sym, ap, refl, ℕ, ◌+◌, ◌<◌, ◌≤◌, List, [], ◌∷◌, ◌++◌, Bool, true, false, map, length, append-nil, arith}
use Rattle.std.specs.Prelude.{All, if◌then◌else◌, Option, None, Some, IfSome, nat_lt, option_map, option_and_then, filter_map, fold}
use Rattle.std.proofs.lemmas.Bool.Decides.{nat_tests}
use Rattle.std.proofs.lemmas.List.Elements.{All-head, All-tail}
use Rattle.std.proofs.lemmas.List.Sums.{sum_by-append}
use Rattle.fk_time.specs.Moments.{greatest}
use Rattle.fk_model.specs.declared.row.Row.{Row}
use Rattle.fk_model.specs.declared.place.Place.{Place}
use Rattle.fk_model.specs.declared.place.Place.TheVariants.{Scheduled, Retry, Dead, Working}
use Rattle.fk_model.specs.declared.mutation.Target.{Target}
use Rattle.fk_model.specs.declared.mutation.Target.TheVariants as target
use Rattle.fk_model.specs.Rows.{ticket_of, row_of, IsByTicket, row_at}
use Rattle.fk_model.specs.State.{KeptState}
use Rattle.fk_model.specs.Orders.{number_in, in_order, moment_in, leased_until, timed, with_ticket}
use Rattle.fk_model.specs.Between.{IsWellKept}
use Rattle.fk_model.specs.Due.{leaves_at, waits_until, over, expired, due}
use Rattle.fk_model.specs.Failing.{expiry, with_outcome}
use Rattle.fk_model.specs.Bringing.{brought_up, moves_up}
use Rattle.fk_model.proofs.Insertion.{sorted_around}
use Rattle.fk_model.proofs.Sorting.{are_the_same}
use Rattle.fk_model.proofs.SamePairs.{same_sorted}
use Rattle.fk_model.proofs.Ordered.{filter_sorted}
use Rattle.fk_model.proofs.Numbered.{numbered, gained, numbered_with, numbered_none_less}
use Rattle.fk_model.proofs.Outcomes.{Outcome, ticket_in, row_in, told_by, rows_with, new_rank, behind_rank}
use Rattle.fk_model.proofs.Settling.{IsLater, StaysOn, AreOutcomes}
use Rattle.fk_model.proofs.Chosen.{IsChosen, each_chosen}
use Rattle.fk_model.proofs.Fates.{failed_on}
use Rattle.fk_model.proofs.Falling.{dead_moment, lease_moment, wait_moment, each_ended}
use Rattle.fk_model.proofs.BroughtUp.{outcomes_due, all_three, leaving_all, failing_all, entering_all, are_outcomes, told_due}
use Rattle.fk_model.proofs.UpToDate.{up_rows, up_to_date}
use Rattle.fk_plan.specs.Choosing.{beyond, entry_in, fresh, set_behind}
use Rattle.fk_plan.proofs.Behind.{rest_of}

-- ---- a moment that is still to come

-- a moment, if it is still to come
abbrev later_in : ℕ → Option ℕ → Option ℕ
later_in moment None = None
later_in moment (Some at) = if nat_lt moment at then Some at else None

-- when a row's moment in a set is, if that is still to come
abbrev later_moment : Target → ℕ → Row → Option ℕ
later_moment chosen moment row = later_in moment (moment_in chosen row.place)

-- its moment in the set
abbrev set_moment : Target → Row → Option ℕ
set_moment chosen row = moment_in chosen row.place

later_step : (chosen : Target) (moment : ℕ) (filed : ℕ × Row) (rows : List (ℕ × Row)) (given : Option ℕ)
    (passes : Bool) → set_moment chosen (row_of filed) ≡ given
    → IfSome given (λ at. nat_lt moment at ≡ passes)
    → beyond moment (filter_map (with_ticket (set_moment chosen)) rows)
    ≡ filter_map (with_ticket (later_moment chosen moment)) rows
    → beyond moment (filter_map (with_ticket (set_moment chosen)) (filed ∷ rows))
    ≡ filter_map (with_ticket (later_moment chosen moment)) (filed ∷ rows)
later_step chosen moment filed rows None passes e f rest = rw e rest
later_step chosen moment filed rows (Some at) true e f rest =
    rw (e, f) (ap (λ xs. (at, ticket_of filed) ∷ xs) rest)
later_step chosen moment filed rows (Some at) false e f rest = rw (e, f) rest

passes_of : (moment : ℕ) (given : Option ℕ) → (passes : Bool) × IfSome given (λ at. nat_lt moment at ≡ passes)
passes_of moment None = (true, tt)
passes_of moment (Some at) = (nat_lt moment at, refl)

beyond_pairs : (chosen : Target) (moment : ℕ) (rows : List (ℕ × Row))
    → beyond moment (filter_map (with_ticket (set_moment chosen)) rows)
    ≡ filter_map (with_ticket (later_moment chosen moment)) rows
beyond_pairs chosen moment [] = refl
beyond_pairs chosen moment (filed ∷ rows) =
    let test = passes_of moment (set_moment chosen (row_of filed)) in
    later_step chosen moment filed rows (set_moment chosen (row_of filed)) test.0 refl test.1
    (beyond_pairs chosen moment rows)

-- those of a set that are still to come
beyond_timed : (chosen : Target) (moment : ℕ) (rows : List (ℕ × Row))
    → beyond moment (timed chosen rows) ≡ numbered (later_moment chosen moment) rows
beyond_timed chosen moment rows =
    filter_sorted (λ pair. nat_lt moment (number_in pair)) (filter_map (with_ticket (set_moment chosen)) rows)
    ∙ ap in_order (beyond_pairs chosen moment rows)

-- ---- a place where a row stays on, or that it leaves

is_later : (moment at : ℕ) → moment < at → nat_lt moment at ≡ true
is_later moment at later = grind (arith, nat_tests, later)

is_over : (moment at : ℕ) → at ≤ moment → nat_lt moment at ≡ false
is_over moment at come = grind (arith, nat_tests, come)

later_same : (chosen : Target) (moment : ℕ) (place : Place) → IfSome (leaves_at place) (λ at. moment < at)
    → later_in moment (moment_in chosen place) ≡ moment_in chosen place
later_same target.Scheduled moment (Scheduled at) later = rw (is_later moment at later) refl
later_same target.Retries moment (Retry at) later = rw (is_later moment at later) refl
later_same target.Dead moment (Dead until) later = rw (is_later moment until later) refl
later_same chosen moment elsewhere later = refl

came_none : (chosen : Target) (moment : ℕ) (place : Place) (at : ℕ) → leaves_at place ≡ Some at → at ≤ moment
    → later_in moment (moment_in chosen place) ≡ None
came_none target.Scheduled moment (Scheduled when) at e come =
    let same : when ≡ at = cc in rw (same, is_over moment at come) refl
came_none target.Retries moment (Retry when) at e come =
    let same : when ≡ at = cc in rw (same, is_over moment at come) refl
came_none target.Dead moment (Dead until) at e come =
    let same : until ≡ at = cc in rw (same, is_over moment at come) refl
came_none chosen moment elsewhere at e come = refl

dead_leaves : (place : Place) (at : ℕ) → moment_in target.Dead place ≡ Some at → leaves_at place ≡ Some at
dead_leaves (Dead until) at e = e
dead_leaves elsewhere at e = absurd (cc)

lease_leaves : (place : Place) (at : ℕ) → leased_until place ≡ Some at → leaves_at place ≡ Some at
lease_leaves (Working wid since until) at e = e
lease_leaves elsewhere at e = absurd (cc)

wait_leaves : (place : Place) (at : ℕ) → waits_until place ≡ Some at → leaves_at place ≡ Some at
wait_leaves (Scheduled when) at e = e
wait_leaves (Retry when) at e = e
wait_leaves elsewhere at e = absurd (cc)

-- ---- one row

-- a row that had no number gets one, or none
one_gained : (number : Row → Option ℕ) (rows : List (ℕ × Row)) (ticket : ℕ) (row : Row) (becomes : Option Row)
    → IsByTicket rows → row_at rows ticket ≡ Some row → number row ≡ None
    → numbered number (with_outcome rows ticket becomes)
    ≡ gained (option_and_then number becomes) ticket (numbered number rows)
one_gained number rows ticket row None by_ticket at had = numbered_none_less number rows ticket row by_ticket at had
one_gained number rows ticket row (Some new) by_ticket at had =
    numbered_with number rows ticket new by_ticket
    ∙ ap (gained (number new) ticket) (numbered_none_less number rows ticket row by_ticket at had)

-- ---- all of them

-- the number that the row of an outcome has then, if it has one, with its ticket
abbrev number_then : (Row → Option ℕ) → Outcome → Option (ℕ × ℕ)
number_then number one = option_map (λ n. (n, ticket_in one)) (option_and_then number one.becomes)

abbrev HadNone : (Row → Option ℕ) → Outcome → Type 0
HadNone number one = number (row_in one) ≡ None

gain_step : (number : Row → Option ℕ) (pairs : List (ℕ × ℕ)) (one : Outcome) (all : List Outcome)
    (given : Option ℕ) (rows : List (ℕ × ℕ)) → option_and_then number one.becomes ≡ given
    → ((more : List (ℕ × ℕ)) → gained given (ticket_in one) (in_order pairs) ≡ in_order more
    → rows ≡ in_order (more ++ filter_map (number_then number) all))
    → rows ≡ in_order (pairs ++ filter_map (number_then number) (one ∷ all))
unfolding in_order
gain_step number pairs one all None rows e rest = rw e (rest pairs refl)
gain_step number pairs one all (Some n) rows e rest =
    rw e (rest ((n, ticket_in one) ∷ pairs) refl
    ∙ sym (sorted_around pairs (filter_map (number_then number) all) (n, ticket_in one)))

all_gained : (number : Row → Option ℕ) (n m : ℕ) (rows : List (ℕ × Row)) (all : List Outcome)
    (pairs : List (ℕ × ℕ)) → AreOutcomes n m rows all → All (HadNone number) all
    → numbered number rows ≡ in_order pairs
    → numbered number (fold rows_with rows all) ≡ in_order (pairs ++ filter_map (number_then number) all)
all_gained number n m rows [] pairs are none same = same ∙ ap in_order (sym (append-nil pairs))
all_gained number n m rows (one ∷ all) pairs are none same =
    let step = one_gained number rows (ticket_in one) (row_in one) one.becomes are.by_ticket
    (All-head (λ x. row_at rows (ticket_in x) ≡ Some (row_in x)) one all are.stand)
    (All-head (HadNone number) one all none)
    ∙ ap (gained (option_and_then number one.becomes) (ticket_in one)) same in
    gain_step number pairs one all (option_and_then number one.becomes)
    (numbered number (fold rows_with rows (one ∷ all))) refl
    (λ more is. all_gained number (behind_rank n (new_rank one.becomes)) m (rows_with rows one) all more
    (rest_of n m rows one all are) (All-tail (HadNone number) one all none) (step ∙ is))

-- ---- those that are due

none_had : (chosen : Target) (kept : KeptState) (moment word : ℕ) → IsWellKept kept
    → All (HadNone (later_moment chosen moment)) (outcomes_due kept moment word)
none_had chosen kept moment word well =
    let None_ = HadNone (later_moment chosen moment) in
    all_three None_ kept moment word
    (leaving_all None_ (IsChosen dead_moment moment kept.rows) (over kept moment)
    (λ filed is. came_none chosen moment (row_of filed).place is.at
    (dead_leaves (row_of filed).place is.at is.has) is.come)
    (each_chosen dead_moment moment kept.rows well.by_ticket))
    (failing_all None_ (IsChosen lease_moment moment kept.rows) expiry moment word (expired kept moment)
    (λ filed is. came_none chosen moment (row_of filed).place is.at
    (lease_leaves (row_of filed).place is.at is.has) is.come)
    (each_ended moment kept.rows well.by_ticket))
    (entering_all None_ (IsChosen wait_moment moment kept.rows) moment kept.next
    (kept.next + length (due kept moment)) (due kept moment) (omega arith)
    (λ rank filed below is. came_none chosen moment (row_of filed).place is.at
    (wait_leaves (row_of filed).place is.at is.has) is.come)
    (each_chosen wait_moment moment kept.rows well.by_ticket))

-- each stays then where it is until later
stay_on : (kept : KeptState) (moment word : ℕ) → IsWellKept kept → moment < greatest
    → All (StaysOn moment) (outcomes_due kept moment word)
stay_on kept moment word well told =
    all_three (StaysOn moment) kept moment word
    (leaving_all (StaysOn moment) (IsChosen dead_moment moment kept.rows) (over kept moment) (λ filed is. tt)
    (each_chosen dead_moment moment kept.rows well.by_ticket))
    (failing_all (StaysOn moment) (IsChosen lease_moment moment kept.rows) expiry moment word
    (expired kept moment) (λ filed is. failed_on expiry moment word filed told)
    (each_ended moment kept.rows well.by_ticket))
    (entering_all (StaysOn moment) (IsChosen wait_moment moment kept.rows) moment kept.next
    (kept.next + length (due kept moment)) (due kept moment) (omega arith) (λ rank filed below is. tt)
    (each_chosen wait_moment moment kept.rows well.by_ticket))

-- ---- what the moves tell of it

one_told : (chosen : Target) (moment ticket : ℕ) (filed : ℕ × Row) (becomes : Option Row)
    → IfSome becomes (IsLater moment)
    → number_then (later_moment chosen moment) (record { filed = filed; becomes = becomes })
    ≡ entry_in chosen (told_by (record { filed = filed; becomes = becomes }))
one_told chosen moment ticket filed None later = refl
one_told chosen moment ticket filed (Some new) later =
    ap (option_map (λ n. (n, ticket_of filed))) (later_same chosen moment new.place later)

pub same_given : {X Y Z : Type 0} (f : X → Option Z) (g : Y → Option Z) (x : X) (y : Y) (xs : List X) (ys : List Y)
    (given : Option Z) → f x ≡ given → g y ≡ given → filter_map f xs ≡ filter_map g ys
    → filter_map f (x ∷ xs) ≡ filter_map g (y ∷ ys)
same_given f g x y xs ys None e d rest = rw (e, d) rest
same_given f g x y xs ys (Some z) e d rest = rw (e, d) (ap (λ zs. z ∷ zs) rest)

all_told : (chosen : Target) (moment : ℕ) (all : List Outcome) → All (StaysOn moment) all
    → filter_map (number_then (later_moment chosen moment)) all ≡ fresh chosen (map told_by all)
all_told chosen moment [] on = refl
all_told chosen moment (one ∷ all) on =
    same_given (number_then (later_moment chosen moment)) (entry_in chosen) one (told_by one) all (map told_by all)
    (entry_in chosen (told_by one))
    (one_told chosen moment (ticket_in one) one.filed one.becomes (All-head (StaysOn moment) one all on)) refl
    (all_told chosen moment all (All-tail (StaysOn moment) one all on))

-- ---- the set

abbrev one_for : (ℕ × ℕ → Bool) → ℕ × ℕ → ℕ
one_for test pair = if test pair then 1 else 0

-- what is sorted may be sorted before
sorted_front : (xs ys : List (ℕ × ℕ)) → in_order (xs ++ ys) ≡ in_order (in_order xs ++ ys)
sorted_front xs ys =
    same_sorted (xs ++ ys) (in_order xs ++ ys)
    (λ test.
    let front = are_the_same test xs in
    let parts = sum_by-append (one_for test) (in_order xs) ys in
    let whole = sum_by-append (one_for test) xs ys in
    omega (arith, front, parts, whole))

all_later : (chosen : Target) (moment : ℕ) (rows : List (ℕ × Row)) → All (λ filed. IsLater moment (row_of filed)) rows
    → filter_map (with_ticket (set_moment chosen)) rows
    ≡ filter_map (with_ticket (later_moment chosen moment)) rows
all_later chosen moment [] later = refl
all_later chosen moment (filed ∷ rows) later =
    same_given (with_ticket (set_moment chosen)) (with_ticket (later_moment chosen moment)) filed filed rows rows
    (with_ticket (set_moment chosen) filed) refl
    (ap (option_map (λ n. (n, ticket_of filed))) (later_same chosen moment (row_of filed).place
    (All-head (λ x. IsLater moment (row_of x)) filed rows later)))
    (all_later chosen moment rows (All-tail (λ x. IsLater moment (row_of x)) filed rows later))

-- a set of the state that was brought up to date
pub set_up : (chosen : Target) (kept : KeptState) (moment word : ℕ) → IsWellKept kept → moment < greatest
    → timed chosen (brought_up kept moment word).rows
    ≡ set_behind chosen kept.rows moment (moves_up kept moment word)
set_up chosen kept moment word well told =
    let all = outcomes_due kept moment word in
    let number = later_moment chosen moment in
    let before = filter_map (with_ticket number) kept.rows in
    ap in_order (all_later chosen moment (brought_up kept moment word).rows
    (up_to_date kept moment word well told))
    ∙ ap (numbered number) (up_rows kept moment word)
    ∙ all_gained number kept.next (kept.next + length (due kept moment)) kept.rows all before
    (are_outcomes kept moment word well) (none_had chosen kept moment word well) refl
    ∙ sorted_front before (filter_map (number_then number) all)
    ∙ rw (
      ← beyond_timed chosen moment kept.rows,
      all_told chosen moment all (stay_on kept moment word well told),
      told_due kept moment word,
    ) refl

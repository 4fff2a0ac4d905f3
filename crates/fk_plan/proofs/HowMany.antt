-- How many rows stand where a test says so, once the state was brought up to date: those that stood there and stay,
-- and those that moves put there.
use Rattle.std.proofs.Common.{◌≡◌, ap, refl, ℕ, ◌+◌, List, [], ◌∷◌, Bool, true, false, filter, length, map, arith}
use Rattle.std.specs.Prelude.{All, Option, None, Some, IsTrue, fold}
use Rattle.std.proofs.lemmas.List.Elements.{All-head, All-tail}
use Rattle.fk_model.specs.declared.row.Row.{Row}
use Rattle.fk_model.specs.declared.place.Place.{Place}
use Rattle.fk_model.specs.declared.place.Place.TheVariants.{Queued, Scheduled, Retry, Dead, Working}
use Rattle.fk_model.specs.declared.move_.Move.{Move}
use Rattle.fk_model.specs.Rows.{row_of, IsByTicket, row_at}
use Rattle.fk_model.specs.State.{KeptState}
use Rattle.fk_model.specs.Orders.{is_queued, rank_of}
use Rattle.fk_model.specs.Info.{waiting}
use Rattle.fk_model.specs.Between.{IsWellKept}
use Rattle.fk_model.specs.Due.{due}
use Rattle.fk_model.specs.Failing.{with_outcome}
use Rattle.fk_model.specs.Bringing.{brought_up, move_for, moves_up}
use Rattle.fk_model.proofs.Counted.{one_if, count_with, count_standing}
use Rattle.fk_model.proofs.Outcomes.{Outcome, ticket_in, row_in, told_by, rows_with, new_rank, HasRank, behind_rank}
use Rattle.fk_model.proofs.Settling.{AreRanked, AreOutcomes}
use Rattle.fk_model.proofs.BroughtUp.{outcomes_due, are_outcomes, told_due}
use Rattle.fk_model.proofs.UpToDate.{up_rows}
use Rattle.fk_core.proofs.Whereabouts.{count_first}
use Rattle.fk_plan.specs.Tallies.{puts}
use Rattle.fk_plan.proofs.Behind.{rest_of}

-- a row stands where a test says so
abbrev pub is_there : (Place → Bool) → ℕ × Row → Bool
is_there test filed = test (row_of filed).place

-- the rows that do
abbrev pub rows_there : (Place → Bool) → List (ℕ × Row) → List (ℕ × Row)
rows_there test rows = filter (is_there test) rows

-- the moves that put a row there
abbrev pub moves_there : (Place → Bool) → List Move → List Move
moves_there test moves = filter (puts test) moves

-- ---- one row that didn't stand there

one_there : (test : Place → Bool) (rows : List (ℕ × Row)) (ticket : ℕ) (row : Row) (becomes : Option Row)
    → IsByTicket rows → row_at rows ticket ≡ Some row → test row.place ≡ false
    → length (rows_there test (with_outcome rows ticket becomes))
    ≡ one_if (puts test (move_for ticket becomes)) + length (rows_there test rows)
one_there test rows ticket row None by_ticket at had =
    let before = count_standing (is_there test) rows ticket row by_ticket at in
    let none : one_if (test row.place) ≡ 0 = rw had refl in
    omega (arith, before, none)
one_there test rows ticket row (Some new) by_ticket at had =
    let before = count_standing (is_there test) rows ticket row by_ticket at in
    let behind = count_with (is_there test) rows ticket new by_ticket in
    let none : one_if (test row.place) ≡ 0 = rw had refl in
    omega (arith, before, behind, none)

-- ---- all of them

abbrev IsElsewhere : (Place → Bool) → Outcome → Type 0
IsElsewhere test one = test (row_in one).place ≡ false

all_there : (test : Place → Bool) (n m : ℕ) (rows : List (ℕ × Row)) (all : List Outcome)
    → AreOutcomes n m rows all → All (IsElsewhere test) all
    → length (rows_there test (fold rows_with rows all))
    ≡ length (moves_there test (map told_by all)) + length (rows_there test rows)
all_there test n m rows [] are free = omega arith
all_there test n m rows (one ∷ all) are free =
    let rest = all_there test (behind_rank n (new_rank one.becomes)) m (rows_with rows one) all
    (rest_of n m rows one all are) (All-tail (IsElsewhere test) one all free) in
    let here = one_there test rows (ticket_in one) (row_in one) one.becomes are.by_ticket
    (All-head (λ x. row_at rows (ticket_in x) ≡ Some (row_in x)) one all are.stand)
    (All-head (IsElsewhere test) one all free) in
    let first = count_first (puts test) (told_by one) (map told_by all) (puts test (told_by one)) refl in
    omega (arith, rest, here, first)

-- where no row that is due stands there
pub up_there : (test : Place → Bool) (kept : KeptState) (moment word : ℕ) → IsWellKept kept
    → All (IsElsewhere test) (outcomes_due kept moment word)
    → length (rows_there test (brought_up kept moment word).rows)
    ≡ length (moves_there test (moves_up kept moment word)) + length (rows_there test kept.rows)
up_there test kept moment word well free =
    rw (up_rows kept moment word, ← told_due kept moment word)
    (all_there test kept.next (kept.next + length (due kept moment)) kept.rows (outcomes_due kept moment word)
    (are_outcomes kept moment word well) free)

-- ---- the rows that wait in their queues

rank_put : (n ticket : ℕ) (becomes : Option Row) → HasRank n (new_rank becomes)
    → behind_rank n (new_rank becomes) ≡ one_if (puts is_queued (move_for ticket becomes)) + n
rank_put n ticket None has = omega arith
rank_put n ticket (Some row) has = place_put n row.place
  where
    place_put : (n : ℕ) (place : Place) → behind_rank n (rank_of place) ≡ one_if (is_queued place) + n
    place_put n (Queued rank) = omega arith
    place_put n (Scheduled at) = omega arith
    place_put n (Retry at) = omega arith
    place_put n (Dead until) = omega arith
    place_put n (Working wid since until) = omega arith

ranks_put : (n m : ℕ) (all : List Outcome) → AreRanked n all m
    → length (moves_there is_queued (map told_by all)) + n ≡ m
ranks_put n m [] are = omega (arith, are)
ranks_put n m (one ∷ all) are =
    let rest = ranks_put (behind_rank n (new_rank one.becomes)) m all are.1 in
    let here = rank_put n (ticket_in one) one.becomes are.0 in
    let first = count_first (puts is_queued) (told_by one) (map told_by all) (puts is_queued (told_by one)) refl in
    omega (arith, rest, here, first)

not_there : (test : Bool) → ¬ IsTrue test → test ≡ false
not_there true none = absurd (none refl)
not_there false none = refl

-- each row that is due waits then, beside those that waited
pub up_waiting : (kept : KeptState) (moment word : ℕ) → IsWellKept kept
    → length (waiting (brought_up kept moment word).rows) ≡ length (due kept moment) + length (waiting kept.rows)
up_waiting kept moment word well =
    let all = outcomes_due kept moment word in
    let are = are_outcomes kept moment word well in
    let m = kept.next + length (due kept moment) in
    let ranks = ranks_put kept.next m all are.ranked in
    let told = ap (λ moves. length (moves_there is_queued moves)) (told_due kept moment word) in
    let up = up_there is_queued kept moment word well
    (λ k d within. not_there _ (are.lawful k d within).apart) in
    omega (arith, ranks, told, up)

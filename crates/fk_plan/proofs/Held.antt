-- What workers have once the state was brought up to date: the rows that they had beyond its moment.
use Rattle.std.proofs.Common.{◌≡◌, ◌∙◌, sym, ap, refl, ℕ, ◌+◌, ◌<◌, ◌≤◌, length, List, [], ◌∷◌, Bool, false, filter, arith}
use Rattle.std.specs.Prelude.{All, if◌then◌else◌, Option, None, Some, IfSome, nat_lt, option_map, find, fold, bytes_eq}
use Rattle.std.specs.Option.{option_map_or}
use Rattle.std.proofs.lemmas.Bool.Decides.{nat_tests}
use Rattle.std.proofs.lemmas.Option.{IfSome_then}
use Rattle.std.proofs.lemmas.List.Elements.{All-head, All-tail, All-filter, filter-append}
use Rattle.fk_time.specs.Moments.{greatest}
use Rattle.fk_model.specs.declared.row.Row.{Row}
use Rattle.fk_model.specs.declared.place.Place.{Place}
use Rattle.fk_model.specs.declared.place.Place.TheVariants.{Queued, Scheduled, Retry, Dead, Working}
use Rattle.fk_model.specs.declared.mutation.Target.TheVariants as target
use Rattle.fk_model.specs.Rows.{ticket_of, row_of, IsByTicket, filed_at, row_at, with_row, without_row}
use Rattle.fk_model.specs.State.{KeptState}
use Rattle.fk_model.specs.Orders.{moment_in, leased_until, is_working, working, leased}
use Rattle.fk_model.specs.Between.{IsWellKept}
use Rattle.fk_model.specs.Due.{leaves_at, waits_until, over, expired, due}
use Rattle.fk_model.specs.Failing.{expiry, with_outcome}
use Rattle.fk_model.specs.Bringing.{brought_up}
use Rattle.fk_model.proofs.Cuts.{below, above}
use Rattle.fk_model.proofs.Filed.{without_parts, standing}
use Rattle.fk_model.proofs.Finding.{find_holds}
use Rattle.fk_model.proofs.Sieves.{filter_past}
use Rattle.fk_model.proofs.Standing.{each_found}
use Rattle.fk_model.proofs.Outcomes.{Outcome, ticket_in, row_in, rows_with, new_rank, behind_rank}
use Rattle.fk_model.proofs.Settling.{IsLater, IsLawful, AreOutcomes}
use Rattle.fk_model.proofs.Chosen.{IsChosen, each_chosen}
use Rattle.fk_model.proofs.Falling.{dead_moment, lease_moment, wait_moment, each_ended}
use Rattle.fk_model.proofs.BroughtUp.{outcomes_due, all_three, leaving_all, failing_all, entering_all, are_outcomes}
use Rattle.fk_model.proofs.UpToDate.{up_rows, up_to_date}
use Rattle.fk_core.specs.Lookups.{outlasts, leased_beyond}
use Rattle.fk_plan.proofs.Behind.{rest_of}

abbrev pub is_held : ℕ → ℕ × Row → Bool
is_held moment filed = outlasts moment (row_of filed).place

-- ---- one row

-- where neither a row nor what it becomes passes, those that pass stay
row_passed : (p : ℕ × Row → Bool) (rows : List (ℕ × Row)) (ticket : ℕ) (row new : Row) → IsByTicket rows
    → row_at rows ticket ≡ Some row → p (ticket, row) ≡ false → p (ticket, new) ≡ false
    → filter p (with_row rows ticket new) ≡ filter p rows
row_passed p rows ticket row new by_ticket at had has =
    filter_past p (below ticket rows) (above ticket rows) (ticket, new) has
    ∙ sym (filter_past p (below ticket rows) (above ticket rows) (ticket, row) had)
    ∙ ap (filter p) (standing rows ticket row by_ticket at)

row_left : (p : ℕ × Row → Bool) (rows : List (ℕ × Row)) (ticket : ℕ) (row : Row) → IsByTicket rows
    → row_at rows ticket ≡ Some row → p (ticket, row) ≡ false
    → filter p (without_row rows ticket) ≡ filter p rows
row_left p rows ticket row by_ticket at had =
    ap (filter p) (without_parts rows ticket by_ticket)
    ∙ filter-append p (below ticket rows) (above ticket rows)
    ∙ sym (filter_past p (below ticket rows) (above ticket rows) (ticket, row) had)
    ∙ ap (filter p) (standing rows ticket row by_ticket at)

one_passed : (p : ℕ × Row → Bool) (rows : List (ℕ × Row)) (ticket : ℕ) (row : Row) (becomes : Option Row)
    → IsByTicket rows → row_at rows ticket ≡ Some row → p (ticket, row) ≡ false
    → IfSome becomes (λ new. p (ticket, new) ≡ false)
    → filter p (with_outcome rows ticket becomes) ≡ filter p rows
one_passed p rows ticket row None by_ticket at had has = row_left p rows ticket row by_ticket at had
one_passed p rows ticket row (Some new) by_ticket at had has = row_passed p rows ticket row new by_ticket at had has

-- ---- all of them

idle_free : (moment : ℕ) (place : Place) → is_working place ≡ false → outlasts moment place ≡ false
idle_free moment (Queued rank) idle = refl
idle_free moment (Scheduled at) idle = refl
idle_free moment (Retry at) idle = refl
idle_free moment (Dead until) idle = refl
idle_free moment (Working wid since until) idle = absurd (cc)

abbrev IsFree : ℕ → Outcome → Type 0
IsFree moment one = outlasts moment (row_in one).place ≡ false

all_passed : (moment n m : ℕ) (rows : List (ℕ × Row)) (all : List Outcome) → AreOutcomes n m rows all
    → All (IsFree moment) all → filter (is_held moment) (fold rows_with rows all) ≡ filter (is_held moment) rows
all_passed moment n m rows [] are free = refl
all_passed moment n m rows (one ∷ all) are free =
    all_passed moment (behind_rank n (new_rank one.becomes)) m (rows_with rows one) all
    (rest_of n m rows one all are) (All-tail (IsFree moment) one all free)
    ∙ one_passed (is_held moment) rows (ticket_in one) (row_in one) one.becomes are.by_ticket
    (All-head (λ x. row_at rows (ticket_in x) ≡ Some (row_in x)) one all are.stand)
    (All-head (IsFree moment) one all free)
    (IfSome_then one.becomes (All-head IsLawful one all are.lawful).idle
    (λ row idle. idle_free moment row.place idle))

dead_free : (moment : ℕ) (place : Place) (at : ℕ) → moment_in target.Dead place ≡ Some at
    → outlasts moment place ≡ false
dead_free moment (Queued rank) at e = refl
dead_free moment (Scheduled when) at e = refl
dead_free moment (Retry when) at e = refl
dead_free moment (Dead until) at e = refl
dead_free moment (Working wid since until) at e = absurd (cc)

wait_free : (moment : ℕ) (place : Place) (at : ℕ) → waits_until place ≡ Some at → outlasts moment place ≡ false
wait_free moment (Queued rank) at e = refl
wait_free moment (Scheduled when) at e = refl
wait_free moment (Retry when) at e = refl
wait_free moment (Dead until) at e = refl
wait_free moment (Working wid since until) at e = absurd (cc)

over_free : (moment : ℕ) (given : Option ℕ) (at : ℕ) → given ≡ Some at → at ≤ moment
    → option_map_or (nat_lt moment) given false ≡ false
over_free moment None at e come = refl
over_free moment (Some other) at e come =
    let same : other ≡ at = cc in rw same (grind (arith, nat_tests, come))

due_free : (kept : KeptState) (moment word : ℕ) → IsWellKept kept
    → All (IsFree moment) (outcomes_due kept moment word)
due_free kept moment word well =
    all_three (IsFree moment) kept moment word
    (leaving_all (IsFree moment) (IsChosen dead_moment moment kept.rows) (over kept moment)
    (λ filed is. dead_free moment (row_of filed).place is.at is.has)
    (each_chosen dead_moment moment kept.rows well.by_ticket))
    (failing_all (IsFree moment) (IsChosen lease_moment moment kept.rows) expiry moment word
    (expired kept moment)
    (λ filed is. over_free moment (leased_until (row_of filed).place) is.at is.has is.come)
    (each_ended moment kept.rows well.by_ticket))
    (entering_all (IsFree moment) (IsChosen wait_moment moment kept.rows) moment kept.next
    (kept.next + length (due kept moment)) (due kept moment) (omega arith)
    (λ rank filed below is. wait_free moment (row_of filed).place is.at is.has)
    (each_chosen wait_moment moment kept.rows well.by_ticket))

-- ---- where nothing is due

held_there : (moment : ℕ) (place : Place) → IfSome (leaves_at place) (λ at. moment < at)
    → is_working place ≡ outlasts moment place
held_there moment (Queued rank) later = refl
held_there moment (Scheduled at) later = refl
held_there moment (Retry at) later = refl
held_there moment (Dead until) later = refl
held_there moment (Working wid since until) later = grind (arith, nat_tests, later)

same_if : {X : Type 0} (x : X) (xs ys : List X) (one other : Bool) → one ≡ other → xs ≡ ys
    → (if one then x ∷ xs else xs) ≡ (if other then x ∷ ys else ys)
same_if x xs ys one other same rest = rw (same, rest) refl

all_held : (moment : ℕ) (rows : List (ℕ × Row)) → All (λ filed. IsLater moment (row_of filed)) rows
    → working rows ≡ filter (is_held moment) rows
all_held moment [] each = refl
all_held moment (filed ∷ rows) each =
    same_if filed (working rows) (filter (is_held moment) rows) (is_working (row_of filed).place)
    (is_held moment filed)
    (held_there moment (row_of filed).place (All-head (λ x. IsLater moment (row_of x)) filed rows each))
    (all_held moment rows (All-tail (λ x. IsLater moment (row_of x)) filed rows each))

-- the rows that workers have then are those that they had beyond the moment
pub working_up : (kept : KeptState) (moment word : ℕ) → IsWellKept kept → moment < greatest
    → working (brought_up kept moment word).rows ≡ filter (is_held moment) kept.rows
working_up kept moment word well told =
    all_held moment (brought_up kept moment word).rows (up_to_date kept moment word well told)
    ∙ ap (filter (is_held moment)) (up_rows kept moment word)
    ∙ all_passed moment kept.next (kept.next + length (due kept moment)) kept.rows (outcomes_due kept moment word)
    (are_outcomes kept moment word well) (due_free kept moment word well)

-- the row that an acknowledgement or a failure is of
pub leased_up : (kept : KeptState) (jid : List ℕ) (moment word : ℕ) → IsWellKept kept → moment < greatest
    → leased (brought_up kept moment word) jid ≡ leased_beyond kept jid moment
leased_up kept jid moment word well told =
    ap (find (λ filed. bytes_eq (row_of filed).job.jid jid)) (working_up kept moment word well told)

-- it stands in the tables
pub beyond_stands : (kept : KeptState) (jid : List ℕ) (moment : ℕ) (filed : ℕ × Row) → IsByTicket kept.rows
    → leased_beyond kept jid moment ≡ Some filed → row_at kept.rows (ticket_of filed) ≡ Some (row_of filed)
beyond_stands kept jid moment filed by_ticket at =
    ap (option_map row_of)
    (find_holds (λ x. filed_at kept.rows (ticket_of x) ≡ Some x) (λ x. bytes_eq (row_of x).job.jid jid)
    (filter (is_held moment) kept.rows) filed
    (All-filter (is_held moment) (λ x. filed_at kept.rows (ticket_of x) ≡ Some x) kept.rows
    (each_found kept.rows by_ticket)) at)

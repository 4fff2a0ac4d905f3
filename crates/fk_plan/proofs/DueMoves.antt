-- The moves of the rows that are due, one row after the other.
use Rattle.std.proofs.Common.{◌≡◌, ◌∙◌, sym, ap, refl, ℕ, ◌+◌, List, [], ◌∷◌, ◌++◌, drop, true, length, map, append_assoc, append-nil, ◌≤◌, arith}
use Rattle.std.proofs.Math.ListN.{drop_of_length-le}
use Rattle.std.specs.Prelude.{All, Option, None, Some, option_map, option_and_then, slice_get, filter_map, not, nat_lt}
use Rattle.std.proofs.lemmas.Option.{same_Some}
use Rattle.std.proofs.lemmas.List.Elements.{All-head, All-tail, All-filter, filter_passes}
use Rattle.fk_model.specs.declared.row.Row.{Row}
use Rattle.fk_model.specs.declared.move_.Move.{Move}
use Rattle.fk_model.specs.declared.move_.Move.TheVariants.{Drop}
use Rattle.fk_model.specs.declared.mutation.Target.TheVariants as target
use Rattle.fk_model.specs.Rows.{ticket_of, row_of, IsByTicket, filed_at, row_at}
use Rattle.fk_model.specs.State.{KeptState}
use Rattle.fk_model.specs.Orders.{number_in, ticket_in, leased_until, moment_in, timed}
use Rattle.fk_model.specs.Due.{has_come, up_to, rows_of, over, expired}
use Rattle.fk_model.specs.Failing.{Reason, failed_row}
use Rattle.fk_model.specs.Bringing.{move_for, waiting_row, moves_of_forgotten, moves_of_failed, moves_of_enqueued}
use Rattle.fk_model.proofs.Lookups.{filed_from_row}
use Rattle.fk_model.proofs.Chosen.{found_ticket}
use Rattle.fk_model.proofs.Standing.{IsNumberOf, each_number, each_found}
use Rattle.fk_core.specs.Lookups.{leases_of}
use Rattle.fk_plan.proofs.NextPair.{place_split}

-- at the beginning nothing is done, and all that was listed is left
pub begins : (f : List (ℕ × ℕ) → List Move) (old new : List Move) (left taken out first given : List (ℕ × ℕ))
    (whole : List Move) → new ≡ old → left ≡ taken → taken ≡ out → out ≡ first ++ given → first ≡ []
    → f given ≡ whole → new ++ f left ≡ old ++ whole
begins f old new left taken out first given whole same one other listed none all =
    rw (same, one, other, listed, none, all) refl

-- what was listed is counted
pub counts : (count : ℕ) (out first given : List (ℕ × ℕ)) → count ≡ length out → out ≡ first ++ given → first ≡ []
    → count ≡ length given
counts count out first given is listed none = rw (is, listed, none) refl

-- ---- a row under its ticket

filed_under : (rows : List (ℕ × Row)) (ticket : ℕ) (row : Row) → Some row ≡ row_at rows ticket
    → filed_at rows ticket ≡ Some (ticket, row)
filed_under rows ticket row here =
    filed_from_row rows ticket ∙ ap (option_map (λ found. (ticket, found))) (sym here)

none_under : (rows : List (ℕ × Row)) (ticket : ℕ) → None ≡ row_at rows ticket → filed_at rows ticket ≡ None
none_under rows ticket none = filed_from_row rows ticket ∙ ap (option_map (λ found. (ticket, found))) (sym none)

-- ---- rows that leave

-- the moves by which the rows of these pairs leave
abbrev pub drops : List (ℕ × ℕ) → List Move
drops pairs = map (λ pair. Drop (ticket_in pair)) pairs

drops_step : (number : Row → Option ℕ) (rows : List (ℕ × Row)) (pair : ℕ × ℕ) (pairs : List (ℕ × ℕ))
    (found : Option (ℕ × Row)) → filed_at rows (ticket_in pair) ≡ found
    → option_and_then number (option_map row_of found) ≡ Some (number_in pair)
    → drops pairs ≡ moves_of_forgotten (rows_of rows pairs)
    → drops (pair ∷ pairs) ≡ moves_of_forgotten (rows_of rows (pair ∷ pairs))
drops_step number rows pair pairs None e has rest = absurd (cc)
drops_step number rows pair pairs (Some filed) e has rest =
    rw (e, found_ticket rows (ticket_in pair) filed e, rest) refl

drops_of : (number : Row → Option ℕ) (rows : List (ℕ × Row)) (pairs : List (ℕ × ℕ))
    → All (IsNumberOf number rows) pairs → drops pairs ≡ moves_of_forgotten (rows_of rows pairs)
drops_of number rows [] has = refl
drops_of number rows (pair ∷ pairs) has =
    drops_step number rows pair pairs (filed_at rows (ticket_in pair)) refl
    (All-head (IsNumberOf number rows) pair pairs has)
    (drops_of number rows pairs (All-tail (IsNumberOf number rows) pair pairs has))

-- those of the dead whose time is over
pub dead_dropped : (kept : KeptState) (moment : ℕ) → IsByTicket kept.rows
    → drops (up_to moment (timed target.Dead kept.rows)) ≡ moves_of_forgotten (over kept moment)
dead_dropped kept moment by_ticket =
    let number = λ (row : Row). moment_in target.Dead row.place in
    drops_of number kept.rows (up_to moment (timed target.Dead kept.rows))
    (All-filter (λ pair. not (nat_lt moment (number_in pair))) (IsNumberOf number kept.rows)
    (timed target.Dead kept.rows) (each_number number kept.rows by_ticket))

-- ---- rows that fail

-- the rows of leases
abbrev pub rows_leased : List (ℕ × Row) → List (ℕ × ℕ) → List (ℕ × Row)
rows_leased rows leases = filter_map (λ lease. filed_at rows (number_in lease)) leases

leased_step : (rows : List (ℕ × Row)) (moment : ℕ) (filed : ℕ × Row) (others : List (ℕ × Row))
    (given : Option ℕ) → leased_until (row_of filed).place ≡ given
    → has_come moment given ≡ true → filed_at rows (ticket_of filed) ≡ Some filed
    → rows_leased rows (leases_of others) ≡ others
    → rows_leased rows (leases_of (filed ∷ others)) ≡ filed ∷ others
leased_step rows moment filed others None e come here rest = absurd (cc)
leased_step rows moment filed others (Some until) e come here rest = rw (e, here, rest) refl

leased_rows : (rows : List (ℕ × Row)) (moment : ℕ) (some : List (ℕ × Row))
    → All (λ filed. has_come moment (leased_until (row_of filed).place) ≡ true) some
    → All (λ filed. filed_at rows (ticket_of filed) ≡ Some filed) some
    → rows_leased rows (leases_of some) ≡ some
leased_rows rows moment [] come here = refl
leased_rows rows moment (filed ∷ others) come here =
    leased_step rows moment filed others (leased_until (row_of filed).place) refl
    (All-head (λ x. has_come moment (leased_until (row_of x).place) ≡ true) filed others come)
    (All-head (λ x. filed_at rows (ticket_of x) ≡ Some x) filed others here)
    (leased_rows rows moment others
    (All-tail (λ x. has_come moment (leased_until (row_of x).place) ≡ true) filed others come)
    (All-tail (λ x. filed_at rows (ticket_of x) ≡ Some x) filed others here))

-- the rows of the leases that have run out are those whose reservation has
pub expired_leased : (kept : KeptState) (moment : ℕ) → IsByTicket kept.rows
    → rows_leased kept.rows (leases_of (expired kept moment)) ≡ expired kept moment
expired_leased kept moment by_ticket =
    let test = λ (filed : ℕ × Row). has_come moment (leased_until (row_of filed).place) in
    leased_rows kept.rows moment (expired kept moment) (filter_passes test kept.rows)
    (All-filter test (λ x. filed_at kept.rows (ticket_of x) ≡ Some x) kept.rows (each_found kept.rows by_ticket))

count_step : (moment : ℕ) (filed : ℕ × Row) (others : List (ℕ × Row)) (given : Option ℕ)
    → leased_until (row_of filed).place ≡ given → has_come moment given ≡ true
    → length (leases_of others) ≡ length others → length (leases_of (filed ∷ others)) ≡ length (filed ∷ others)
count_step moment filed others None e come rest = absurd (cc)
count_step moment filed others (Some until) e come rest = rw e (omega (arith, rest))

count_leased : (moment : ℕ) (some : List (ℕ × Row))
    → All (λ filed. has_come moment (leased_until (row_of filed).place) ≡ true) some
    → length (leases_of some) ≡ length some
count_leased moment [] come = refl
count_leased moment (filed ∷ others) come =
    count_step moment filed others (leased_until (row_of filed).place) refl
    (All-head (λ x. has_come moment (leased_until (row_of x).place) ≡ true) filed others come)
    (count_leased moment others
    (All-tail (λ x. has_come moment (leased_until (row_of x).place) ≡ true) filed others come))

-- there are as many
pub expired_count : (kept : KeptState) (moment : ℕ)
    → length (leases_of (expired kept moment)) ≡ length (expired kept moment)
expired_count kept moment =
    count_leased moment (expired kept moment)
    (filter_passes (λ filed. has_come moment (leased_until (row_of filed).place)) kept.rows)

-- a row has failed
pub one_failed : (reason why : Reason) (moment word : ℕ) (rows : List (ℕ × Row)) (ticket until : ℕ) (row : Row)
    (before leases : List (ℕ × ℕ)) (done new : List Move) (step : Move) → Some row ≡ row_at rows ticket
    → before ≡ (ticket, until) ∷ leases → why ≡ reason
    → step ≡ move_for ticket (failed_row why moment word (ticket, row)) → new ≡ done ++ step ∷ []
    → new ++ moves_of_failed reason moment word (rows_leased rows leases)
    ≡ done ++ moves_of_failed reason moment word (rows_leased rows before)
one_failed reason why moment word rows ticket until row before leases done new step here was same is added =
    rw (was, filed_under rows ticket row here, added, is, same)
    (append_assoc done (move_for ticket (failed_row reason moment word (ticket, row)) ∷ [])
    (moves_of_failed reason moment word (rows_leased rows leases)))

-- a lease without a row has none to fail
pub none_failed : (reason : Reason) (moment word : ℕ) (rows : List (ℕ × Row)) (ticket until : ℕ)
    (leases : List (ℕ × ℕ)) (done : List Move) → None ≡ row_at rows ticket
    → done ++ moves_of_failed reason moment word (rows_leased rows leases)
    ≡ done ++ moves_of_failed reason moment word (rows_leased rows ((ticket, until) ∷ leases))
none_failed reason moment word rows ticket until leases done none =
    rw (none_under rows ticket none) refl

-- ---- rows that are put into their queues

-- the pair at a place, by its ticket
pub at_place : (pairs : List (ℕ × ℕ)) (at ticket : ℕ) (found : Option (ℕ × ℕ)) → slice_get pairs at ≡ found
    → Some ticket ≡ option_map ticket_in found → (P : List (ℕ × ℕ) → Type 0)
    → ((pair : ℕ × ℕ) → ticket_in pair ≡ ticket → P (pair ∷ drop (at + 1) pairs)) → P (drop at pairs)
at_place pairs at ticket None here is P holds = absurd (cc)
at_place pairs at ticket (Some pair) here is P holds =
    rw (place_split pairs at pair here) (holds pair (sym (same_Some ticket (ticket_in pair) is)))

-- a row is in its queue
pub one_enqueued : (moment rank : ℕ) (rows : List (ℕ × Row)) (pairs : List (ℕ × ℕ)) (at ticket : ℕ) (row : Row)
    (done new : List Move) (step : Move) → Some ticket ≡ option_map ticket_in (slice_get pairs at)
    → Some row ≡ row_at rows ticket → step ≡ move_for ticket (Some (waiting_row moment rank row))
    → new ≡ done ++ step ∷ []
    → new ++ moves_of_enqueued moment (rank + 1) (rows_of rows (drop (at + 1) pairs))
    ≡ done ++ moves_of_enqueued moment rank (rows_of rows (drop at pairs))
one_enqueued moment rank rows pairs at ticket row done new step is here made added =
    at_place pairs at ticket (slice_get pairs at) refl is
    (λ left. new ++ moves_of_enqueued moment (rank + 1) (rows_of rows (drop (at + 1) pairs))
    ≡ done ++ moves_of_enqueued moment rank (rows_of rows left))
    (λ pair same. rw (same, filed_under rows ticket row here, added, made)
    (append_assoc done (move_for ticket (Some (waiting_row moment rank row)) ∷ [])
    (moves_of_enqueued moment (rank + 1) (rows_of rows (drop (at + 1) pairs)))))

-- a pair without a row has none to put
pub none_enqueued : (moment rank : ℕ) (rows : List (ℕ × Row)) (pairs : List (ℕ × ℕ)) (at ticket : ℕ)
    (done : List Move) → Some ticket ≡ option_map ticket_in (slice_get pairs at) → None ≡ row_at rows ticket
    → done ++ moves_of_enqueued moment rank (rows_of rows (drop (at + 1) pairs))
    ≡ done ++ moves_of_enqueued moment rank (rows_of rows (drop at pairs))
none_enqueued moment rank rows pairs at ticket done is none =
    at_place pairs at ticket (slice_get pairs at) refl is
    (λ left. done ++ moves_of_enqueued moment rank (rows_of rows (drop (at + 1) pairs))
    ≡ done ++ moves_of_enqueued moment rank (rows_of rows left))
    (λ pair same. rw (same, none_under rows ticket none) refl)

-- nothing is left
pub all_enqueued : (moment rank at : ℕ) (rows : List (ℕ × Row)) (pairs : List (ℕ × ℕ)) (done : List Move)
    → length pairs ≤ at → done ++ moves_of_enqueued moment rank (rows_of rows (drop at pairs)) ≡ done
all_enqueued moment rank at rows pairs done past = rw (drop_of_length-le pairs past, append-nil) refl

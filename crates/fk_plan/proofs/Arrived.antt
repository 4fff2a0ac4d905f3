-- The queues of the state that was brought up to date: behind the rows that waited in each come those that were
-- put into it.
use Rattle.std.proofs.Common.{◌≡◌, ◌∙◌, sym, ap, refl, ℕ, ◌+◌, ◌<◌, List, [], ◌∷◌, ◌++◌, Bool, true, false, append_assoc}
use Rattle.std.specs.Prelude.{if◌then◌else◌, Option, None, Some, IfSome, IsTrue, is_some, option_map, option_and_then, option_to_list, filter_map, fold, bytes_eq}
use Rattle.std.specs.List.{enumerate_from}
use Rattle.std.proofs.lemmas.List.{append-nil}
use Rattle.std.proofs.lemmas.List.Elements.{All-head, filter_map-append}
use Rattle.fk_model.specs.declared.row.Row.{Row}
use Rattle.fk_model.specs.Rows.{ticket_of, row_of, IsByTicket, row_at, with_row}
use Rattle.fk_model.specs.State.{KeptState}
use Rattle.fk_model.specs.Orders.{rank_of, rank_in, is_queued, queue}
use Rattle.fk_model.specs.Between.{IsAboveAll, IsWellKept}
use Rattle.fk_model.specs.Due.{over, expired, due}
use Rattle.fk_model.specs.Failing.{Reason, expiry, failed_row, failure_of, fate_of, with_outcome}
use Rattle.fk_model.specs.Bringing.{waiting_row, brought_up}
use Rattle.fk_model.proofs.Filed.{changed_at}
use Rattle.fk_model.proofs.Queues.{unranked, queue_unchanged, queue_joined, queue_keeps, ranks_hold}
use Rattle.fk_model.proofs.Outcomes.{Outcome, ticket_in, row_in, rows_with, new_rank, HasRank, behind_rank}
use Rattle.fk_model.proofs.Settling.{IsLawful, AreOutcomes}
use Rattle.fk_model.proofs.Fates.{fate_unranked}
use Rattle.fk_model.proofs.BroughtUp.{leaving, failing, entering, outcomes_due, are_outcomes}
use Rattle.fk_model.proofs.UpToDate.{up_rows}
use Rattle.fk_plan.specs.Arrivals.{arrival, arrivals}
use Rattle.fk_plan.proofs.Behind.{rest_of}

-- ---- one row

-- the rank that the row has then in the queue of a name, if it has one, with its ticket
abbrev place_in : List ℕ → Outcome → Option (ℕ × ℕ)
place_in name one =
    option_map (λ rank. (rank, ticket_in one)) (option_and_then (rank_in name) one.becomes)

no_rank : (given : Option ℕ) → ¬ IsTrue (is_some given) → given ≡ None
no_rank None none = refl
no_rank (Some rank) none = absurd (none refl)

rank_there : (given : Option ℕ) (rank : ℕ) (test : Bool) → (if test then given else None) ≡ Some rank
    → given ≡ Some rank
rank_there given rank true e = e
rank_there given rank false e = absurd (cc)

rank_is : (n : ℕ) (given : Option ℕ) (rank : ℕ) → HasRank n given → given ≡ Some rank → rank ≡ n
rank_is n None rank has e = absurd (cc)
rank_is n (Some other) rank has e = let same : other ≡ rank = cc in sym same ∙ has

one_ranked : (name : List ℕ) (n : ℕ) (rows : List (ℕ × Row)) (ticket : ℕ) (row new : Row) (found : Option ℕ)
    → IsByTicket rows → row_at rows ticket ≡ Some row → rank_in name row ≡ None → rank_in name new ≡ found
    → IfSome found (λ rank. rank ≡ n) → IsAboveAll n rows
    → queue (with_row rows ticket new) name
    ≡ queue rows name ++ option_to_list (option_map (λ rank. (rank, ticket)) found)
one_ranked name n rows ticket row new None by_ticket at none e has higher =
    ap (λ xs. queue xs name) (sym (changed_at rows ticket (λ x. new) row by_ticket at))
    ∙ queue_unchanged rows ticket (λ x. new) row name by_ticket at (e ∙ sym none)
    ∙ sym (append-nil (queue rows name))
one_ranked name n rows ticket row new (Some rank) by_ticket at none e has higher =
    ap (λ xs. queue xs name) (sym (changed_at rows ticket (λ x. new) row by_ticket at))
    ∙ queue_joined rows ticket (λ x. new) row name rank by_ticket at none e
    (rw has (ranks_hold (λ r. r < n) rows name higher.ranks))

has_there : (name : List ℕ) (n : ℕ) (row : Row) (test : Bool) → bytes_eq row.job.queue name ≡ test
    → HasRank n (rank_of row.place) → IfSome (rank_in name row) (λ rank. rank ≡ n)
has_there name n row true e has = rw e has
has_there name n row false e has = rw e tt

one_joined : (name : List ℕ) (n : ℕ) (rows : List (ℕ × Row)) (ticket : ℕ) (row : Row) (becomes : Option Row)
    → IsByTicket rows → row_at rows ticket ≡ Some row → ¬ IsTrue (is_queued row.place)
    → HasRank n (new_rank becomes) → IsAboveAll n rows
    → queue (with_outcome rows ticket becomes) name
    ≡ queue rows name
    ++ option_to_list (option_map (λ rank. (rank, ticket)) (option_and_then (rank_in name) becomes))
one_joined name n rows ticket row None by_ticket at apart has higher =
    queue_keeps rows ticket row name by_ticket at (unranked name row (no_rank (rank_of row.place) apart))
    ∙ sym (append-nil (queue rows name))
one_joined name n rows ticket row (Some new) by_ticket at apart has higher =
    one_ranked name n rows ticket row new (rank_in name new) by_ticket at
    (unranked name row (no_rank (rank_of row.place) apart)) refl
    (has_there name n new (bytes_eq new.job.queue name) refl has) higher

-- ---- all of them

step_of : {X Y : Type 0} (h : X → Option Y) (x : X) (xs : List X) (given : Option Y) → h x ≡ given
    → filter_map h (x ∷ xs) ≡ option_to_list given ++ filter_map h xs
step_of h x xs None e = rw e refl
step_of h x xs (Some y) e = rw e refl

all_joined : (name : List ℕ) (n m : ℕ) (rows : List (ℕ × Row)) (all : List Outcome) → AreOutcomes n m rows all
    → queue (fold rows_with rows all) name ≡ queue rows name ++ filter_map (place_in name) all
all_joined name n m rows [] are = sym (append-nil (queue rows name))
all_joined name n m rows (one ∷ all) are =
    all_joined name (behind_rank n (new_rank one.becomes)) m (rows_with rows one) all
    (rest_of n m rows one all are)
    ∙ ap (λ pairs. pairs ++ filter_map (place_in name) all)
    (one_joined name n rows (ticket_in one) (row_in one) one.becomes are.by_ticket
    (All-head (λ x. row_at rows (ticket_in x) ≡ Some (row_in x)) one all are.stand)
    (All-head IsLawful one all are.lawful).apart are.ranked.0 are.higher)
    ∙ append_assoc (queue rows name) (option_to_list (place_in name one)) (filter_map (place_in name) all)
    ∙ ap (λ pairs. queue rows name ++ pairs)
    (sym (step_of (place_in name) one all (place_in name one) refl))

none_leaving : (name : List ℕ) (rows : List (ℕ × Row)) → filter_map (place_in name) (leaving rows) ≡ []
none_leaving name [] = refl
none_leaving name (filed ∷ rows) = none_leaving name rows

none_ranked : (name : List ℕ) (row : Row) (test : Bool) → bytes_eq row.job.queue name ≡ test
    → rank_of row.place ≡ None → rank_in name row ≡ None
none_ranked name row true e none = rw e none
none_ranked name row false e none = rw e refl

unranked_in : (name : List ℕ) (becomes : Option Row) → new_rank becomes ≡ None
    → option_and_then (rank_in name) becomes ≡ None
unranked_in name None none = refl
unranked_in name (Some row) none = unranked name row none

none_failing : (name : List ℕ) (reason : Reason) (moment word : ℕ) (rows : List (ℕ × Row))
    → filter_map (place_in name) (failing reason moment word rows) ≡ []
none_failing name reason moment word [] = refl
none_failing name reason moment word (filed ∷ rows) =
    let one : Outcome = record { filed = filed; becomes = failed_row reason moment word filed } in
    let none = unranked_in name (failed_row reason moment word filed)
    (fate_unranked filed (failure_of reason moment word filed) (fate_of moment word filed)) in
    step_of (place_in name) one (failing reason moment word rows) None
    (ap (option_map (λ rank. (rank, ticket_of filed))) none)
    ∙ none_failing name reason moment word rows

pair_there : (name : List ℕ) (rank : ℕ) (filed : ℕ × Row) (test : Bool)
    → option_map {U = ℕ × ℕ} (λ r. (r, ticket_of filed)) (if test then Some rank else None)
    ≡ (if test then Some (rank, ticket_of filed) else None)
pair_there name rank filed true = refl
pair_there name rank filed false = refl

all_entering : (name : List ℕ) (moment n : ℕ) (rows : List (ℕ × Row))
    → filter_map (place_in name) (entering moment n rows) ≡ arrivals name n rows
all_entering name moment n [] = refl
all_entering name moment n (filed ∷ rows) =
    step_of (place_in name) (record { filed = filed; becomes = Some (waiting_row moment n (row_of filed)) })
    (entering moment (n + 1) rows) (arrival name (n, filed))
    (pair_there name n filed (bytes_eq (row_of filed).job.queue name))
    ∙ ap (λ pairs. option_to_list (arrival name (n, filed)) ++ pairs) (all_entering name moment (n + 1) rows)
    ∙ sym (step_of (arrival name) (n, filed) (enumerate_from (n + 1) rows) (arrival name (n, filed)) refl)

-- a queue of the state that was brought up to date
pub queue_up : (kept : KeptState) (moment word : ℕ) (name : List ℕ) → IsWellKept kept
    → queue (brought_up kept moment word).rows name
    ≡ queue kept.rows name ++ arrivals name kept.next (due kept moment)
queue_up kept moment word name well =
    let first = leaving (over kept moment) in
    let second = failing expiry moment word (expired kept moment) in
    let third = entering moment kept.next (due kept moment) in
    rw (up_rows kept moment word)
    (all_joined name kept.next _ kept.rows (outcomes_due kept moment word) (are_outcomes kept moment word well)
    ∙ ap (λ pairs. queue kept.rows name ++ pairs)
    (filter_map-append (place_in name) first (second ++ third)
    ∙ rw (
      none_leaving name (over kept moment),
      filter_map-append (place_in name) second third,
      none_failing name expiry moment word (expired kept moment),
    ) (all_entering name moment kept.next (due kept moment))))

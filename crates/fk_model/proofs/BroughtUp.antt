-- The kept state brought up to a moment: what becomes of each row that is due, the moves that tell it, and the
-- numbers.
use Rattle.std.proofs.Common.{◌≡◌, ◌≢◌, ◌⊎◌, ◌∙◌, sym, ap, refl, ℕ, ◌<◌, ◌≤◌, ◌+◌, List, [], ◌∷◌, ◌++◌, true, map, length, append_assoc, inl, inr, arith}
use Rattle.std.specs.Prelude.{All, AllPairs, None, Some, IsTrue, option_map, slice_index_or}
use Rattle.std.specs.List.{enumerate_from}
use Rattle.std.proofs.lemmas.List.{map-append}
use Rattle.std.proofs.lemmas.List.Elements.{All-nil, All-cons, All-head, All-tail, All-append, All-weaker, All-map}
use Rattle.std.proofs.lemmas.List.Kept.{AllPairs-cons}
use Rattle.std.proofs.lemmas.Option.{same_Some}
use Rattle.fk_model.specs.declared.row.Row.{Row}
use Rattle.fk_model.specs.Rows.{ticket_of, row_of, row_at}
use Rattle.fk_model.specs.State.{KeptState}
use Rattle.fk_model.specs.Orders.{is_queued}
use Rattle.fk_model.specs.Between.{IsWellKept}
use Rattle.fk_model.specs.Due.{over, expired, due}
use Rattle.fk_model.specs.Failing.{Reason, expiry, failure_of, fate_of, failed_row}
use Rattle.fk_model.specs.Bringing.{waiting_row, move_for, moves_of_forgotten, moves_of_failed, moves_of_enqueued, moves_up}
use Rattle.fk_model.proofs.Sorting.{head_of_all, tail_of_all}
use Rattle.fk_model.proofs.Outcomes.{Outcome, ticket_in, told_by, new_rank}
use Rattle.fk_model.proofs.Settling.{IsLater, IsLawful, AreRanked, AreOutcomes, IsAmong, IsPending}
use Rattle.fk_model.proofs.Chosen.{IsChosen, AreOfTwo, IsIn, each_chosen}
use Rattle.fk_model.proofs.Fates.{fate_unranked, failed_lawful}
use Rattle.fk_model.proofs.Falling.{dead_moment, lease_moment, wait_moment, each_ended, all_due, all_due_once, all_due_stand, dead_not_queued, ended_not_queued, ended_works, waiting_not_queued, waiting_idle}

-- ---- what becomes of the rows of each list

abbrev pub leaving : List (ℕ × Row) → List Outcome
leaving rows = map (λ filed. record { filed = filed; becomes = None }) rows

abbrev pub failing : Reason → ℕ → ℕ → List (ℕ × Row) → List Outcome
failing reason moment word rows =
    map (λ filed. record { filed = filed; becomes = failed_row reason moment word filed }) rows

abbrev entering_one : ℕ → ℕ × (ℕ × Row) → Outcome
entering_one moment ranked = record {
  filed = ranked.1;
  becomes = Some (waiting_row moment ranked.0 (row_of ranked.1));
}

abbrev pub entering : ℕ → ℕ → List (ℕ × Row) → List Outcome
entering moment n rows = map (entering_one moment) (enumerate_from n rows)

-- of all that are due
abbrev pub outcomes_due : KeptState → ℕ → ℕ → List Outcome
outcomes_due kept moment word =
    leaving (over kept moment)
    ++ (failing expiry moment word (expired kept moment) ++ entering moment kept.next (due kept moment))

-- ---- which rows they are of

abbrev pub filed_in : List Outcome → List (ℕ × Row)
filed_in all = map (λ one. one.filed) all

pub filed_leaving : (rows : List (ℕ × Row)) → filed_in (leaving rows) ≡ rows
filed_leaving [] = refl
filed_leaving (filed ∷ rows) = ap (λ xs. filed ∷ xs) (filed_leaving rows)

filed_failing : (reason : Reason) (moment word : ℕ) (rows : List (ℕ × Row))
    → filed_in (failing reason moment word rows) ≡ rows
filed_failing reason moment word [] = refl
filed_failing reason moment word (filed ∷ rows) =
    ap (λ xs. filed ∷ xs) (filed_failing reason moment word rows)

pub filed_entering : (moment n : ℕ) (rows : List (ℕ × Row)) → filed_in (entering moment n rows) ≡ rows
filed_entering moment n [] = refl
filed_entering moment n (filed ∷ rows) = ap (λ xs. filed ∷ xs) (filed_entering moment (n + 1) rows)

pub filed_due : (kept : KeptState) (moment word : ℕ)
    → filed_in (outcomes_due kept moment word) ≡ all_due moment kept.rows
filed_due kept moment word =
    let back = failing expiry moment word (expired kept moment) ++ entering moment kept.next (due kept moment) in
    map-append (λ (one : Outcome). one.filed) (leaving (over kept moment)) back
    ∙ rw (
      map-append (λ (one : Outcome). one.filed) (failing expiry moment word (expired kept moment))
          (entering moment kept.next (due kept moment)),
      filed_leaving (over kept moment),
      filed_failing expiry moment word (expired kept moment),
      filed_entering moment kept.next (due kept moment),
    ) refl

-- what holds of the rows holds of what becomes of them
pub all_filed : (P : ℕ × Row → Type 0) (all : List Outcome) → All P (filed_in all) → All (λ one. P one.filed) all
all_filed P [] each = All-nil (λ one. P one.filed)
all_filed P (one ∷ all) each =
    All-cons (λ x. P x.filed) one all (All-head P one.filed (filed_in all) each)
    (all_filed P all (All-tail P one.filed (filed_in all) each))

pub pairs_filed : (all : List Outcome) → AllPairs AreOfTwo (filed_in all)
    → AllPairs (λ one other. ticket_in one ≢ ticket_in other) all
pairs_filed [] each = λ i j d ahead within. absurd (omega (arith, within))
pairs_filed (one ∷ all) each =
    AllPairs-cons (λ x y. ticket_in x ≢ ticket_in y) one all
    (all_filed (AreOfTwo one.filed) all (head_of_all AreOfTwo one.filed (filed_in all) each))
    (pairs_filed all (tail_of_all AreOfTwo one.filed (filed_in all) each))

among_filed : (ticket : ℕ) (all : List Outcome) → IsIn ticket (filed_in all) → IsAmong ticket all
among_filed ticket [] is = is
among_filed ticket (one ∷ all) (inl same) = inl same
among_filed ticket (one ∷ all) (inr rest) = inr (among_filed ticket all rest)

pub pending_filed : (moment : ℕ) (filed : ℕ × Row) (all : List Outcome)
    → IsLater moment (row_of filed) ⊎ IsIn (ticket_of filed) (filed_in all) → IsPending moment all filed
pending_filed moment filed all (inl later) = inl later
pending_filed moment filed all (inr is) = inr (among_filed (ticket_of filed) all is)

-- ---- the ranks

ranked_front : (n m : ℕ) (front back : List Outcome) → All (λ one. new_rank one.becomes ≡ None) front
    → AreRanked n back m → AreRanked n (front ++ back) m
ranked_front n m [] back none ranked = ranked
ranked_front n m (one ∷ front) back none ranked =
    rw (All-head (λ x. new_rank x.becomes ≡ None) one front none)
    (tt, ranked_front n m front back (All-tail (λ x. new_rank x.becomes ≡ None) one front none) ranked)

pub ranked_entering : (moment n m : ℕ) (rows : List (ℕ × Row)) → m ≡ n + length rows
    → AreRanked n (entering moment n rows) m
ranked_entering moment n m [] e = omega (arith, e)
ranked_entering moment n m (filed ∷ rows) e = (refl, ranked_entering moment (n + 1) m rows (omega (arith, e)))

ranked_due : (kept : KeptState) (moment word : ℕ)
    → AreRanked kept.next (outcomes_due kept moment word) (kept.next + length (due kept moment))
ranked_due kept moment word =
    let m = kept.next + length (due kept moment) in
    let last = entering moment kept.next (due kept moment) in
    let middle = failing expiry moment word (expired kept moment) in
    ranked_front kept.next m (leaving (over kept moment)) (middle ++ last)
    (All-map (λ one. new_rank one.becomes ≡ None) (λ filed. record { filed = filed; becomes = None })
    (over kept moment) (λ k d within. refl))
    (ranked_front kept.next m middle last
    (All-map (λ one. new_rank one.becomes ≡ None)
    (λ filed. record { filed = filed; becomes = failed_row expiry moment word filed }) (expired kept moment)
    (λ k d within. let filed = slice_index_or (expired kept moment) k d in
    fate_unranked filed (failure_of expiry moment word filed) (fate_of moment word filed)))
    (ranked_entering moment kept.next m (due kept moment) refl))

-- ---- what holds of each

-- what holds of all that become of the rows of the three lists
pub all_three : (P : Outcome → Type 0) (kept : KeptState) (moment word : ℕ)
    → All P (leaving (over kept moment)) → All P (failing expiry moment word (expired kept moment))
    → All P (entering moment kept.next (due kept moment)) → All P (outcomes_due kept moment word)
all_three P kept moment word first second third =
    All-append P (leaving (over kept moment))
    (failing expiry moment word (expired kept moment) ++ entering moment kept.next (due kept moment)) first
    (All-append P (failing expiry moment word (expired kept moment))
    (entering moment kept.next (due kept moment)) second third)

pub leaving_all : (P : Outcome → Type 0) (Q : ℕ × Row → Type 0) (rows : List (ℕ × Row))
    → ((filed : ℕ × Row) → Q filed → P (record { filed = filed; becomes = None })) → All Q rows
    → All P (leaving rows)
leaving_all P Q rows follows each =
    All-map P (λ filed. record { filed = filed; becomes = None }) rows
    (All-weaker Q (λ filed. P (record { filed = filed; becomes = None })) follows rows each)

pub failing_all : (P : Outcome → Type 0) (Q : ℕ × Row → Type 0) (reason : Reason) (moment word : ℕ)
    (rows : List (ℕ × Row))
    → ((filed : ℕ × Row) → Q filed → P (record { filed = filed; becomes = failed_row reason moment word filed }))
    → All Q rows → All P (failing reason moment word rows)
failing_all P Q reason moment word rows follows each =
    All-map P (λ filed. record { filed = filed; becomes = failed_row reason moment word filed }) rows
    (All-weaker Q (λ filed. P (record { filed = filed; becomes = failed_row reason moment word filed })) follows
    rows each)

pub entering_all : (P : Outcome → Type 0) (Q : ℕ × Row → Type 0) (moment n m : ℕ) (rows : List (ℕ × Row))
    → n + length rows ≤ m
    → ((rank : ℕ) (filed : ℕ × Row) → rank < m → Q filed → P (entering_one moment (rank, filed)))
    → All Q rows → All P (entering moment n rows)
entering_all P Q moment n m [] room follows each = All-nil P
entering_all P Q moment n m (filed ∷ rows) room follows each =
    All-cons P (entering_one moment (n, filed)) (entering moment (n + 1) rows)
    (follows n filed (omega (arith, room)) (All-head Q filed rows each))
    (entering_all P Q moment (n + 1) m rows (omega (arith, room)) follows (All-tail Q filed rows each))

pub waiting_changes : (moment rank : ℕ) (row : Row) → ¬ IsTrue (is_queued row.place)
    → Some (waiting_row moment rank row) ≢ Some row
waiting_changes moment rank row apart same =
    let there : Some true ≡ Some (is_queued row.place) = ap (option_map (λ (one : Row). is_queued one.place)) same in
    apart (sym (same_Some true (is_queued row.place) there))

due_lawful : (kept : KeptState) (moment word : ℕ) → IsWellKept kept → All IsLawful (outcomes_due kept moment word)
due_lawful kept moment word well =
    all_three IsLawful kept moment word
    (leaving_all IsLawful (IsChosen dead_moment moment kept.rows) (over kept moment)
    (λ filed is. record {
      apart = dead_not_queued moment kept.rows filed is;
      of_job = tt;
      idle = tt;
      changes = λ same. absurd (cc);
      unranked = λ there. refl;
    }) (each_chosen dead_moment moment kept.rows well.by_ticket))
    (failing_all IsLawful (IsChosen lease_moment moment kept.rows) expiry moment word (expired kept moment)
    (λ filed is. failed_lawful expiry moment word filed (ended_works moment kept.rows filed is)
    (ended_not_queued moment kept.rows filed is))
    (each_ended moment kept.rows well.by_ticket))
    (entering_all IsLawful (IsChosen wait_moment moment kept.rows) moment kept.next
    (kept.next + length (due kept moment)) (due kept moment) (omega arith)
    (λ rank filed below is. record {
      apart = waiting_not_queued moment kept.rows filed is;
      of_job = (refl, refl);
      idle = refl;
      changes = waiting_changes moment rank (row_of filed) (waiting_not_queued moment kept.rows filed is);
      unranked = λ there. absurd (waiting_idle moment kept.rows filed is there);
    }) (each_chosen wait_moment moment kept.rows well.by_ticket))

pub are_outcomes : (kept : KeptState) (moment word : ℕ) → IsWellKept kept
    → AreOutcomes kept.next (kept.next + length (due kept moment)) kept.rows (outcomes_due kept moment word)
are_outcomes kept moment word well =
    let all = outcomes_due kept moment word in
    record {
      by_ticket = well.by_ticket;
      higher = well.above;
      stand = all_filed (λ filed. row_at kept.rows (ticket_of filed) ≡ Some (row_of filed)) all
          (rw (filed_due kept moment word) (all_due_stand moment kept.rows well.by_ticket));
      once = pairs_filed all (rw (filed_due kept moment word) (all_due_once moment kept.rows well.by_ticket));
      lawful = due_lawful kept moment word well;
      ranked = ranked_due kept moment word;
    }

-- ---- the moves that tell them

pub told_leaving : (rows : List (ℕ × Row)) → map told_by (leaving rows) ≡ moves_of_forgotten rows
told_leaving [] = refl
told_leaving (filed ∷ rows) = ap (λ xs. move_for (ticket_of filed) None ∷ xs) (told_leaving rows)

told_failing : (reason : Reason) (moment word : ℕ) (rows : List (ℕ × Row))
    → map told_by (failing reason moment word rows) ≡ moves_of_failed reason moment word rows
told_failing reason moment word [] = refl
told_failing reason moment word (filed ∷ rows) =
    ap (λ xs. move_for (ticket_of filed) (failed_row reason moment word filed) ∷ xs)
    (told_failing reason moment word rows)

pub told_entering : (moment n : ℕ) (rows : List (ℕ × Row))
    → map told_by (entering moment n rows) ≡ moves_of_enqueued moment n rows
told_entering moment n [] = refl
told_entering moment n (filed ∷ rows) =
    ap (λ xs. move_for (ticket_of filed) (Some (waiting_row moment n (row_of filed))) ∷ xs)
    (told_entering moment (n + 1) rows)

pub told_due : (kept : KeptState) (moment word : ℕ)
    → map told_by (outcomes_due kept moment word) ≡ moves_up kept moment word
told_due kept moment word =
    let middle = failing expiry moment word (expired kept moment) in
    let last = entering moment kept.next (due kept moment) in
    map-append told_by (leaving (over kept moment)) (middle ++ last)
    ∙ rw (
      map-append told_by middle last,
      told_leaving (over kept moment),
      told_failing expiry moment word (expired kept moment),
      told_entering moment kept.next (due kept moment),
    ) (sym (append_assoc (moves_of_forgotten (over kept moment))
    (moves_of_failed expiry moment word (expired kept moment))
    (moves_of_enqueued moment kept.next (due kept moment))))

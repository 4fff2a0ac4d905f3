-- What a request leaves under a ticket: the row that stands there, unless a worker had it, or gets it now, or it is
-- one of a set that a MUTATE takes, or all is flushed. So a turn that leaves the kept state as it is has no move.
use Rattle.std.proofs.Common.{◌≡◌, ◌⊎◌, ◌∙◌, sym, ap, refl, subst, ℕ, ◌<◌, ◌+◌, List, [], ◌∷◌, ◌++◌, true, false, inl, inr, map, length, arith}
use Rattle.std.specs.Prelude.{All, Option, None, Some, IfSome, IsTrue, fold, option_map}
use Rattle.std.specs.Option.{option_map_or}
use Rattle.std.proofs.lemmas.Bool.Decides.{nat_tests}
use Rattle.std.proofs.lemmas.Option.{same_Some}
use Rattle.std.proofs.lemmas.List.Elements.{All-head}
use Rattle.fk_job.specs.declared.job.Job.{Job}
use Rattle.fk_model.specs.declared.row.Row.{Row}
use Rattle.fk_model.specs.declared.ask.Ask.{Ask}
use Rattle.fk_model.specs.declared.ask.Ask.TheVariants.{Push, PushBatch, Fetch, Ack, Fail, Flush, Mutate}
use Rattle.fk_model.specs.declared.mutation.Cmd.{Cmd}
use Rattle.fk_model.specs.Rows.{ticket_of, row_of, IsByTicket, row_at}
use Rattle.fk_model.specs.State.{KeptState, State}
use Rattle.fk_model.specs.Orders.{is_queued, is_working, leased, rank_of}
use Rattle.fk_model.specs.Between.{IsWellKept}
use Rattle.fk_model.specs.Due.{over, expired, due}
use Rattle.fk_model.specs.Failing.{Reason, expiry, failed_row, failed}
use Rattle.fk_model.specs.Bringing.{brought_up, moves_up}
use Rattle.fk_model.specs.Requests.{pushed_row, pushed, all_pushed, fetched, reserved_row, finished}
use Rattle.fk_model.specs.Mutated.{mutated, taken}
use Rattle.fk_model.specs.Said.{kept_and_said, only_said, ok, unknown_job, said}
use Rattle.fk_model.specs.Turns.{up_to_date, turn, moves_of}
use Rattle.fk_model.proofs.Lookups.{row_at_with_other, row_at_without_other, row_at_changed, row_at_changed_other}
use Rattle.fk_model.proofs.Tickets.{by_ticket_with}
use Rattle.fk_model.proofs.Orderly.{IsOrderly}
use Rattle.fk_model.proofs.Waiting.{IsFirstRow, IsLeased, leased_is}
use Rattle.fk_model.proofs.Requested.{fetched_is, rows_of, after_fetch}
use Rattle.fk_model.proofs.Outcomes.{Outcome, ticket_in, row_in, told_by, rows_with, outcome_other, new_rank}
use Rattle.fk_model.proofs.Settling.{IsLawful, AreOutcomes, first_lower, first_becomes, outcomes_at}
use Rattle.fk_model.proofs.Chosen.{IsChosen, each_chosen}
use Rattle.fk_model.proofs.Falling.{dead_moment, lease_moment, wait_moment, each_ended, ended_works}
use Rattle.fk_model.proofs.BroughtUp.{outcomes_due, all_three, leaving_all, failing_all, entering_all, are_outcomes, told_due}
use Rattle.fk_model.proofs.OfSets.{AreTaken, taken_are}
use Rattle.fk_model.proofs.Mutating.{mutating, number_behind, are_mutated, mutated_rows}
use Rattle.fk_model.proofs.Flushing.{nothing_up}
use Rattle.fk_model.proofs.UpToDate as up

-- a row that a worker gets
pub record GoesOut (before after : List (ℕ × Row)) (ticket : ℕ) : Type 0 where
  pub row : Row
  pub new : Row
  pub stood : row_at before ticket ≡ Some row
  pub rank : ℕ
  pub waited : rank_of row.place ≡ Some rank
  pub stands : row_at after ticket ≡ Some new
  pub works : is_working new.place ≡ true

-- a row that a worker had
pub record WasOut (before : List (ℕ × Row)) (ticket : ℕ) : Type 0 where
  pub row : Row
  pub stood : row_at before ticket ≡ Some row
  pub works : is_working row.place ≡ true

-- a row in no queue that no worker has, nor gets
pub record WasTaken (before after : List (ℕ × Row)) (ticket : ℕ) : Type 0 where
  pub row : Row
  pub stood : row_at before ticket ≡ Some row
  pub apart : ¬ IsTrue (is_queued row.place)
  pub idle : IfSome (row_at after ticket) (λ new. is_working new.place ≡ false)

-- what may come of a ticket
abbrev MayBe : List (ℕ × Row) → List (ℕ × Row) → ℕ → Type 0
MayBe before after ticket =
    (row_at after ticket ≡ row_at before ticket) ⊎ GoesOut before after ticket ⊎ WasOut before ticket
    ⊎ WasTaken before after ticket ⊎ (row_at after ticket ≡ None)

three_ways : (a b : ℕ) → (a < b) ⊎ (a ≡ b) ⊎ (b < a)
three_ways a b = grind (arith, nat_tests)

push_stays : (moment : ℕ) (kept : KeptState) (job : Job) (ticket : ℕ) → IsByTicket kept.rows → ticket < kept.next
    → row_at (pushed moment kept job).rows ticket ≡ row_at kept.rows ticket
push_stays moment kept job ticket by_ticket lower =
    row_at_with_other kept.rows kept.next (pushed_row moment kept.next job) ticket by_ticket (omega (arith, lower))

pushes_stay : (moment : ℕ) (jobs : List Job) (kept : KeptState) (ticket : ℕ) → IsByTicket kept.rows
    → ticket < kept.next → row_at (all_pushed moment kept jobs).rows ticket ≡ row_at kept.rows ticket
pushes_stay moment [] kept ticket by_ticket lower = refl
pushes_stay moment (job ∷ jobs) kept ticket by_ticket lower =
    pushes_stay moment jobs (pushed moment kept job) ticket
    (by_ticket_with kept.rows kept.next (pushed_row moment kept.next job) by_ticket) (omega (arith, lower))
    ∙ push_stays moment kept job ticket by_ticket lower

fetch_may : (s : State) (moment : ℕ) (wid : List ℕ) (found : Option (ℕ × Row)) (ticket : ℕ) → IsOrderly s.kept
    → ((filed : ℕ × Row) → found ≡ Some filed → IsFirstRow s.kept filed)
    → MayBe s.kept.rows (after_fetch s moment wid found).kept.rows ticket
fetch_may s moment wid None ticket well first = inl refl
fetch_may s moment wid (Some filed) ticket well first = elim (three_ways ticket (ticket_of filed)) [
  | inl lower ↦ inl (row_at_changed_other s.kept.rows (ticket_of filed) (reserved_row moment wid) ticket
      well.by_ticket (omega (arith, lower)))
  | inr (inl same) ↦ let is = first filed refl in inr (inl (record {
    row = row_of filed;
    new = reserved_row moment wid (row_of filed);
    stood = rw same is.stands;
    rank = is.rank;
    waited = is.waits;
    stands = rw same (row_at_changed s.kept.rows (ticket_of filed) (reserved_row moment wid) well.by_ticket
        ∙ ap (option_map (reserved_row moment wid)) is.stands);
    works = refl;
  }))
  | inr (inr higher) ↦ inl (row_at_changed_other s.kept.rows (ticket_of filed) (reserved_row moment wid) ticket
      well.by_ticket (omega (arith, higher)))
]

ack_may : (kept : KeptState) (found : Option (ℕ × Row)) (ticket : ℕ)
    → ((filed : ℕ × Row) → found ≡ Some filed → IsLeased kept filed)
    → MayBe kept.rows (option_map_or (finished kept) found kept).rows ticket
ack_may kept None ticket held = inl refl
ack_may kept (Some filed) ticket held = elim (three_ways ticket (ticket_of filed)) [
  | inl lower ↦ inl (row_at_without_other kept.rows (ticket_of filed) ticket (omega (arith, lower)))
  | inr (inl same) ↦ let is = held filed refl in
      inr (inr (inl (record { row = row_of filed; stood = rw same is.stands; works = is.with_worker })))
  | inr (inr higher) ↦ inl (row_at_without_other kept.rows (ticket_of filed) ticket (omega (arith, higher)))
]

fail_may : (s : State) (reason : Reason) (moment word : ℕ) (found : Option (ℕ × Row)) (ticket : ℕ)
    → IsByTicket s.kept.rows → ((filed : ℕ × Row) → found ≡ Some filed → IsLeased s.kept filed)
    → MayBe s.kept.rows
    (option_map_or (λ filed. kept_and_said s (failed reason moment word s.kept filed) ok) found
    (only_said s unknown_job)).state.kept.rows ticket
fail_may s reason moment word None ticket by_ticket held = inl refl
fail_may s reason moment word (Some filed) ticket by_ticket held = elim (three_ways ticket (ticket_of filed)) [
  | inl lower ↦ inl (outcome_other s.kept.rows (ticket_of filed) (failed_row reason moment word filed) ticket
      by_ticket (omega (arith, lower)))
  | inr (inl same) ↦ let is = held filed refl in
      inr (inr (inl (record { row = row_of filed; stood = rw same is.stands; works = is.with_worker })))
  | inr (inr higher) ↦ inl (outcome_other s.kept.rows (ticket_of filed) (failed_row reason moment word filed)
      ticket by_ticket (omega (arith, higher)))
]

-- what is known of what becomes of a row
record IsTakenAs (rows : List (ℕ × Row)) (one : Outcome) : Type 0 where
  stands : row_at rows (ticket_in one) ≡ Some (row_in one)
  lawful : IsLawful one

taken_as : (m n : ℕ) (rows : List (ℕ × Row)) (all : List Outcome) → AreOutcomes n m rows all
    → All (IsTakenAs rows) all
taken_as m n rows all are = λ k d within. record { stands = are.stand k d within; lawful = are.lawful k d within }

taken_may : (cmd : Cmd) (moment : ℕ) (kept : KeptState) (rows : List (ℕ × Row)) (ticket : ℕ) → IsOrderly kept
    → AreTaken cmd kept.rows rows → MayBe kept.rows (mutated cmd moment kept rows).rows ticket
taken_may cmd moment kept rows ticket well taken =
    let all = mutating cmd moment kept.next rows in
    rw (mutated_rows cmd moment kept rows)
    (elim (outcomes_at (IsTakenAs kept.rows) kept.next (number_behind cmd kept.next rows) kept.rows all ticket
    (are_mutated cmd moment kept rows well taken)
    (taken_as (number_behind cmd kept.next rows) kept.next kept.rows all
    (are_mutated cmd moment kept rows well taken))) [
      | inl stays ↦ inl stays
      | inr is ↦ inr (inr (inr (inl (record {
        row = row_in is.one;
        stood = rw is.here is.is.stands;
        apart = is.is.lawful.apart;
        idle = rw is.became is.is.lawful.idle;
      }))))
    ])

said_may : (s : State) (ask : Ask) (moment word ticket : ℕ) → IsOrderly s.kept → ticket < s.kept.next
    → MayBe s.kept.rows (said s ask moment word).state.kept.rows ticket
unfolding said
said_may s (Push job) moment word ticket well lower = inl (push_stays moment s.kept job ticket well.by_ticket lower)
said_may s (PushBatch jobs told) moment word ticket well lower =
    inl (pushes_stay moment jobs s.kept ticket well.by_ticket lower)
said_may s (Fetch wid queues) moment word ticket well lower =
    fetch_may s moment wid (fetched s wid queues) ticket well (λ filed at. fetched_is s wid queues filed well at)
said_may s (Ack jid) moment word ticket well lower =
    ack_may s.kept (leased s.kept jid) ticket (λ filed at. leased_is s.kept jid filed well.by_ticket at)
said_may s (Fail jid errtype message backtrace) moment word ticket well lower =
    fail_may s (record { errtype = errtype; message = message; backtrace = backtrace }) moment word
    (leased s.kept jid) ticket well.by_ticket (λ filed at. leased_is s.kept jid filed well.by_ticket at)
said_may s Flush moment word ticket well lower = inr (inr (inr (inr refl)))
said_may s (Mutate cmd target filter) moment word ticket well lower =
    taken_may cmd moment s.kept (taken cmd target filter s.kept) ticket well
    (taken_are cmd target filter s.kept well.by_ticket)
said_may s other moment word ticket well lower = inl refl

-- ---- a turn that changes nothing

idle_not : (becomes : Option Row) (row : Row) → becomes ≡ Some row
    → IfSome becomes (λ new. is_working new.place ≡ false) → is_working row.place ≡ true → ⊥
idle_not None row e idle works = absurd (cc)
idle_not (Some new) row e idle works =
    let same : new ≡ row = same_Some new row e in
    let there : is_working new.place ≡ true = rw same works in absurd (cc)

ranked_not : (becomes : Option Row) (row : Row) (rank : ℕ) → becomes ≡ Some row → rank_of row.place ≡ Some rank
    → new_rank becomes ≡ None → ⊥
ranked_not becomes row rank e waited none =
    let there : new_rank becomes ≡ Some rank = ap new_rank e ∙ waited in absurd (cc)

-- what time alone makes of a row that no worker has: it is in its queue, or has left
abbrev IsQueuedAlone : Outcome → Type 0
IsQueuedAlone one =
    is_working (row_in one).place ≡ false → IfSome one.becomes (λ row. IsTrue (is_queued row.place))

queued_alone : (kept : KeptState) (moment word : ℕ) → IsWellKept kept
    → All IsQueuedAlone (outcomes_due kept moment word)
queued_alone kept moment word well =
    all_three IsQueuedAlone kept moment word
    (leaving_all IsQueuedAlone (IsChosen dead_moment moment kept.rows) (over kept moment) (λ filed is idle. tt)
    (each_chosen dead_moment moment kept.rows well.by_ticket))
    (failing_all IsQueuedAlone (IsChosen lease_moment moment kept.rows) expiry moment word (expired kept moment)
    (λ filed is idle. let works = ended_works moment kept.rows filed is in absurd (cc))
    (each_ended moment kept.rows well.by_ticket))
    (entering_all IsQueuedAlone (IsChosen wait_moment moment kept.rows) moment kept.next
    (kept.next + length (due kept moment)) (due kept moment) (omega arith) (λ rank filed below is idle. refl)
    (each_chosen wait_moment moment kept.rows well.by_ticket))

queued_not : (becomes : Option Row) (row : Row) → becomes ≡ Some row
    → IfSome becomes (λ new. IsTrue (is_queued new.place)) → IsTrue (is_queued row.place)
queued_not None row e queued = absurd (cc)
queued_not (Some new) row e queued = let same : new ≡ row = same_Some new row e in rw (← same) queued

idle_after : (found : Option Row) (row : Row) → found ≡ Some row
    → IfSome found (λ new. is_working new.place ≡ false) → is_working row.place ≡ false
idle_after None row e idle = absurd (cc)
idle_after (Some new) row e idle = let same : new ≡ row = same_Some new row e in rw (← same) idle

-- a row that has become another isn't the same behind a request
changed_by : (one : Outcome) (before after : List (ℕ × Row)) → IsLawful one → IsQueuedAlone one
    → row_at before (ticket_in one) ≡ one.becomes → row_at after (ticket_in one) ≡ Some (row_in one)
    → MayBe before after (ticket_in one) → ⊥
changed_by one before after lawful alone became stays (inl same) =
    lawful.changes (sym became ∙ sym same ∙ stays)
changed_by one before after lawful alone became stays (inr (inl out)) =
    let same : row_in one ≡ out.new = same_Some (row_in one) out.new (sym stays ∙ out.stands) in
    let works : is_working (row_in one).place ≡ true = rw same out.works in
    ranked_not one.becomes out.row out.rank (sym became ∙ out.stood) out.waited (lawful.unranked works)
changed_by one before after lawful alone became stays (inr (inr (inl out))) =
    idle_not one.becomes out.row (sym became ∙ out.stood) lawful.idle out.works
changed_by one before after lawful alone became stays (inr (inr (inr (inl was)))) =
    was.apart (queued_not one.becomes was.row (sym became ∙ was.stood)
    (alone (idle_after (row_at after (ticket_in one)) (row_in one) stays was.idle)))
changed_by one before after lawful alone became stays (inr (inr (inr (inr none)))) = absurd (cc)

none_if : (s : State) (ask : Ask) (moment word : ℕ) (all : List Outcome) → IsWellKept s.kept
    → outcomes_due s.kept moment word ≡ all → (turn s ask moment word).state.kept ≡ s.kept → all ≡ []
none_if s ask moment word [] well e same = refl
none_if s ask moment word (one ∷ all) well e same =
    let m = s.kept.next + length (due s.kept moment) in
    let are : AreOutcomes s.kept.next m s.kept.rows (one ∷ all) =
    subst (AreOutcomes s.kept.next m s.kept.rows) e (are_outcomes s.kept moment word well) in
    let rows : (brought_up s.kept moment word).rows ≡ fold rows_with s.kept.rows (one ∷ all) =
    up.up_rows s.kept moment word ∙ ap (fold rows_with s.kept.rows) e in
    let lower = first_lower s.kept.next m s.kept.rows one all are in
    let next = up.up_next s.kept moment word in
    absurd (changed_by one (brought_up s.kept moment word).rows (turn s ask moment word).state.kept.rows
    (All-head IsLawful one all are.lawful)
    (All-head IsQueuedAlone one all (subst (All IsQueuedAlone) e (queued_alone s.kept moment word well)))
    (ap (λ xs. row_at xs (ticket_in one)) rows ∙ first_becomes s.kept.next m s.kept.rows one all are)
    (ap (λ (k : KeptState). row_at k.rows (ticket_in one)) same
    ∙ All-head (λ x. row_at s.kept.rows (ticket_in x) ≡ Some (row_in x)) one all are.stand)
    (said_may (up_to_date s moment word) ask moment word (ticket_in one) (up.up_orderly s.kept moment word well)
    (omega (arith, lower, next))))

-- a turn that leaves the kept state as it is has no move
pub turn_changes : (s : State) (ask : Ask) (moment word : ℕ) → IsWellKept s.kept
    → (turn s ask moment word).state.kept ≡ s.kept
    → moves_up s.kept moment word ++ moves_of s.kept (up_to_date s moment word) ask moment word ≡ []
turn_changes s ask moment word kept_well same =
    let middle = up_to_date s moment word in
    let well = up.up_orderly s.kept moment word kept_well in
    let none : moves_up s.kept moment word ≡ [] =
    sym (told_due s.kept moment word)
    ∙ ap (map told_by) (none_if s ask moment word (outcomes_due s.kept moment word) kept_well refl same) in
    let stays : middle.kept ≡ s.kept = (up.up_are_rows s.kept moment word kept_well).none none in
    let back : moves_of s.kept middle ask moment word ≡ [] =
    (rows_of s.kept middle ask moment word well (nothing_up s.kept moment word)).stays stays (same ∙ sym stays) in
    rw (none, back) refl

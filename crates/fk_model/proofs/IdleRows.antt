-- What holds of each row that no worker has, and of the row that a FETCH gives, holds of each row behind a turn, if it
-- did before: nothing else brings a row to a worker.
use Rattle.std.proofs.Common.{◌≡◌, refl, ℕ, List, [], ◌∷◌, Bool, true, false}
use Rattle.std.specs.Prelude.{All, Option, None, Some, IfSome, fold}
use Rattle.std.specs.Option.{option_map_or}
use Rattle.std.proofs.lemmas.List.Elements.{All-nil}
use Rattle.fk_job.specs.declared.job.Job.{Job}
use Rattle.fk_model.specs.declared.row.Row.{Row}
use Rattle.fk_model.specs.declared.ask.Ask.{Ask}
use Rattle.fk_model.specs.declared.ask.Ask.TheVariants.{Push, PushBatch, Fetch, Ack, Fail, Flush, Mutate}
use Rattle.fk_model.specs.declared.mutation.Cmd.{Cmd}
use Rattle.fk_model.specs.declared.mutation.Cmd.TheVariants.{Kill, Discard, Requeue, Clear}
use Rattle.fk_model.specs.Rows.{ticket_of, row_of, IsByTicket}
use Rattle.fk_model.specs.State.{KeptState, State}
use Rattle.fk_model.specs.Orders.{is_working, leased}
use Rattle.fk_model.specs.Failing.{Reason, expiry, failed, failed_row, with_outcome}
use Rattle.fk_model.specs.Due.{over, expired, due}
use Rattle.fk_model.specs.Bringing.{brought_up, forgotten, enqueued, waiting_row}
use Rattle.fk_model.specs.Requests.{is_later, pushed, pushed_row, fetched, finished, reserved_row}
use Rattle.fk_model.specs.Mutated.{killed, killed_row, mutated, taken}
use Rattle.fk_model.specs.Said.{said}
use Rattle.fk_model.proofs.Tickets.{all_with, all_without, all_changed}
use Rattle.fk_model.proofs.Orderly.{IsOrderly}
use Rattle.fk_model.proofs.Waiting.{IsFirstRow}
use Rattle.fk_model.proofs.Requested.{fetched_is, after_fetch}
use Rattle.fk_model.proofs.Asked.{after_fail}
use Rattle.fk_model.proofs.ReservedRows.{failed_idle}

-- ---- what holds of each row that no worker has

-- a fact holds of each row that no worker has
abbrev pub HoldsIdle : (ℕ × Row → Type 0) → Type 0
HoldsIdle P = (filed : ℕ × Row) → is_working (row_of filed).place ≡ false → P filed

-- then it holds of each row behind a step that brings no row to a worker, if it did before
abbrev Keeps : {X : Type 0} → (ℕ × Row → Type 0) → (KeptState → X → KeptState) → Type 0
Keeps {X} P step = (kept : KeptState) (x : X) → All P kept.rows → All P (step kept x).rows

-- and so it does behind many
each_kept : {X : Type 0} (P : ℕ × Row → Type 0) (step : KeptState → X → KeptState) → Keeps P step
    → (kept : KeptState) (xs : List X) → All P kept.rows → All P (fold step kept xs).rows
each_kept P step keeps kept [] each = each
each_kept P step keeps kept (x ∷ xs) each = each_kept P step keeps (step kept x) xs (keeps kept x each)

forgotten_keeps : (P : ℕ × Row → Type 0) → Keeps P forgotten
forgotten_keeps P kept filed each = all_without P kept.rows (ticket_of filed) each

enqueued_keeps : (P : ℕ × Row → Type 0) (moment : ℕ) → HoldsIdle P → Keeps P (enqueued moment)
enqueued_keeps P moment holds kept filed each =
    let row = waiting_row moment kept.next (row_of filed) in
    all_with P kept.rows (ticket_of filed) row each (holds (ticket_of filed, row) refl)

killed_keeps : (P : ℕ × Row → Type 0) (moment : ℕ) → HoldsIdle P → Keeps P (killed moment)
killed_keeps P moment holds kept filed each =
    let row = killed_row moment (row_of filed) in
    all_with P kept.rows (ticket_of filed) row each (holds (ticket_of filed, row) refl)

outcome_keeps : (P : ℕ × Row → Type 0) (rows : List (ℕ × Row)) (ticket : ℕ) (becomes : Option Row) → HoldsIdle P
    → All P rows → IfSome becomes (λ row. is_working row.place ≡ false) → All P (with_outcome rows ticket becomes)
outcome_keeps P rows ticket None holds each idle = all_without P rows ticket each
outcome_keeps P rows ticket (Some row) holds each idle = all_with P rows ticket row each (holds (ticket, row) idle)

failed_keeps : (P : ℕ × Row → Type 0) (reason : Reason) (moment word : ℕ) → HoldsIdle P
    → Keeps P (failed reason moment word)
failed_keeps P reason moment word holds kept filed each =
    outcome_keeps P kept.rows (ticket_of filed) (failed_row reason moment word filed) holds each
    (failed_idle reason moment word filed)

pushed_idle : (moment ticket : ℕ) (job : Job) (later : Bool) → is_later moment job ≡ later
    → is_working (pushed_row moment ticket job).place ≡ false
pushed_idle moment ticket job true e = rw e refl
pushed_idle moment ticket job false e = rw e refl

pushed_keeps : (P : ℕ × Row → Type 0) (moment : ℕ) → HoldsIdle P → Keeps P (pushed moment)
pushed_keeps P moment holds kept job each =
    let row = pushed_row moment kept.next job in
    all_with P kept.rows kept.next row each
    (holds (kept.next, row) (pushed_idle moment kept.next job (is_later moment job) refl))

mutated_keeps : (P : ℕ × Row → Type 0) (cmd : Cmd) (moment : ℕ) (kept : KeptState) (rows : List (ℕ × Row))
    → HoldsIdle P → All P kept.rows → All P (mutated cmd moment kept rows).rows
mutated_keeps P Kill moment kept rows holds each =
    each_kept P (killed moment) (killed_keeps P moment holds) kept rows each
mutated_keeps P Discard moment kept rows holds each = each_kept P forgotten (forgotten_keeps P) kept rows each
mutated_keeps P Requeue moment kept rows holds each =
    each_kept P (enqueued moment) (enqueued_keeps P moment holds) kept rows each
mutated_keeps P Clear moment kept rows holds each = each_kept P forgotten (forgotten_keeps P) kept rows each

-- ---- a turn

-- what comes by time alone brings no row to a worker
pub up_keeps : (P : ℕ × Row → Type 0) (kept : KeptState) (moment word : ℕ) → HoldsIdle P → All P kept.rows
    → All P (brought_up kept moment word).rows
up_keeps P kept moment word holds each =
    let gone = fold forgotten kept (over kept moment) in
    let ended = fold (failed expiry moment word) gone (expired kept moment) in
    each_kept P (enqueued moment) (enqueued_keeps P moment holds) ended (due kept moment)
    (each_kept P (failed expiry moment word) (failed_keeps P expiry moment word holds) gone (expired kept moment)
    (each_kept P forgotten (forgotten_keeps P) kept (over kept moment) each))

ack_keeps : (P : ℕ × Row → Type 0) (kept : KeptState) (found : Option (ℕ × Row)) → All P kept.rows
    → All P (option_map_or (finished kept) found kept).rows
ack_keeps P kept None each = each
ack_keeps P kept (Some filed) each = all_without P kept.rows (ticket_of filed) each

fail_keeps : (P : ℕ × Row → Type 0) (s : State) (reason : Reason) (moment word : ℕ) (found : Option (ℕ × Row))
    → HoldsIdle P → All P s.kept.rows → All P (after_fail s reason moment word found).rows
fail_keeps P s reason moment word None holds each = each
fail_keeps P s reason moment word (Some filed) holds each = failed_keeps P reason moment word holds s.kept filed each

fetch_keeps : (P : ℕ × Row → Type 0) (s : State) (moment : ℕ) (wid : List ℕ) (found : Option (ℕ × Row))
    → IsByTicket s.kept.rows → ((filed : ℕ × Row) → found ≡ Some filed → IsFirstRow s.kept filed)
    → ((filed : ℕ × Row) → found ≡ Some filed → P (ticket_of filed, reserved_row moment wid (row_of filed)))
    → All P s.kept.rows → All P (after_fetch s moment wid found).kept.rows
fetch_keeps P s moment wid None by_ticket first given each = each
fetch_keeps P s moment wid (Some filed) by_ticket first given each =
    all_changed P s.kept.rows (ticket_of filed) (reserved_row moment wid) (row_of filed) by_ticket
    (first filed refl).stands each (given filed refl)

-- a fact of each row that no worker has, and of the row that a FETCH gives
pub record HoldsOf (P : ℕ × Row → Type 0) (s : State) (ask : Ask) (moment : ℕ) : Type 0 where
  pub idle : HoldsIdle P
  pub given : (wid : List ℕ) (queues : List (List ℕ)) (filed : ℕ × Row) → ask ≡ Fetch wid queues
      → fetched s wid queues ≡ Some filed → P (ticket_of filed, reserved_row moment wid (row_of filed))

-- and no request does but a FETCH
pub said_keeps : (P : ℕ × Row → Type 0) (s : State) (ask : Ask) (moment word : ℕ) → IsOrderly s.kept
    → HoldsOf P s ask moment → All P s.kept.rows → All P (said s ask moment word).state.kept.rows
unfolding said
said_keeps P s (Push job) moment word well holds each = pushed_keeps P moment holds.idle s.kept job each
said_keeps P s (PushBatch jobs told) moment word well holds each =
    each_kept P (pushed moment) (pushed_keeps P moment holds.idle) s.kept jobs each
said_keeps P s (Fetch wid queues) moment word well holds each =
    fetch_keeps P s moment wid (fetched s wid queues) well.by_ticket
    (λ filed found. fetched_is s wid queues filed well found)
    (λ filed found. holds.given wid queues filed refl found) each
said_keeps P s (Ack jid) moment word well holds each = ack_keeps P s.kept (leased s.kept jid) each
said_keeps P s (Fail jid errtype message backtrace) moment word well holds each =
    fail_keeps P s (record { errtype = errtype; message = message; backtrace = backtrace }) moment word
    (leased s.kept jid) holds.idle each
said_keeps P s Flush moment word well holds each = All-nil P
said_keeps P s (Mutate cmd target filter) moment word well holds each =
    mutated_keeps P cmd moment s.kept (taken cmd target filter s.kept) holds.idle each
said_keeps P s other moment word well holds each = each

-- Nothing is due behind a turn at its moment.
use Rattle.std.proofs.Common.{◌≡◌, refl, ℕ, ◌<◌, List, [], ◌∷◌, Bool, true, false, arith}
use Rattle.std.specs.Prelude.{if◌then◌else◌, Option, None, Some, nat_lt}
use Rattle.std.specs.Option.{option_map_or}
use Rattle.std.proofs.lemmas.Bool.Decides.{nat_tests}
use Rattle.std.proofs.lemmas.List.Elements.{All-nil}
use Rattle.fk_time.specs.Moments.{greatest}
use Rattle.fk_job.specs.declared.job.Job.{Job}
use Rattle.fk_model.specs.declared.row.Row.{Row}
use Rattle.fk_model.specs.declared.place.Place.TheVariants.{Queued, Scheduled}
use Rattle.fk_model.specs.declared.ask.Ask.{Ask}
use Rattle.fk_model.specs.declared.ask.Ask.TheVariants.{Push, PushBatch, Fetch, Ack, Fail, Flush, Mutate}
use Rattle.fk_model.specs.Rows.{ticket_of, row_of}
use Rattle.fk_model.specs.State.{KeptState, State}
use Rattle.fk_model.specs.Orders.{leased}
use Rattle.fk_model.specs.Between.{IsBetweenTurns}
use Rattle.fk_model.specs.Due.{IsUpToDate}
use Rattle.fk_model.specs.Failing.{Reason, failed_row, failed}
use Rattle.fk_model.specs.Requests.{due_at, is_later, pushed_row, pushed, all_pushed, fetched, reserved_row, finished}
use Rattle.fk_model.specs.Mutated.{taken}
use Rattle.fk_model.specs.Said.{kept_and_said, only_said, ok, unknown_job, said}
use Rattle.fk_model.specs.Turns.{up_to_date, turn}
use Rattle.fk_model.proofs.Tickets.{all_with, all_without, all_changed, row_holds}
use Rattle.fk_model.proofs.Orderly.{HasJob, IsOrderly}
use Rattle.fk_model.proofs.Waiting.{IsFirstRow}
use Rattle.fk_model.proofs.Requested.{fetched_is, after_fetch}
use Rattle.fk_model.proofs.OfSets.{taken_are}
use Rattle.fk_model.proofs.MutateMoves.{mutated_on}
use Rattle.fk_model.proofs.Outcomes.{outcome_all}
use Rattle.fk_model.proofs.Settling.{IsLater}
use Rattle.fk_model.proofs.Fates.{failed_on}
use Rattle.fk_model.proofs.UpToDate as up

-- ---- a request leaves nothing due

-- a row under its ticket stays where it is until later
abbrev IsOn : ℕ → ℕ × Row → Type 0
IsOn moment filed = IsLater moment (row_of filed)

later_if : (moment ticket : ℕ) (job : Job) (later : Bool) → nat_lt moment (due_at job) ≡ later
    → IsLater moment (if later then record {
      job = job;
      stamp = record { created = moment; enqueued = None; failure = None };
      place = Scheduled (due_at job);
    } else record {
      job = job;
      stamp = record { created = moment; enqueued = Some moment; failure = None };
      place = Queued ticket;
    })
later_if moment ticket job true e = grind (arith, nat_tests, e)
later_if moment ticket job false e = tt

push_on : (moment : ℕ) (kept : KeptState) (job : Job) → IsUpToDate moment kept
    → IsUpToDate moment (pushed moment kept job)
push_on moment kept job on =
    all_with (IsOn moment) kept.rows kept.next (pushed_row moment kept.next job) on
    (later_if moment kept.next job (is_later moment job) refl)

pushes_on : (moment : ℕ) (jobs : List Job) (kept : KeptState) → IsUpToDate moment kept
    → IsUpToDate moment (all_pushed moment kept jobs)
pushes_on moment [] kept on = on
pushes_on moment (job ∷ jobs) kept on = pushes_on moment jobs (pushed moment kept job) (push_on moment kept job on)

fetch_on : (s : State) (moment : ℕ) (wid : List ℕ) (found : Option (ℕ × Row)) → IsOrderly s.kept
    → moment < greatest → ((filed : ℕ × Row) → found ≡ Some filed → IsFirstRow s.kept filed)
    → IsUpToDate moment s.kept → IsUpToDate moment (after_fetch s moment wid found).kept
fetch_on s moment wid None well told first on = on
fetch_on s moment wid (Some filed) well told first on =
    let stands = (first filed refl).stands in
    let least = (row_holds HasJob s.kept.rows (ticket_of filed) (row_of filed) well.jobs stands).least in
    all_changed (IsOn moment) s.kept.rows (ticket_of filed) (reserved_row moment wid) (row_of filed)
    well.by_ticket stands on (omega (arith, told, least))

ack_on : (moment : ℕ) (kept : KeptState) (found : Option (ℕ × Row)) → IsUpToDate moment kept
    → IsUpToDate moment (option_map_or (finished kept) found kept)
ack_on moment kept None on = on
ack_on moment kept (Some filed) on = all_without (IsOn moment) kept.rows (ticket_of filed) on

fail_on : (s : State) (reason : Reason) (moment word : ℕ) (found : Option (ℕ × Row)) → moment < greatest
    → IsUpToDate moment s.kept
    → IsUpToDate moment (option_map_or (λ filed. kept_and_said s (failed reason moment word s.kept filed) ok) found
    (only_said s unknown_job)).state.kept
fail_on s reason moment word None told on = on
fail_on s reason moment word (Some filed) told on =
    outcome_all (IsOn moment) (IsOn moment) s.kept.rows (ticket_of filed)
    (failed_row reason moment word filed) (λ x apart later. later) on (failed_on reason moment word filed told)

said_on : (s : State) (ask : Ask) (moment word : ℕ) → IsOrderly s.kept → moment < greatest
    → IsUpToDate moment s.kept → IsUpToDate moment (said s ask moment word).state.kept
unfolding said
said_on s (Push job) moment word well told on = push_on moment s.kept job on
said_on s (PushBatch jobs text) moment word well told on = pushes_on moment jobs s.kept on
said_on s (Fetch wid queues) moment word well told on =
    fetch_on s moment wid (fetched s wid queues) well told (λ filed at. fetched_is s wid queues filed well at) on
said_on s (Ack jid) moment word well told on = ack_on moment s.kept (leased s.kept jid) on
said_on s (Fail jid errtype message backtrace) moment word well told on =
    fail_on s (record { errtype = errtype; message = message; backtrace = backtrace }) moment word
    (leased s.kept jid) told on
said_on s Flush moment word well told on = All-nil (IsOn moment)
said_on s (Mutate cmd target filter) moment word well told on =
    mutated_on cmd moment s.kept (taken cmd target filter s.kept) well told
    (taken_are cmd target filter s.kept well.by_ticket) on
said_on s other moment word well told on = on

-- and so does a turn
pub turn_leaves_none : (s : State) (ask : Ask) (moment word : ℕ) → IsBetweenTurns s → moment < greatest
    → IsUpToDate moment (turn s ask moment word).state.kept
turn_leaves_none s ask moment word ready told =
    said_on (up_to_date s moment word) ask moment word (up.up_orderly s.kept moment word ready.kept) told
    (up.up_to_date s.kept moment word ready.kept told)

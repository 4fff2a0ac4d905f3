-- What is said to a request in a state that is up to date, and the state that it leaves.
use Rattle.std.specs.Prelude.{ℕ, List, codes}
use Rattle.std.specs.Option.{option_map_or}
use Rattle.fk_frame.specs.declared.reply.Reply.{Reply}
use Rattle.fk_frame.specs.declared.reply.Reply.TheVariants.{Status, Error, Bulk, Nil}
use Rattle.fk_job.specs.RowText.{row_text}
use Rattle.fk_model.specs.declared.row.Row.{Row}
use Rattle.fk_model.specs.declared.ask.Ask.{Ask}
use Rattle.fk_model.specs.declared.ask.Ask.TheVariants.{Hello, Push, PushBatch, Fetch, Ack, Fail, Beat, Signal, Info, Flush, Mutate, Tick}
use Rattle.fk_model.specs.declared.work_state.WorkState.{WorkState}
use Rattle.fk_model.specs.declared.work_state.WorkState.TheVariants.{Running, Quiet, Terminate}
use Rattle.fk_model.specs.Rows.{ticket_of, row_of}
use Rattle.fk_model.specs.State.{KeptState, State, Worker}
use Rattle.fk_model.specs.Orders.{leased}
use Rattle.fk_model.specs.Failing.{Reason, failed}
use Rattle.fk_model.specs.Workers.{seen_again, introduced, signalled, state_of}
use Rattle.fk_model.specs.Requests.{pushed, all_pushed, fetched, reserved, finished}
use Rattle.fk_model.specs.Mutated.{flushed, mutated, taken}
use Rattle.fk_model.specs.Info.{info_text}

-- what a request does: the state that it leaves, and what is said to it
pub record Effect : Type 0 where
  pub state : State
  pub reply : Reply

abbrev pub ok : Reply
ok = Status (codes "OK")

-- the state stays, and this is said
abbrev pub only_said : State → Reply → Effect
only_said state reply = record { state = state; reply = reply }

-- this is kept, and this is said
abbrev pub kept_and_said : State → KeptState → Reply → Effect
kept_and_said state kept reply = record { state = record state { kept = kept }; reply = reply }

-- a row is handed out: it is with the worker, who gets its text
abbrev pub handed_out : State → ℕ → List ℕ → ℕ × Row → Effect
handed_out state moment wid filed =
    kept_and_said state (reserved moment wid state.kept (ticket_of filed))
    (Bulk (row_text (row_of filed).job (row_of filed).stamp))

-- a fetch: the row that the worker is given, or no value
abbrev pub fetch_effect : State → List ℕ → List (List ℕ) → ℕ → Effect
fetch_effect state wid queues moment =
    option_map_or (handed_out state moment wid) (fetched state wid queues) (only_said state Nil)

-- an acknowledgement: the row of that jid leaves, if a worker has one
abbrev pub ack_effect : State → List ℕ → Effect
ack_effect state jid =
    kept_and_said state (option_map_or (finished state.kept) (leased state.kept jid) state.kept) ok

-- what is said of a jid of which no worker has a row
abbrev pub unknown_job : Reply
unknown_job = Error (codes "ERR Unknown job")

-- a failure: of the rows of that jid that workers have, the one of the least ticket meets its fate
abbrev pub fail_effect : State → List ℕ → Reason → ℕ → ℕ → Effect
fail_effect state jid reason moment word =
    option_map_or (λ filed. kept_and_said state (failed reason moment word state.kept filed) ok)
    (leased state.kept jid) (only_said state unknown_job)

-- the workers are these, and this is said
abbrev pub listed_and_said : State → List Worker → Reply → Effect
listed_and_said state workers reply = record { state = record state { workers = workers }; reply = reply }

-- what is said of a wid that isn't listed
abbrev pub unknown_worker : Reply
unknown_worker = Error (codes "ERR Unknown worker")

-- what is said to a worker that is there, by its state
abbrev pub state_told : WorkState → Reply
state_told Running = ok
state_told Quiet = Bulk (codes "{\"state\":\"quiet\"}")
state_told Terminate = Bulk (codes "{\"state\":\"terminate\"}")

-- a beat: the worker is seen, and told its state, if it is listed
abbrev pub beat_effect : State → List ℕ → ℕ → Effect
beat_effect state wid moment =
    listed_and_said state (seen_again wid moment state.workers)
    (option_map_or state_told (state_of wid state.workers) unknown_worker)

-- a signal: the worker gets the state, unless it has a greater one, if it is listed
abbrev pub signal_effect : State → List ℕ → WorkState → Effect
signal_effect state wid given =
    listed_and_said state (signalled wid given state.workers)
    (option_map_or (λ own. ok) (state_of wid state.workers) unknown_worker)

-- what is said to a request, and the state that it leaves, by the moment and the word of its turn
unfoldable pub said : State → Ask → ℕ → ℕ → Effect
said state (Hello wid) moment word = listed_and_said state (introduced wid moment state.workers) ok
said state (Push job) moment word = kept_and_said state (pushed moment state.kept job) ok
said state (PushBatch jobs told) moment word =
    kept_and_said state (all_pushed moment state.kept jobs) (Bulk told)
said state (Fetch wid queues) moment word = fetch_effect state wid queues moment
said state (Ack jid) moment word = ack_effect state jid
said state (Fail jid errtype message backtrace) moment word =
    fail_effect state jid (record { errtype = errtype; message = message; backtrace = backtrace }) moment word
said state (Beat wid) moment word = beat_effect state wid moment
said state (Signal wid given) moment word = signal_effect state wid given
said state Info moment word = only_said state (Bulk (info_text state.kept moment))
said state Flush moment word = kept_and_said state (flushed state.kept) ok
said state (Mutate cmd target filter) moment word =
    kept_and_said state (mutated cmd moment state.kept (taken cmd target filter state.kept)) ok
said state Tick moment word = only_said state ok

-- No reply that a turn says has the bytes of an answer of a turn that couldn't be made.
use Rattle.std.proofs.Common.{◌≡◌, ◌≢◌, ℕ, zero, suc, ◌<◌, List, codes, Option, None, Some, arith, refl, sym, ◌∙◌, ap}
use Rattle.std.specs.Prelude.{slice_index, slice_index_or}
use Rattle.std.specs.Option.{option_map_or}
use Rattle.fk_frame.specs.declared.reply.Reply.{Reply}
use Rattle.fk_frame.specs.declared.reply.Reply.TheVariants.{Status, Bulk, Nil}
use Rattle.fk_frame.specs.Replies.{reply_bytes}
use Rattle.fk_model.specs.declared.row.Row.{Row}
use Rattle.fk_model.specs.declared.ask.Ask.{Ask}
use Rattle.fk_model.specs.declared.ask.Ask.TheVariants.{Hello, Push, PushBatch, Fetch, Ack, Fail, Beat, Signal, Info, Flush, Mutate, Tick}
use Rattle.fk_model.specs.declared.work_state.WorkState.{WorkState}
use Rattle.fk_model.specs.declared.work_state.WorkState.TheVariants.{Running, Quiet, Terminate}
use Rattle.fk_job.specs.RowText.{row_text}
use Rattle.fk_model.specs.Rows.{row_of}
use Rattle.fk_model.specs.State.{State}
use Rattle.fk_model.specs.Orders.{leased}
use Rattle.fk_model.specs.Failing.{Reason, failed}
use Rattle.fk_model.specs.Requests.{fetched}
use Rattle.fk_model.specs.Workers.{state_of}
use Rattle.fk_model.specs.Info.{info_text}
use Rattle.fk_model.specs.Said.{only_said, kept_and_said, handed_out, ok, unknown_job, unknown_worker, state_told, said}
use Rattle.fk_model.specs.Turns.{up_to_date, turn}
use Rattle.fk_model.specs.Answers.{turn_texts, IsToldApart}

-- the first byte tells: each of those answers begins with `-`
begins_otherwise : (r : List ℕ) (k : ℕ) → slice_index r 0 ≢ 45
    → k < 3 → slice_index_or turn_texts k r ≡ r → ⊥
begins_otherwise r zero other lt e = other (sym (ap (λ text. slice_index text 0) e))
begins_otherwise r (suc zero) other lt e = other (sym (ap (λ text. slice_index text 0) e))
begins_otherwise r (suc (suc zero)) other lt e = other (sym (ap (λ text. slice_index text 0) e))
begins_otherwise r (suc (suc (suc k))) other lt e = omega (arith, lt)

-- the byte behind `-ERR ` tells: `O`, `F` and `D` are those of the turns
goes_on_otherwise : (r : List ℕ) (k : ℕ) → slice_index r 5 ≢ 79 → slice_index r 5 ≢ 70
    → slice_index r 5 ≢ 68 → k < 3 → slice_index_or turn_texts k r ≡ r → ⊥
goes_on_otherwise r zero o f d lt e = o (sym (ap (λ text. slice_index text 5) e))
goes_on_otherwise r (suc zero) o f d lt e = f (sym (ap (λ text. slice_index text 5) e))
goes_on_otherwise r (suc (suc zero)) o f d lt e = d (sym (ap (λ text. slice_index text 5) e))
goes_on_otherwise r (suc (suc (suc k))) o f d lt e = omega (arith, lt)

pub an_error : (reply : Reply) (byte : ℕ) → slice_index (reply_bytes reply) 5 ≡ byte
    → byte ≢ 79 → byte ≢ 70 → byte ≢ 68 → IsToldApart reply
an_error reply byte at o f d c =
    goes_on_otherwise (reply_bytes reply) c.0 (λ e. o (sym at ∙ e)) (λ e. f (sym at ∙ e))
    (λ e. d (sym at ∙ e)) c.1 c.2

pub a_status : (text : List ℕ) → IsToldApart (Status text)
a_status text c = begins_otherwise _ c.0 (λ e. let same : 43 ≡ 45 = e in omega (arith, same)) c.1 c.2

a_bulk : (text : List ℕ) → IsToldApart (Bulk text)
a_bulk text c = begins_otherwise _ c.0 (λ e. let same : 36 ≡ 45 = e in omega (arith, same)) c.1 c.2

no_value : IsToldApart Nil
no_value c = begins_otherwise _ c.0 (λ e. let same : 36 ≡ 45 = e in omega (arith, same)) c.1 c.2

-- a fetch says the text of a row, or Nil
a_fetch : (s : State) (moment : ℕ) (wid : List ℕ) (row : Option (ℕ × Row))
    → IsToldApart (option_map_or (handed_out s moment wid) row (only_said s Nil)).reply
a_fetch s moment wid None = no_value
a_fetch s moment wid (Some filed) = a_bulk (row_text (row_of filed).job (row_of filed).stamp)

-- a failure says OK, or that the job isn't known
a_fail : (s : State) (reason : Reason) (moment word : ℕ) (row : Option (ℕ × Row))
    → IsToldApart (option_map_or (λ filed. kept_and_said s (failed reason moment word s.kept filed) ok) row
    (only_said s unknown_job)).reply
a_fail s reason moment word None = an_error unknown_job 85 refl (omega arith) (omega arith) (omega arith)
a_fail s reason moment word (Some filed) = a_status (codes "OK")

-- a worker is told its state, or that it isn't known
a_state : (told : Option WorkState) → IsToldApart (option_map_or state_told told unknown_worker)
a_state None = an_error unknown_worker 85 refl (omega arith) (omega arith) (omega arith)
a_state (Some Running) = a_status (codes "OK")
a_state (Some Quiet) = a_bulk (codes "{\"state\":\"quiet\"}")
a_state (Some Terminate) = a_bulk (codes "{\"state\":\"terminate\"}")

-- a signal says OK, or that the worker isn't known
a_signal : (told : Option WorkState) → IsToldApart (option_map_or (λ own. ok) told unknown_worker)
a_signal None = an_error unknown_worker 85 refl (omega arith) (omega arith) (omega arith)
a_signal (Some own) = a_status (codes "OK")

what_is_said : (s : State) (ask : Ask) (moment word : ℕ) → IsToldApart (said s ask moment word).reply
unfolding said
what_is_said s (Hello wid) moment word = a_status (codes "OK")
what_is_said s (Push job) moment word = a_status (codes "OK")
what_is_said s (PushBatch jobs told) moment word = a_bulk told
what_is_said s (Fetch wid queues) moment word = a_fetch s moment wid (fetched s wid queues)
what_is_said s (Ack jid) moment word = a_status (codes "OK")
what_is_said s (Fail jid errtype message backtrace) moment word =
    a_fail s (record { errtype = errtype; message = message; backtrace = backtrace }) moment word
    (leased s.kept jid)
what_is_said s (Beat wid) moment word = a_state (state_of wid s.workers)
what_is_said s (Signal wid given) moment word = a_signal (state_of wid s.workers)
what_is_said s Info moment word = a_bulk (info_text s.kept moment)
what_is_said s Flush moment word = a_status (codes "OK")
what_is_said s (Mutate cmd target filter) moment word = a_status (codes "OK")
what_is_said s Tick moment word = a_status (codes "OK")

pub a_turn : (s : State) (ask : Ask) (moment word : ℕ) → IsToldApart (turn s ask moment word).reply
a_turn s ask moment word = what_is_said (up_to_date s moment word) ask moment word

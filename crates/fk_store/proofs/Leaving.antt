-- What a turn leaves: the kept state, and the workers, of whom what is left of its ask tells enough.
use Rattle.std.proofs.Common.{◌≡◌, ◌∙◌, refl, ap, sym, ℕ, List, [], inl, inr, Option, None, Some, option_to_list, map}
use Rattle.std.specs.Prelude.{◌⊎◌, true, false}
use Rattle.fk_model.specs.declared.ask.Ask.{Ask}
use Rattle.fk_model.specs.declared.ask.Ask.TheVariants.{Hello, Push, PushBatch, Fetch, Ack, Fail, Beat, Signal, Info, Flush, Mutate, Tick}
use Rattle.fk_model.specs.declared.answer.Answer.{Answer}
use Rattle.fk_model.specs.declared.answer.Answer.TheVariants.{Said, NoMemory, Full, DiskFault}
use Rattle.fk_model.specs.declared.move_.Move.{Move}
use Rattle.fk_model.specs.declared.move_.Move.TheVariants.{Drop}
use Rattle.fk_model.specs.declared.row.Row.{Row}
use Rattle.fk_model.specs.State.{KeptState, State, Worker, with_workers}
use Rattle.fk_model.specs.Changes.{after_moves}
use Rattle.fk_model.specs.Due.{IsUpToDate}
use Rattle.fk_model.specs.Orders.{leased}
use Rattle.fk_model.specs.Rows.{ticket_of}
use Rattle.fk_model.specs.Workers.{after_turn}
use Rattle.fk_model.specs.Turns.{closed, moves_of, moves_of_turn, turn, up_to_date}
use Rattle.fk_model.specs.History.{left_by}
use Rattle.fk_model.proofs.Turning.{turn_workers}
use Rattle.fk_workers.specs.Roll.{is_hello}
use Rattle.fk_plan.specs.Plans.{is_ack_or_beat, left_of}
use Rattle.fk_plan.proofs.NothingDue as due
use Rattle.fk_lives.specs.OnDisk.{IsAckOrBeat}
use Rattle.fk_store.specs.RoomForTurns.{IsOneDrop}
use Rattle.fk_store.specs.Turning.{made_by, workers_behind}

-- ---- the state

-- the workers after a turn are what is left of the ask makes of them
left_acts : (ask : Ask) (moment : ℕ) (workers : List Worker)
    → after_turn (left_of ask) moment workers ≡ after_turn ask moment workers
left_acts (Push job) moment workers = refl
left_acts (PushBatch jobs told) moment workers = refl
left_acts (Fetch wid queues) moment workers = refl
left_acts (Ack jid) moment workers = refl
left_acts (Fail jid errtype message backtrace) moment workers = refl
left_acts (Hello wid) moment workers = refl
left_acts (Beat wid) moment workers = refl
left_acts (Signal wid given) moment workers = refl
left_acts Info moment workers = refl
left_acts Flush moment workers = refl
left_acts (Mutate cmd target filter) moment workers = refl
left_acts Tick moment workers = refl

state_is : (state : State) (kept : KeptState) (workers : List Worker) → kept ≡ state.kept
    → workers ≡ state.workers → with_workers kept workers ≡ state
state_is state kept workers same others = rw (same, others) refl

-- the state that an answer leaves
pub state_left : (kept now : KeptState) (workers acts : List Worker) (ask left : Ask) (moment word : ℕ)
    (answer : Answer) (moves : List Move) → left ≡ left_of ask
    → acts ≡ workers_behind answer left moment workers → now ≡ after_moves kept (made_by answer moves)
    → (turn (with_workers kept workers) ask moment word).state.kept ≡ after_moves kept moves
    → with_workers now acts
    ≡ left_by answer (with_workers kept workers) (turn (with_workers kept workers) ask moment word)
state_left kept now workers acts ask left moment word (Said reply) moves is did come comes =
    let state = (turn (with_workers kept workers) ask moment word).state in
    let own : acts ≡ after_turn ask moment workers =
    did ∙ ap (λ (one : Ask). after_turn one moment workers) is ∙ left_acts ask moment workers in
    state_is state now acts (come ∙ sym comes) (own ∙ sym (turn_workers (with_workers kept workers) ask moment word))
state_left kept now workers acts ask left moment word NoMemory moves is did come comes =
    state_is (with_workers kept workers) now acts come did
state_left kept now workers acts ask left moment word Full moves is did come comes =
    state_is (with_workers kept workers) now acts come did
state_left kept now workers acts ask left moment word DiskFault moves is did come comes =
    state_is (with_workers kept workers) now acts come did

-- ---- an acknowledgement or a beat

-- it is told so
pub often_told : (ask : Ask) → IsAckOrBeat ask → is_ack_or_beat ask ≡ true
often_told ask (inl (jid, is)) = rw is refl
often_told ask (inr (wid, is)) = rw is refl

-- it says no name
pub no_hello : (ask : Ask) → IsAckOrBeat ask → is_hello ask ≡ false
no_hello ask (inl (jid, is)) = rw is refl
no_hello ask (inr (wid, is)) = rw is refl

-- where nothing is due it drops a row at most
dropped : (found : Option (ℕ × Row)) (kept : KeptState)
    → (closed (map (λ filed. Drop (ticket_of filed)) (option_to_list found)) kept ≡ [])
    ⊎ IsOneDrop (closed (map (λ filed. Drop (ticket_of filed)) (option_to_list found)) kept)
dropped None kept = inl refl
dropped (Some filed) kept = inr (ticket_of filed, kept.next, kept.processed, kept.failures, refl)

pub few_moves : (s : State) (ask : Ask) (moment word : ℕ) → IsAckOrBeat ask → IsUpToDate moment s.kept
    → (moves_of_turn s ask moment word ≡ []) ⊎ IsOneDrop (moves_of_turn s ask moment word)
unfolding moves_of
few_moves s ask moment word (inl (jid, is)) on =
    rw (is, ← due.no_moves moment word s.kept on)
    (dropped (leased (up_to_date s moment word).kept jid) (turn s (Ack jid) moment word).state.kept)
few_moves s ask moment word (inr (wid, is)) on = rw (is, ← due.no_moves moment word s.kept on) (inl refl)

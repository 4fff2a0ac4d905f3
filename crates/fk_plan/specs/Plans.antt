-- The plan of a turn, and what it is made of.
use Rattle.std.specs.Prelude.{◌≡◌, ℕ, Bool, true, false, List, ◌++◌}
use Rattle.fk_frame.specs.declared.reply.Reply.{Reply}
use Rattle.fk_model.specs.declared.ask.Ask.{Ask}
use Rattle.fk_model.specs.declared.ask.Ask.TheVariants.{Hello, Push, PushBatch, Fetch, Ack, Fail, Beat, Signal, Info, Flush, Mutate, Tick}
use Rattle.fk_model.specs.declared.move_.Move.{Move}
use Rattle.fk_model.specs.State.{KeptState, State}
use Rattle.fk_model.specs.Said.{said}
use Rattle.fk_model.specs.Turns.{moves_of, moves_of_turn, turn}
use Rattle.fk_plan.specs.declared.numbers.Numbers.{Numbers}

-- what is said, and the moves, are those of the turn
pub record IsPlan (state : State) (ask : Ask) (moment word : ℕ) (reply : Reply) (moves : List Move)
    : Type 0 where
  pub said : reply ≡ (turn state ask moment word).reply
  pub made : moves ≡ moves_of_turn state ask moment word

-- the numbers are those of a kept state
pub record AreNumbersOf (kept : KeptState) (numbers : Numbers) : Type 0 where
  pub next : numbers.next ≡ kept.next
  pub processed : numbers.processed ≡ kept.processed
  pub failures : numbers.failures ≡ kept.failures

-- what a request does in a state that was brought up to date from another kept state: what is said to it, its
-- moves behind those that were there, and the numbers that it leaves
pub record IsDone (before : KeptState) (up : State) (ask : Ask) (moment word : ℕ) (reply : Reply)
    (front moves : List Move) (numbers : Numbers) : Type 0 where
  pub answer : reply ≡ (said up ask moment word).reply
  pub made : moves ≡ front ++ moves_of before up ask moment word
  pub counted : AreNumbersOf (said up ask moment word).state.kept numbers

-- an acknowledgement or a beat: of these a server has the most
abbrev pub is_ack_or_beat : Ask → Bool
is_ack_or_beat (Ack jid) = true
is_ack_or_beat (Beat wid) = true
is_ack_or_beat (Hello wid) = false
is_ack_or_beat (Push job) = false
is_ack_or_beat (PushBatch jobs told) = false
is_ack_or_beat (Fetch wid queues) = false
is_ack_or_beat (Fail jid errtype message backtrace) = false
is_ack_or_beat (Signal wid given) = false
is_ack_or_beat Info = false
is_ack_or_beat Flush = false
is_ack_or_beat (Mutate cmd target filter) = false
is_ack_or_beat Tick = false

-- what is left of an ask once its plan was made: what it says of jobs has gone into the moves and the reply,
-- and what it says of workers stays
abbrev pub left_of : Ask → Ask
left_of (Hello wid) = Hello wid
left_of (Beat wid) = Beat wid
left_of (Signal wid given) = Signal wid given
left_of (Push job) = Tick
left_of (PushBatch jobs told) = Tick
left_of (Fetch wid queues) = Tick
left_of (Ack jid) = Tick
left_of (Fail jid errtype message backtrace) = Tick
left_of Info = Tick
left_of Flush = Tick
left_of (Mutate cmd target filter) = Tick
left_of Tick = Tick

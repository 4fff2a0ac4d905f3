-- The named events by which a push ends. In one turn what comes by time alone is before what the request does, and
-- the first that applies is the end.
use Rattle.std.specs.Prelude.{◌≡◌, ℕ, zero, suc, ℤ, pos, negsuc, ◌&&◌, Bool, true, false, is_some, List, [], ◌∷◌, Option, None, Some, IsSomeAnd, option_and_then}
use Rattle.std.specs.Option.{option_or}
use Rattle.fk_job.specs.declared.job.Job.{Job}
use Rattle.fk_model.specs.declared.row.Row.{Row}
use Rattle.fk_model.specs.declared.place.Place.{Place}
use Rattle.fk_model.specs.declared.place.Place.TheVariants.{Queued, Scheduled, Retry, Dead, Working}
use Rattle.fk_model.specs.declared.ask.Ask.{Ask}
use Rattle.fk_model.specs.declared.ask.Ask.TheVariants.{Hello, Push, PushBatch, Fetch, Ack, Fail, Beat, Signal, Info, Flush, Mutate, Tick}
use Rattle.fk_model.specs.declared.answer.Answer.{Answer}
use Rattle.fk_model.specs.declared.answer.Answer.TheVariants.{Said, NoMemory, Full, DiskFault}
use Rattle.fk_model.specs.declared.entry.Entry.{Entry}
use Rattle.fk_model.specs.declared.mutation.Cmd.{Cmd}
use Rattle.fk_model.specs.declared.mutation.Cmd.TheVariants as cmd
use Rattle.fk_model.specs.declared.mutation.Filter.{Filter}
use Rattle.fk_model.specs.declared.mutation.Target.{Target}
use Rattle.fk_model.specs.Rows.{row_at}
use Rattle.fk_model.specs.State.{KeptState, State}
use Rattle.fk_model.specs.Orders.{moment_in}
use Rattle.fk_model.specs.Due.{has_come}
use Rattle.fk_model.specs.Filters.{row_matches}
use Rattle.fk_model.specs.Turns.{up_to_date}
use Rattle.fk_model.specs.History.{next_state}
use Rattle.fk_model.specs.ReservationEnds.{ended_if, is_first_under}

-- How a push ends: its job was acknowledged; it failed, or its reservation ran out, and its retry was 0; a MUTATE
-- discarded or cleared it; it was dead, and the time of the dead over; or all was flushed.
pub data PushEnd : Type 0 where
  acknowledged : PushEnd
  failed : PushEnd
  expired : PushEnd
  discarded : PushEnd
  cleared : PushEnd
  purged : PushEnd
  flushed : PushEnd

-- ---- what a row is

-- a job of this retry leaves once it has failed: its retry is 0
abbrev pub leaves_once_failed : ℤ → Bool
leaves_once_failed (pos zero) = true
leaves_once_failed (pos (suc more)) = false
leaves_once_failed (negsuc below) = false

-- the row stands in this set
abbrev pub is_in : Target → Row → Bool
is_in target row = is_some (moment_in target row.place)

-- ---- in a turn

-- how a push ends by time alone, at a moment, by the row's place and its job's retry
abbrev pub push_ended_by_time : ℕ → ℤ → Place → Option PushEnd
push_ended_by_time moment retry (Dead until) = ended_if purged (has_come moment (Some until))
push_ended_by_time moment retry (Working wid since until) =
    ended_if expired (has_come moment (Some until) && leaves_once_failed retry)
push_ended_by_time moment retry (Queued rank) = None
push_ended_by_time moment retry (Scheduled at) = None
push_ended_by_time moment retry (Retry at) = None

-- how a MUTATE ends the push of a row
abbrev pub push_ended_by_mutate : Cmd → Target → Filter → Row → Option PushEnd
push_ended_by_mutate cmd.Kill target filter row = None
push_ended_by_mutate cmd.Discard target filter row =
    ended_if discarded (is_in target row && row_matches filter row)
push_ended_by_mutate cmd.Requeue target filter row = None
push_ended_by_mutate cmd.Clear target filter row = ended_if cleared (is_in target row)

-- how a request ends the push of the row of a ticket, which stands there among these rows
abbrev pub push_ended_of : Ask → List (ℕ × Row) → ℕ → Row → Option PushEnd
push_ended_of (Hello wid) rows ticket row = None
push_ended_of (Push job) rows ticket row = None
push_ended_of (PushBatch jobs told) rows ticket row = None
push_ended_of (Fetch wid queues) rows ticket row = None
push_ended_of (Ack jid) rows ticket row = ended_if acknowledged (is_first_under jid rows ticket row)
push_ended_of (Fail jid errtype message backtrace) rows ticket row =
    ended_if failed (is_first_under jid rows ticket row && leaves_once_failed row.job.retry)
push_ended_of (Beat wid) rows ticket row = None
push_ended_of (Signal wid given) rows ticket row = None
push_ended_of Info rows ticket row = None
push_ended_of Flush rows ticket row = Some flushed
push_ended_of (Mutate cmd target filter) rows ticket row =
    push_ended_by_mutate cmd target filter row
push_ended_of Tick rows ticket row = None

-- how it ends that of the row of a ticket in a kept state that is up to date, if a row stands there
abbrev pub push_ended_by_ask : KeptState → Ask → ℕ → Option PushEnd
push_ended_by_ask kept ask ticket =
    option_and_then (push_ended_of ask kept.rows ticket) (row_at kept.rows ticket)

-- how a turn does
abbrev pub push_ended_in : State → Ask → ℕ → ℕ → ℕ → Option PushEnd
push_ended_in state ask moment word ticket =
    option_or
    (option_and_then (λ row. push_ended_by_time moment row.job.retry row.place)
    (row_at state.kept.rows ticket))
    (push_ended_by_ask (up_to_date state moment word).kept ask ticket)

-- how an entry does: only what was said was done
abbrev pub push_ended_at : State → Entry → ℕ → Answer → Option PushEnd
push_ended_at state entry ticket (Said reply) =
    push_ended_in state entry.ask entry.told.moment entry.told.word ticket
push_ended_at state entry ticket NoMemory = None
push_ended_at state entry ticket Full = None
push_ended_at state entry ticket DiskFault = None

-- how a history does: by the first of its ends
abbrev pub push_ended : State → List Entry → ℕ → Option PushEnd
push_ended state [] ticket = None
push_ended state (entry ∷ entries) ticket =
    option_or (push_ended_at state entry ticket entry.answer)
    (push_ended (next_state state entry) entries ticket)

-- a push stands: up to its end its row is there with its job, and behind it no row of its ticket is
abbrev pub PushStands : Option PushEnd → Job → Option Row → Type 0
PushStands None job found = IsSomeAnd found (λ row. row.job ≡ job)
PushStands (Some end) job found = found ≡ None

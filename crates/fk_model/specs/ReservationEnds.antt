-- The named events by which a reservation ends. In one turn what comes by time alone is before what the request does,
-- and the first that applies is the end.
use Rattle.std.specs.Prelude.{◌≡◌, ℕ, ◌&&◌, nat_lt, not, Bool, if◌then◌else◌, List, [], ◌∷◌, Option, None, Some, IsSomeAnd, bytes_eq, option_and_then}
use Rattle.std.specs.List.{list_any}
use Rattle.std.specs.Option.{option_or}
use Rattle.fk_model.specs.declared.row.Row.{Row}
use Rattle.fk_model.specs.declared.place.Place.{Place}
use Rattle.fk_model.specs.declared.place.Place.TheVariants.{Queued, Scheduled, Retry, Dead, Working}
use Rattle.fk_model.specs.declared.ask.Ask.{Ask}
use Rattle.fk_model.specs.declared.ask.Ask.TheVariants.{Hello, Push, PushBatch, Fetch, Ack, Fail, Beat, Signal, Info, Flush, Mutate, Tick}
use Rattle.fk_model.specs.declared.answer.Answer.{Answer}
use Rattle.fk_model.specs.declared.answer.Answer.TheVariants.{Said, NoMemory, Full, DiskFault}
use Rattle.fk_model.specs.declared.entry.Entry.{Entry}
use Rattle.fk_model.specs.Rows.{ticket_of, row_of, row_at}
use Rattle.fk_model.specs.State.{KeptState, State}
use Rattle.fk_model.specs.Orders.{is_working}
use Rattle.fk_model.specs.Due.{has_come}
use Rattle.fk_model.specs.Turns.{up_to_date}
use Rattle.fk_model.specs.History.{next_state}

-- how a reservation ends: its job was acknowledged, or it failed, or its time ran out, or all was flushed
pub data ReservationEnd : Type 0 where
  acknowledged : ReservationEnd
  failed : ReservationEnd
  expired : ReservationEnd
  flushed : ReservationEnd

-- the end, where this is so
abbrev pub ended_if : {X : Type 0} → X → Bool → Option X
ended_if end so = if so then Some end else None

-- ---- what a row is

-- a worker has the row, and its job has this jid
abbrev pub is_reserved_under : List ℕ → Row → Bool
is_reserved_under jid row = is_working row.place && bytes_eq row.job.jid jid

-- a worker has the row of this ticket under this jid, and no row that a worker has under it is of a lesser ticket
abbrev pub is_first_under : List ℕ → List (ℕ × Row) → ℕ → Row → Bool
is_first_under jid rows ticket row =
    is_reserved_under jid row
    && not (list_any
    (λ other. is_reserved_under jid (row_of other) && nat_lt (ticket_of other) ticket) rows)

-- ---- in a turn

-- how it ends by time alone, at a moment, by the row's place
abbrev pub reservation_ended_by_time : ℕ → Place → Option ReservationEnd
reservation_ended_by_time moment (Working wid since until) =
    ended_if expired (has_come moment (Some until))
reservation_ended_by_time moment (Queued rank) = None
reservation_ended_by_time moment (Scheduled at) = None
reservation_ended_by_time moment (Retry at) = None
reservation_ended_by_time moment (Dead until) = None

-- how a request ends that of the row of a ticket, which stands there among these rows
abbrev pub reservation_ended_of : Ask → List (ℕ × Row) → ℕ → Row → Option ReservationEnd
reservation_ended_of (Hello wid) rows ticket row = None
reservation_ended_of (Push job) rows ticket row = None
reservation_ended_of (PushBatch jobs told) rows ticket row = None
reservation_ended_of (Fetch wid queues) rows ticket row = None
reservation_ended_of (Ack jid) rows ticket row =
    ended_if acknowledged (is_first_under jid rows ticket row)
reservation_ended_of (Fail jid errtype message backtrace) rows ticket row =
    ended_if failed (is_first_under jid rows ticket row)
reservation_ended_of (Beat wid) rows ticket row = None
reservation_ended_of (Signal wid given) rows ticket row = None
reservation_ended_of Info rows ticket row = None
reservation_ended_of Flush rows ticket row = ended_if flushed (is_working row.place)
reservation_ended_of (Mutate cmd target filter) rows ticket row = None
reservation_ended_of Tick rows ticket row = None

-- how it ends that of the row of a ticket in a kept state that is up to date, if a row stands there
abbrev pub reservation_ended_by_ask : KeptState → Ask → ℕ → Option ReservationEnd
reservation_ended_by_ask kept ask ticket =
    option_and_then (reservation_ended_of ask kept.rows ticket) (row_at kept.rows ticket)

-- how a turn does
abbrev pub reservation_ended_in : State → Ask → ℕ → ℕ → ℕ → Option ReservationEnd
reservation_ended_in state ask moment word ticket =
    option_or
    (option_and_then (λ row. reservation_ended_by_time moment row.place)
    (row_at state.kept.rows ticket))
    (reservation_ended_by_ask (up_to_date state moment word).kept ask ticket)

-- how an entry does: only what was said was done
abbrev pub reservation_ended_at : State → Entry → ℕ → Answer → Option ReservationEnd
reservation_ended_at state entry ticket (Said reply) =
    reservation_ended_in state entry.ask entry.told.moment entry.told.word ticket
reservation_ended_at state entry ticket NoMemory = None
reservation_ended_at state entry ticket Full = None
reservation_ended_at state entry ticket DiskFault = None

-- how a history does: by the first of its ends
abbrev pub reservation_ended : State → List Entry → ℕ → Option ReservationEnd
reservation_ended state [] ticket = None
reservation_ended state (entry ∷ entries) ticket =
    option_or (reservation_ended_at state entry ticket entry.answer)
    (reservation_ended (next_state state entry) entries ticket)

-- a reservation of this place stands: up to its end the row has the place
abbrev pub ReservationStands : Option ReservationEnd → Place → Option Row → Type 0
ReservationStands None place found = IsSomeAnd found (λ row. row.place ≡ place)
ReservationStands (Some end) place found = Unit {0}

-- What each request but a FAIL changes in the kept state.
use Rattle.std.specs.Prelude.{ℕ, ◌+◌, ◌*◌, ◌&&◌, nat_lt, not, Bool, true, false, if◌then◌else◌, List, Option, None, Some, unwrap_or, bytes_eq, fold}
use Rattle.std.specs.List.{list_any}
use Rattle.fk_job.specs.declared.job.Job.{Job}
use Rattle.fk_model.specs.declared.row.Row.{Row}
use Rattle.fk_model.specs.declared.place.Place.TheVariants.{Queued, Scheduled, Working}
use Rattle.fk_model.specs.declared.work_state.WorkState.{WorkState}
use Rattle.fk_model.specs.declared.work_state.WorkState.TheVariants.{Running, Quiet, Terminate}
use Rattle.fk_model.specs.Limits.{raised, later_by, second_length}
use Rattle.fk_model.specs.Rows.{ticket_of, with_row, with_changed, without_row}
use Rattle.fk_model.specs.State.{KeptState, Worker, State}
use Rattle.fk_model.specs.Orders.{first_waiting}

-- ---- a job is pushed

-- when a job is due: from the first moment on, where it doesn't say
abbrev pub due_at : Job → ℕ
due_at job = unwrap_or job.at 0

-- the job is due later than this
abbrev pub is_later : ℕ → Job → Bool
is_later moment job = nat_lt moment (due_at job)

-- the row of a job that is pushed: scheduled where it is due later, else in its queue, with the
-- ticket for a rank
abbrev pub pushed_row : ℕ → ℕ → Job → Row
pushed_row moment ticket job =
    if is_later moment job
    then record {
      job = job;
      stamp = record { created = moment; enqueued = None; failure = None };
      place = Scheduled (due_at job);
    }
    else record {
      job = job;
      stamp = record { created = moment; enqueued = Some moment; failure = None };
      place = Queued ticket;
    }

-- the row of a job stands under the next ticket
abbrev pub pushed : ℕ → KeptState → Job → KeptState
pushed moment kept job =
    record kept {
      rows = with_row kept.rows kept.next (pushed_row moment kept.next job);
      next = kept.next + 1;
    }

-- each job is pushed, in order
abbrev pub all_pushed : ℕ → KeptState → List Job → KeptState
all_pushed moment kept jobs = fold (pushed moment) kept jobs

-- ---- a job is fetched

abbrev pub is_running : WorkState → Bool
is_running Running = true
is_running Quiet = false
is_running Terminate = false

-- a worker of this name is listed, and it is to get no new job
abbrev pub is_held_back : List Worker → List ℕ → Bool
is_held_back workers wid =
    list_any (λ worker. bytes_eq worker.wid wid && not (is_running worker.state)) workers

-- the row that a worker is given, if any: none where it is held back
abbrev pub fetched : State → List ℕ → List (List ℕ) → Option (ℕ × Row)
fetched state wid queues =
    if is_held_back state.workers wid then None else first_waiting state.kept queues

-- the row is with a worker, for as many seconds as its job says
abbrev pub reserved_row : ℕ → List ℕ → Row → Row
reserved_row moment wid row =
    record row {
      place = Working wid moment (later_by (second_length * row.job.reserve_for) moment);
    }

-- the row of a ticket is with a worker
abbrev pub reserved : ℕ → List ℕ → KeptState → ℕ → KeptState
reserved moment wid kept ticket =
    record kept { rows = with_changed kept.rows ticket (reserved_row moment wid) }

-- ---- a job was done

-- its row leaves
abbrev pub finished : KeptState → ℕ × Row → KeptState
finished kept filed =
    record kept {
      rows = without_row kept.rows (ticket_of filed);
      processed = raised kept.processed;
    }

-- The rows that are put into their queues as the state is brought up to date, queue by queue.
use Rattle.std.specs.Prelude.{◌≡◌, ℕ, if◌then◌else◌, List, Option, None, Some, bytes_eq, filter_map}
use Rattle.std.specs.List.{enumerate_from}
use Rattle.fk_job.specs.declared.stamp.Stamp.{Stamp}
use Rattle.fk_model.specs.declared.row.Row.{Row}
use Rattle.fk_model.specs.Rows.{ticket_of, row_of}
use Rattle.fk_model.specs.State.{KeptState}
use Rattle.fk_model.specs.Orders.{is_queued}
use Rattle.fk_model.specs.Due.{due}
use Rattle.fk_lists.specs.Room.{Named, list_at}

-- the rank and the ticket of a row that is put into its queue, where that is the queue of this name
abbrev pub arrival : List ℕ → ℕ × (ℕ × Row) → Option (ℕ × ℕ)
arrival name ranked =
    if bytes_eq (row_of ranked.1).job.queue name then Some (ranked.0, ticket_of ranked.1) else None

-- of rows that are put into their queues, with the ranks from a number on, those of the queue of this name
abbrev pub arrivals : List ℕ → ℕ → List (ℕ × Row) → List (ℕ × ℕ)
arrivals name next rows = filter_map (arrival name) (enumerate_from next rows)

-- under each name stand the rows that are due and go into that queue
pub record HasArrived (kept : KeptState) (moment : ℕ) (queues : Named) : Type 0 where
  pub each : (name : List ℕ) → list_at queues name ≡ arrivals name kept.next (due kept moment)

-- the stamp of a row that waits once the state was brought up to a moment: one that didn't wait before was put
-- into its queue at that moment
abbrev pub stamp_in_queue : ℕ → Row → Stamp
stamp_in_queue moment row =
    if is_queued row.place then row.stamp
    else record { created = row.stamp.created; enqueued = Some moment; failure = row.stamp.failure }

-- The room that moves need: for each row that one of them puts somewhere, a place there.
use Rattle.std.specs.Prelude.{ℕ, ◌≤◌, ◌+◌, ◌&&◌, Bool, true, false, if◌then◌else◌, List, [], ◌∷◌, Option, None, Some, option_map, count_by, bytes_eq}
use Rattle.std.specs.Option.{option_map_or}
use Rattle.fk_job.specs.declared.job.Job.{Job}
use Rattle.fk_model.specs.declared.row.Row.{Row}
use Rattle.fk_model.specs.declared.place.Place.{Place}
use Rattle.fk_model.specs.declared.mutation.Target.{Target}
use Rattle.fk_model.specs.declared.move_.Move.{Move}
use Rattle.fk_model.specs.declared.move_.Move.TheVariants.{Add, Put}
use Rattle.fk_model.specs.Rows.{row_at, with_row}
use Rattle.fk_model.specs.Orders.{is_queued, is_working}
use Rattle.fk_lists.specs.Room.{spare_at}
use Rattle.fk_core.specs.Held.{Held}
use Rattle.fk_core.specs.Sets.{count_in, stands_at}

-- the move is a new row
abbrev pub is_add : Move → Bool
is_add (Add ticket row) = true
is_add other = false

-- the job of the row that a move puts somewhere, and where, if it puts one, where these rows are known
abbrev pub job_put : List (ℕ × Row) → Move → Option (Job × Place)
job_put rows (Add ticket row) = Some (row.job, row.place)
job_put rows (Put ticket enqueued failure place) =
    option_map (λ row. (row.job, place)) (row_at rows ticket)
job_put rows other = None

-- the rows that are known behind a move: a new one is, too
abbrev pub known_behind : List (ℕ × Row) → Move → List (ℕ × Row)
known_behind rows (Add ticket row) = with_row rows ticket row
known_behind rows other = rows

-- how many of the moves put a row somewhere where a test says so. The job of a Put is that of the latest
-- new row of its ticket among the moves before it, or else of the rows that were known before them
unfoldable pub count_put : (Job × Place → Bool) → List (ℕ × Row) → List Move → ℕ
count_put test rows [] = 0
count_put test rows (move ∷ moves) =
    (if option_map_or test (job_put rows move) false then 1 else 0)
    + count_put test (known_behind rows move) moves

-- a row of this job waits in the queue of this name, where this is its place
abbrev pub waits_in : List ℕ → Job × Place → Bool
waits_in name put = is_queued put.1 && bytes_eq put.0.queue name

-- a worker has a row of this job, where this is its place, and its jid is this
abbrev pub is_leased_under : List ℕ → Job × Place → Bool
is_leased_under jid put = is_working put.1 && bytes_eq put.0.jid jid

-- a row stands in this set by moment, where this is its place
abbrev pub stands_in : Target → Job × Place → Bool
stands_in target put = stands_at target put.1

-- the tables have room for each row that the moves put somewhere
pub record Reserved (held : Held) (moves : List Move) : Type 0 where
  pub rows : count_by is_add moves ≤ held.room.rows
  pub queues : (name : List ℕ) →
      count_put (waits_in name) held.kept.rows moves ≤ spare_at held.room.queues name
  pub leases : (jid : List ℕ) →
      count_put (is_leased_under jid) held.kept.rows moves ≤ spare_at held.room.leases jid
  pub sets : (target : Target) →
      count_put (stands_in target) held.kept.rows moves ≤ count_in target held.room.sets

-- The rows that moves put somewhere, move by move.
use Rattle.std.specs.Prelude.{ℕ, ◌≡◌, ◌==◌, Bool, false, if◌then◌else◌, List, Option, None, Some, option_and_then, fold, slice_get, take}
use Rattle.std.specs.Option.{option_or, option_map_or}
use Rattle.fk_job.specs.declared.job.Job.{Job}
use Rattle.fk_model.specs.declared.row.Row.{Row}
use Rattle.fk_model.specs.declared.place.Place.{Place}
use Rattle.fk_model.specs.declared.move_.Move.{Move}
use Rattle.fk_model.specs.declared.move_.Move.TheVariants.{Add}
use Rattle.fk_model.specs.Rows.{row_at}
use Rattle.fk_core.specs.Reserved.{job_put, known_behind}

-- the rows that are known behind moves
abbrev pub known_after : List (ℕ × Row) → List Move → List (ℕ × Row)
known_after rows moves = fold known_behind rows moves

-- the job of the row that the move at a place puts somewhere, and where, if it puts one
abbrev pub put_at : List (ℕ × Row) → List Move → ℕ → Option (Job × Place)
put_at rows moves at =
    option_and_then (job_put (known_after rows (take at moves))) (slice_get moves at)

-- what one such row, if there is one, adds to a count
abbrev pub count_one : (Job × Place → Bool) → Option (Job × Place) → ℕ
count_one test put = if option_map_or test put false then 1 else 0

-- the row that a move adds under a ticket
abbrev pub row_added : ℕ → Move → Option Row
row_added ticket (Add other row) = if other == ticket then Some row else None
row_added ticket other = None

-- of the rows that moves add under a ticket this one is the latest, or there is none
pub record IsLatest (moves : List Move) (ticket : ℕ) (latest : Option Row) : Type 0 where
  pub known : (rows : List (ℕ × Row)) →
      row_at (known_after rows moves) ticket ≡ option_or latest (row_at rows ticket)

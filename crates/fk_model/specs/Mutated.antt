-- What a MUTATE and a FLUSH change in the kept state, and the moves that tell it.
use Rattle.std.specs.Prelude.{ℕ, ◌==◌, ◌&&◌, not, Bool, true, false, if◌then◌else◌, List, [], ◌∷◌, Some, map, filter, fold}
use Rattle.fk_model.specs.declared.row.Row.{Row}
use Rattle.fk_model.specs.declared.place.Place.TheVariants.{Dead}
use Rattle.fk_model.specs.declared.mutation.Cmd.{Cmd}
use Rattle.fk_model.specs.declared.mutation.Cmd.TheVariants.{Kill, Discard, Requeue, Clear}
use Rattle.fk_model.specs.declared.mutation.Filter.{Filter}
use Rattle.fk_model.specs.declared.mutation.Target.{Target}
use Rattle.fk_model.specs.declared.mutation.Target.TheVariants as target
use Rattle.fk_model.specs.declared.move_.Move.{Move}
use Rattle.fk_model.specs.declared.move_.Move.TheVariants.{DropAll}
use Rattle.fk_model.specs.Rows.{ticket_of, row_of, with_row}
use Rattle.fk_model.specs.State.{KeptState}
use Rattle.fk_model.specs.Orders.{timed}
use Rattle.fk_model.specs.Fate.{end_of_dead}
use Rattle.fk_model.specs.Due.{rows_of}
use Rattle.fk_model.specs.Bringing.{enqueued, forgotten, move_for, moves_of_enqueued, moves_of_forgotten}
use Rattle.fk_model.specs.Filters.{row_matches}

-- ---- which rows a MUTATE takes

-- the rows of a set, by moment and ticket
abbrev pub rows_in : Target → KeptState → List (ℕ × Row)
rows_in target kept = rows_of kept.rows (timed target kept.rows)

-- those of them that match
abbrev pub matching : Target → Filter → KeptState → List (ℕ × Row)
matching target filter_ kept = filter (λ filed. row_matches filter_ (row_of filed)) (rows_in target kept)

-- the rows that a MUTATE takes, in this order: those of its set that match; none where the dead are to be
-- killed; and all of its set where it is to be cleared, whatever the filter says
abbrev pub taken : Cmd → Target → Filter → KeptState → List (ℕ × Row)
taken Kill target.Scheduled filter kept = matching target.Scheduled filter kept
taken Kill target.Retries filter kept = matching target.Retries filter kept
taken Kill target.Dead filter kept = []
taken Discard target filter kept = matching target filter kept
taken Requeue target filter kept = matching target filter kept
taken Clear target filter kept = rows_in target kept

-- ---- what becomes of them

-- a row is dead from a moment on; its failure stays as it is
abbrev pub killed_row : ℕ → Row → Row
killed_row moment row = record row { place = Dead (end_of_dead moment) }

-- the kept state with a row that is dead from a moment on
abbrev pub killed : ℕ → KeptState → ℕ × Row → KeptState
killed moment kept filed =
    record kept { rows = with_row kept.rows (ticket_of filed) (killed_row moment (row_of filed)) }

-- what a MUTATE makes of these rows
abbrev pub mutated : Cmd → ℕ → KeptState → List (ℕ × Row) → KeptState
mutated Kill moment kept rows = fold (killed moment) kept rows
mutated Discard moment kept rows = fold forgotten kept rows
mutated Requeue moment kept rows = fold (enqueued moment) kept rows
mutated Clear moment kept rows = fold forgotten kept rows

-- the moves by which these rows are dead
abbrev pub moves_of_killed : ℕ → List (ℕ × Row) → List Move
moves_of_killed moment rows =
    map (λ filed. move_for (ticket_of filed) (Some (killed_row moment (row_of filed)))) rows

-- the moves of a MUTATE of these rows, with the ranks from a number on
abbrev pub moves_of_mutated : Cmd → ℕ → ℕ → List (ℕ × Row) → List Move
moves_of_mutated Kill moment next rows = moves_of_killed moment rows
moves_of_mutated Discard moment next rows = moves_of_forgotten rows
moves_of_mutated Requeue moment next rows = moves_of_enqueued moment next rows
moves_of_mutated Clear moment next rows = moves_of_forgotten rows

-- ---- a FLUSH

-- no row is left, and both counts begin anew; the next number stays
abbrev pub flushed : KeptState → KeptState
flushed kept = record { rows = []; next = kept.next; processed = 0; failures = 0 }

-- no row
abbrev pub are_none : List (ℕ × Row) → Bool
are_none [] = true
are_none (filed ∷ rows) = false

-- there is something to flush: a row, or a count that isn't 0
abbrev pub has_something : KeptState → Bool
has_something kept = not (are_none kept.rows && ((kept.processed == 0) && (kept.failures == 0)))

-- the moves of a FLUSH: all rows leave, exactly where the state before its turn had something to flush, also
-- where bringing it up to date has emptied it
abbrev pub moves_of_flush : KeptState → List Move
moves_of_flush before = if has_something before then DropAll ∷ [] else []

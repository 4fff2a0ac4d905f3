-- The kept state is brought up to a moment: the dead whose time is over leave, the rows whose reservation has
-- run out meet their fate, and then those that are due are put into their queues.
use Rattle.std.specs.Prelude.{ℕ, ◌+◌, List, ◌++◌, Option, None, Some, map, fold}
use Rattle.std.specs.List.{enumerate_from}
use Rattle.fk_model.specs.declared.row.Row.{Row}
use Rattle.fk_model.specs.declared.place.Place.TheVariants.{Queued}
use Rattle.fk_model.specs.declared.move_.Move.{Move}
use Rattle.fk_model.specs.declared.move_.Move.TheVariants.{Put, Drop}
use Rattle.fk_model.specs.Rows.{ticket_of, row_of, with_row, without_row}
use Rattle.fk_model.specs.State.{KeptState}
use Rattle.fk_model.specs.Due.{over, expired, due}
use Rattle.fk_model.specs.Failing.{Reason, expiry, failed_row, failed}

-- ---- what is kept

-- a row leaves, and nothing is counted
abbrev pub forgotten : KeptState → ℕ × Row → KeptState
forgotten kept filed = record kept { rows = without_row kept.rows (ticket_of filed) }

-- a row that waits in its queue with a rank, from a moment on
abbrev pub waiting_row : ℕ → ℕ → Row → Row
waiting_row moment rank row =
    record row {
      stamp = record { created = row.stamp.created; enqueued = Some moment; failure = row.stamp.failure };
      place = Queued rank;
    }

-- a row is put into its queue, behind all others: its rank is the next number
abbrev pub enqueued : ℕ → KeptState → ℕ × Row → KeptState
enqueued moment kept filed =
    record kept {
      rows = with_row kept.rows (ticket_of filed) (waiting_row moment kept.next (row_of filed));
      next = kept.next + 1;
    }

-- The kept state brought up to a moment. The three lists are those of the state before the first step, so no
-- row is in two of them: one that has just failed and is to be tried again waits for a later turn.
abbrev pub brought_up : KeptState → ℕ → ℕ → KeptState
brought_up kept moment word =
    fold (enqueued moment)
    (fold (failed expiry moment word) (fold forgotten kept (over kept moment)) (expired kept moment))
    (due kept moment)

-- ---- the moves that tell it

-- the move by which a row becomes this one, or leaves
abbrev pub move_for : ℕ → Option Row → Move
move_for ticket None = Drop ticket
move_for ticket (Some row) = Put ticket row.stamp.enqueued row.stamp.failure row.place

-- rows leave
abbrev pub moves_of_forgotten : List (ℕ × Row) → List Move
moves_of_forgotten rows = map (λ filed. move_for (ticket_of filed) None) rows

-- rows meet their fate
abbrev pub moves_of_failed : Reason → ℕ → ℕ → List (ℕ × Row) → List Move
moves_of_failed reason moment word rows =
    map (λ filed. move_for (ticket_of filed) (failed_row reason moment word filed)) rows

-- rows are put into their queues, with the ranks from a number on
abbrev pub moves_of_enqueued : ℕ → ℕ → List (ℕ × Row) → List Move
moves_of_enqueued moment next rows =
    map (λ ranked. move_for (ticket_of ranked.1) (Some (waiting_row moment ranked.0 (row_of ranked.1))))
    (enumerate_from next rows)

-- the moves by which the kept state is brought up to a moment, but for its numbers
abbrev pub moves_up : KeptState → ℕ → ℕ → List Move
moves_up kept moment word =
    moves_of_forgotten (over kept moment)
    ++ moves_of_failed expiry moment word (expired kept moment)
    ++ moves_of_enqueued moment kept.next (due kept moment)

-- What a MUTATE does to a set, row by row.
use Rattle.std.specs.Prelude.{ℕ, ◌+◌, Bool, true, false, List, Option, None, Some, filter}
use Rattle.fk_model.specs.declared.row.Row.{Row}
use Rattle.fk_model.specs.declared.mutation.Cmd.{Cmd}
use Rattle.fk_model.specs.declared.mutation.Cmd.TheVariants.{Kill, Discard, Requeue, Clear}
use Rattle.fk_model.specs.declared.mutation.Filter.{Filter}
use Rattle.fk_model.specs.declared.mutation.Target.{Target}
use Rattle.fk_model.specs.declared.mutation.Target.TheVariants as target
use Rattle.fk_model.specs.declared.move_.Move.{Move}
use Rattle.fk_model.specs.Rows.{ticket_of, row_of}
use Rattle.fk_model.specs.Bringing.{move_for, waiting_row}
use Rattle.fk_model.specs.Filters.{row_matches}
use Rattle.fk_model.specs.Mutated.{killed_row}

-- whether it does nothing: what is dead is killed no more
abbrev pub is_idle : Cmd → Target → Bool
is_idle Kill target.Scheduled = false
is_idle Kill target.Retries = false
is_idle Kill target.Dead = true
is_idle Discard target = false
is_idle Requeue target = false
is_idle Clear target = false

-- whether it takes a row of its set
abbrev pub takes : Cmd → Filter → Row → Bool
takes Kill filter row = row_matches filter row
takes Discard filter row = row_matches filter row
takes Requeue filter row = row_matches filter row
takes Clear filter row = true

-- those of the rows that it takes
abbrev pub taken_of : Cmd → Filter → List (ℕ × Row) → List (ℕ × Row)
taken_of cmd filter_ rows = filter (λ filed. takes cmd filter_ (row_of filed)) rows

-- what becomes of a row that it takes, where the next rank is this
abbrev pub becomes : Cmd → ℕ → ℕ → Row → Option Row
becomes Kill moment rank row = Some (killed_row moment row)
becomes Discard moment rank row = None
becomes Requeue moment rank row = Some (waiting_row moment rank row)
becomes Clear moment rank row = None

-- its move
abbrev pub move_taken : Cmd → ℕ → ℕ → ℕ × Row → Move
move_taken cmd moment rank filed = move_for (ticket_of filed) (becomes cmd moment rank (row_of filed))

-- the next number behind so many rows that it takes
abbrev pub next_behind : Cmd → ℕ → ℕ → ℕ
next_behind Kill next count = next
next_behind Discard next count = next
next_behind Requeue next count = next + count
next_behind Clear next count = next

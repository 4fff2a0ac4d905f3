-- What holds of the state between turns.
use Rattle.std.specs.Prelude.{ℕ, ◌<◌, List, map, All, IfSome, bytes_eq}
use Rattle.std.specs.List.{IsDistinct}
use Rattle.std.specs.List.Sorted.{IsStrictlyIncreasing}
use Rattle.fk_model.specs.declared.row.Row.{Row}
use Rattle.fk_model.specs.declared.move_.Move.TheVariants.{Add}
use Rattle.fk_model.specs.Rows.{ticket_of, row_of, IsByTicket}
use Rattle.fk_model.specs.Orders.{number_in, rank_of, queue}
use Rattle.fk_model.specs.Spellings.{IsWord, HasSpelling}
use Rattle.fk_model.specs.State.{KeptState, State}

-- a number is above every ticket and every rank
pub record IsAboveAll (next : ℕ) (rows : List (ℕ × Row)) : Type 0 where
  pub tickets : All (λ filed. ticket_of filed < next) rows
  pub ranks : All (λ filed. IfSome (rank_of (row_of filed).place) (λ rank. rank < next)) rows

-- What holds of the kept state: the rows are in order of ticket, the next number is above all
-- tickets and ranks, the ranks of a queue are distinct, and each row and count can be written.
pub record IsWellKept (kept : KeptState) : Type 0 where
  pub by_ticket : IsByTicket kept.rows
  pub above : IsAboveAll kept.next kept.rows
  pub distinct : (name : List ℕ) → IsStrictlyIncreasing (map number_in (queue kept.rows name))
  pub spelled : All (λ filed. HasSpelling (Add (ticket_of filed) (row_of filed))) kept.rows
  pub processed : IsWord kept.processed
  pub failures : IsWord kept.failures

-- what holds of the state between turns: it is well kept, and no two workers have one name
pub record IsBetweenTurns (state : State) : Type 0 where
  pub kept : IsWellKept state.kept
  pub names : IsDistinct bytes_eq (map (λ worker. worker.wid) state.workers)

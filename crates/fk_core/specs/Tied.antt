-- What holds of all tables: the rows are in order of ticket and can be written, and what they are found
-- by says what the rows say.
use Rattle.std.specs.Prelude.{ℕ, ◌≡◌, ◌<◌, ◌≤◌, List, length, All, IfSome, map}
use Rattle.std.specs.List.Sorted.{IsStrictlyIncreasing}
use Rattle.fk_model.specs.declared.row.Row.{Row}
use Rattle.fk_model.specs.declared.move_.Move.TheVariants.{Add}
use Rattle.fk_model.specs.declared.mutation.Target.{Target}
use Rattle.fk_model.specs.Limits.{greatest_next}
use Rattle.fk_model.specs.Rows.{ticket_of, row_of, IsByTicket}
use Rattle.fk_model.specs.Orders.{number_in, rank_of, queue, leases, timed, working}
use Rattle.fk_model.specs.Spellings.{HasSpelling}
use Rattle.fk_lists.specs.Room.{list_at}
use Rattle.fk_core.specs.Sets.{pairs_in}
use Rattle.fk_core.specs.Index.{Index}

-- no ticket and no rank is above a number
pub record IsNotBelow (greatest : ℕ) (rows : List (ℕ × Row)) : Type 0 where
  pub tickets : All (λ filed. ticket_of filed ≤ greatest) rows
  pub ranks : All (λ filed. IfSome (rank_of (row_of filed).place) (λ rank. rank ≤ greatest)) rows

-- the ticket of a row, and its rank if it has one, are below a number
pub record IsBelow (next : ℕ) (filed : ℕ × Row) : Type 0 where
  pub ticket : ticket_of filed < next
  pub rank : IfSome (rank_of (row_of filed).place) (λ rank. rank < next)

pub record AreTied (rows : List (ℕ × Row)) (index : Index) (next : ℕ) : Type 0 where
  pub by_ticket : IsByTicket rows
  pub spelled : All (λ filed. HasSpelling (Add (ticket_of filed) (row_of filed))) rows
  pub queues : (name : List ℕ) → list_at index.queues.items name ≡ queue rows name
  pub distinct : (name : List ℕ) → IsStrictlyIncreasing (map number_in (queue rows name))
  pub leases : (jid : List ℕ) → list_at index.leases.items jid ≡ leases rows jid
  pub sets : (target : Target) → pairs_in target index.sets.items ≡ timed target rows
  pub working : index.working ≡ length (working rows)
  pub greatest : IsNotBelow index.greatest rows
  pub within : next ≤ greatest_next

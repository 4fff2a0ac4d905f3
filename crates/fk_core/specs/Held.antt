-- Tables, as their contracts see them: the kept state, and the room beside it.
use Rattle.std.specs.Prelude.{ℕ, ◌≤◌, List}
use Rattle.fk_model.specs.declared.mutation.Target.{Target}
use Rattle.fk_model.specs.State.{KeptState}
use Rattle.fk_lists.specs.Room.{Spares, spare_at}
use Rattle.fk_core.specs.Sets.{SetCounts, count_in}

-- How much may be put without taking memory: rows, rows into each queue, leases of each jid,
-- and rows into each set by moment.
pub record Room : Type 0 where
  pub rows : ℕ
  pub queues : Spares
  pub leases : Spares
  pub sets : SetCounts

pub record Held : Type 0 where
  pub kept : KeptState
  pub room : Room

-- one room is at least another
pub record IsNoLess (before after : Room) : Type 0 where
  pub rows : before.rows ≤ after.rows
  pub queues : (name : List ℕ) → spare_at before.queues name ≤ spare_at after.queues name
  pub leases : (jid : List ℕ) → spare_at before.leases jid ≤ spare_at after.leases jid
  pub sets : (target : Target) → count_in target before.sets ≤ count_in target after.sets

-- The two files of a server, as the callers of a shelf see them.
use Rattle.std.specs.Prelude.{ℕ, Option}
use Rattle.fk_journal.specs.JournalState.{JournalState}

-- the live file as a journal, the disk of the other one, the live file's generation, the length of its snapshot, as
-- long as that is still to be replayed, and the place of what was replayed last
pub record ShelfState (D : Type 0) : Type 0 where
  pub live : JournalState D
  pub other : D
  pub generation : ℕ
  pub snapshot : Option ℕ
  pub at : ℕ

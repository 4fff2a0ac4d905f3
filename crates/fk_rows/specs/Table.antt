-- What holds of every table of rows.
use Rattle.std.specs.Prelude.{ℕ, ◌≡◌, ◌<◌, ◌≤◌, ◌+◌, ◌^◌, length}
use Rattle.fk_rows.specs.Chunks.{rows_of, Chunked}
use Rattle.fk_rows.specs.Order.{AreRising}

-- the rows are in order of ticket, and each row that memory is there for has room among the chunks
pub record IsTable (held : Chunked) (count spare : ℕ) : Type 0 where
  pub rising : AreRising (rows_of held.chunks)
  pub counted : count ≡ length (rows_of held.chunks)
  pub room : spare ≤ held.room
  pub small : count + spare < 2 ^ 63

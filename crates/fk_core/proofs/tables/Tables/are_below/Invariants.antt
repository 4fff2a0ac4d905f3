use Rattle.std.proofs.Common.{take}
use Rattle.std.specs.Prelude.{All}
use Rattle.fk_core.specs.Tied.{IsBelow}
use Rattle.fk_core.proofs.tables.Tables.are_below.Given as goal

-- the tickets and ranks so far are below the number
abbrev pub invariant-looking : goal.invariant-looking
invariant-looking l = All (IsBelow l.next) (take l.place l.self-inside.rows.items)

use Rattle.std.proofs.Common.{arith}
use Rattle.fk_core.proofs.WellKept.{well_kept}
use Rattle.fk_core.proofs.tables.Tables.next.Goals as goal

pub returns-clause-well_kept : goal.returns-clause-well_kept
returns-clause-well_kept c =
    rw (← c.self.view_is) (well_kept _ c.self.inside.index c.self.invariant (omega arith) (omega arith))

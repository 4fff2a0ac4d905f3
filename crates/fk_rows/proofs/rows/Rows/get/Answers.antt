use Rattle.std.proofs.Common.{sym}
use Rattle.fk_rows.proofs.Tabled.{found_row, gap_row}
use Rattle.fk_rows.proofs.rows.Rows.get.Goals as goal

pub returns-in-Ok : goal.returns-in-Ok
returns-in-Ok c = rw (c.row_in.ensures, c.filed_at.ensures, ← c.self.view_is) (found_row c.self.inside.held.chunks c.args.ticket c.in-Ok.spot c.self.invariant.rising c.in-Ok.ensures.found)

pub returns-in-Err : goal.returns-in-Err
returns-in-Err c = rw (← c.self.view_is) (sym (gap_row c.self.inside.held.chunks c.args.ticket _ c.self.invariant.rising c.in-Err.ensures.absent))

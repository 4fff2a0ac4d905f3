use Rattle.fk_rows.proofs.Rising.{by_ticket}
use Rattle.fk_rows.proofs.rows.Rows.count.Goals as goal

pub returns-clause-order : goal.returns-clause-order
returns-clause-order c = rw (← c.self.view_is) (by_ticket _ c.self.invariant.rising)

use Rattle.fk_core.proofs.MovesAllowed.{renumbered}
use Rattle.fk_core.proofs.MovesMade.{made_totals}
use Rattle.fk_core.proofs.tables.Tables.tell.Goals as goal

pub invariant_of-self : goal.invariant_of-self
invariant_of-self c =
    let fits = rw (← c.self.view_is) at c.requires in
    renumbered _ _ _ _ _ c.self.invariant fits.allowed.within fits.allowed.above c.renumber.ensures

pub returns : goal.returns
returns c =
    rw (← c.self.view_is)
    (made_totals c.self.inside c.renumber.new.self _ _ _ _ c.self.invariant.by_ticket c.renumber.ensures)

use Rattle.std.proofs.Common.{arith}
use Rattle.fk_core.proofs.RowEnters.{may_enter, row_entered}
use Rattle.fk_core.proofs.MovesAllowed.{add_comes, working_within}
use Rattle.fk_core.proofs.MovesMade.{made_add}
use Rattle.fk_core.proofs.tables.Tables.add.Goals as goal

pub enter-requires-clause-may : goal.enter-requires-clause-may
enter-requires-clause-may c =
    may_enter _ _ _ _ _ c.self.invariant
    (add_comes c.self.inside _ _ _ c.self.view_is c.requires.fits c.requires.room)

pub enter-requires-clause-fits : goal.enter-requires-clause-fits
enter-requires-clause-fits c =
    omega (arith, working_within _ _ _ c.self.invariant, c.count.ensures.count, c.count.ensures.small)

pub invariant_of-self : goal.invariant_of-self
invariant_of-self c =
    rw c.put.ensures.items
    (row_entered _ _ _ _ _ _ c.self.invariant
    (add_comes c.self.inside _ _ _ c.self.view_is c.requires.fits c.requires.room) c.requires.fits.spelled
    c.enter.ensures)

pub returns : goal.returns
returns c =
    rw (← c.self.view_is)
    (made_add c.self.inside _ _ c.self.invariant.by_ticket _ _ c.put.ensures.items c.put.ensures.spare
    c.enter.ensures)

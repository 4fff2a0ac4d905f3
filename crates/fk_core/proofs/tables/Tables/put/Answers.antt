use Rattle.std.proofs.Common.{arith}
use Rattle.fk_core.proofs.RowPut.{put_of, put_may_leave, put_counted, put_found, put_may_enter, put_within, put_tied}
use Rattle.fk_core.proofs.MovesMade.{made_put}
use Rattle.fk_core.proofs.tables.Tables.put.Goals as goal

pub leave_at-requires-clause-may : goal.leave_at-requires-clause-may
leave_at-requires-clause-may c =
    let put = put_of c.self.inside _ _ _ _ _ c.self.invariant c.self.view_is c.requires.fits c.requires.room in
    put_may_leave _ _ _ _ _ _ put.1

pub leave_at-requires-clause-some : goal.leave_at-requires-clause-some
leave_at-requires-clause-some c =
    let put = put_of c.self.inside _ _ _ _ _ c.self.invariant c.self.view_is c.requires.fits c.requires.room in
    put_counted _ _ _ _ _ _ put.1

pub enter_at-requires-clause-may : goal.enter_at-requires-clause-may
enter_at-requires-clause-may c =
    let put = put_of c.self.inside _ _ _ _ _ c.self.invariant c.self.view_is c.requires.fits c.requires.room in
    put_may_enter _ _ _ _ _ _ put.1 _ _ c.change.ensures.items (c.leave_at.ensures _ put.1.at)

pub enter_at-requires-clause-fits : goal.enter_at-requires-clause-fits
enter_at-requires-clause-fits c =
    let put = put_of c.self.inside _ _ _ _ _ c.self.invariant c.self.view_is c.requires.fits c.requires.room in
    omega (
      arith,
      put_within _ _ _ _ _ _ put.1 _ (c.leave_at.ensures _ put.1.at),
      c.count.ensures.count,
      c.count.ensures.small,
    )

pub invariant_of-self : goal.invariant_of-self
invariant_of-self c =
    let put = put_of c.self.inside _ _ _ _ _ c.self.invariant c.self.view_is c.requires.fits c.requires.room in
    put_tied _ _ _ _ _ _ put.1 _ _ _ c.change.ensures.items (c.leave_at.ensures _ put.1.at)
    (c.enter_at.ensures _ (put_found _ _ _ _ _ _ put.1 _ c.change.ensures.items))

pub returns : goal.returns
returns c =
    let put = put_of c.self.inside _ _ _ _ _ c.self.invariant c.self.view_is c.requires.fits c.requires.room in
    rw (← c.self.view_is)
    (made_put c.self.inside _ _ c.self.invariant.by_ticket _ _ _ _ _ _ put.1.at c.change.ensures.items
    c.change.ensures.kept (c.leave_at.ensures _ put.1.at)
    (c.enter_at.ensures _ (put_found _ _ _ _ _ _ put.1 _ c.change.ensures.items)))

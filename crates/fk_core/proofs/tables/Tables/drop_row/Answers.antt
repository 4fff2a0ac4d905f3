use Rattle.std.proofs.Common.{sym, ◌∙◌, arith}
use Rattle.std.proofs.lemmas.Option.{same_Some}
use Rattle.fk_core.proofs.RowLeaves.{working_less, row_left}
use Rattle.fk_core.proofs.MovesAllowed.{drop_of, unqueued_leaves}
use Rattle.fk_core.proofs.MovesMade.{made_drop}
use Rattle.fk_core.proofs.tables.Tables.drop_row.Goals as goal

pub leave_taken-requires-clause-may : goal.leave_taken-requires-clause-may
leave_taken-requires-clause-may c = λ row at.
    let gone = drop_of c.self.inside _ _ c.self.view_is c.requires in
    rw (same_Some _ _ (sym at ∙ c.take-taken.ensures.value ∙ gone.1)) (unqueued_leaves c.self.inside.index _ gone.0 gone.2)

pub leave_taken-requires-clause-some : goal.leave_taken-requires-clause-some
leave_taken-requires-clause-some c = λ row at.
    omega (arith, working_less _ _ _ _ row c.self.invariant (sym c.take-taken.ensures.value ∙ at))

pub invariant_of-self : goal.invariant_of-self
invariant_of-self c =
    let gone = drop_of c.self.inside _ _ c.self.view_is c.requires in
    rw c.take-taken.ensures.items
    (row_left _ _ _ _ _ gone.0 c.self.invariant gone.1 (unqueued_leaves c.self.inside.index _ gone.0 gone.2)
    (c.leave_taken.ensures gone.0 (c.take-taken.ensures.value ∙ gone.1)))

pub returns : goal.returns
returns c =
    let gone = drop_of c.self.inside _ _ c.self.view_is c.requires in
    rw (← c.self.view_is)
    (made_drop c.self.inside _ _ c.self.invariant.by_ticket _ gone.0 c.take-taken.ensures.items
    c.take-taken.ensures.kept (c.leave_taken.ensures gone.0 (c.take-taken.ensures.value ∙ gone.1)))

use Rattle.std.proofs.Common.{◌∙◌, sym}
use Rattle.fk_workers.proofs.Telling.{told_none, told_some}
use Rattle.fk_workers.proofs.HeldBack.{held_told}
use Rattle.fk_workers.proofs.workers.Workers.state.Goals as goal

pub returns-in-Some-clause-state : goal.returns-in-Some-clause-state
returns-in-Some-clause-state c =
    rw (← c.self.view_is, ← c.bytes.ensures)
    (c.state_at.ensures ∙ sym (told_some _ _ _ _ c.self.invariant.apart (sym c.in-Some.ensures.value)))

pub returns-in-Some-clause-held : goal.returns-in-Some-clause-held
returns-in-Some-clause-held c =
    rw (← c.self.view_is, ← c.bytes.ensures)
    (held_told _ _ _ _ c.self.invariant.apart
    (c.state_at.ensures ∙ sym (told_some _ _ _ _ c.self.invariant.apart (sym c.in-Some.ensures.value))))

pub returns-in-None-clause-held : goal.returns-in-None-clause-held
returns-in-None-clause-held c =
    rw (← c.self.view_is, ← c.bytes.ensures)
    (held_told _ _ _ _ c.self.invariant.apart
    (sym (told_none _ _ _ c.self.invariant.apart (sym c.in-None.ensures.value))))

use Rattle.fk_journal.proofs.Due.{closed_here}
use Rattle.fk_journal.proofs.journal.Journal.replay_next.Goals as goal

-- the gate that was read isn't open
pub returns-in-Closed-clause-end : goal.returns-in-Closed-clause-end
returns-in-Closed-clause-end g c = rw (← c.self.view_is) (λ tells is begun.
    let gate = rw c.in-Closed.is at (c.in_ok-gate_at.ensures.ok tells) in
    closed_here c.self.inside.place _ gate.0 gate.1)

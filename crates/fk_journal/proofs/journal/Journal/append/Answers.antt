use Rattle.fk_journal.proofs.Appending.{appending, at_rest}
use Rattle.fk_journal.proofs.journal.Journal.append.Goals as goal

pub returns-in_err-open_gate-clause-since : goal.returns-in_err-open_gate-clause-since
returns-in_err-open_gate-clause-since g c =
    appending _ _ _ _ _ _ _ _ _ _ _ _ c.prepare.ensures.told c.open_gate.ensures.told
    (g.met.D.Disk.has_told c.open_gate.new.self.disk)
    c.prepare.ensures.front c.prepare.ensures.since c.open_gate.ensures.since

pub returns-clause-since : goal.returns-clause-since
returns-clause-since g c =
    appending _ _ _ _ _ _ _ _ _ _ _ _ c.prepare.ensures.told c.open_gate.ensures.told
    (g.met.D.Disk.has_told c.open_gate.new.self.disk)
    c.prepare.ensures.front c.prepare.ensures.since c.open_gate.ensures.since

pub returns-clause-stands : goal.returns-clause-stands
returns-clause-stands g c =
    at_rest _ _ _ _ _ _ _ _ _ c.prepare.ensures.number c.open_gate.ensures.told
    (g.met.D.Disk.has_told c.open_gate.new.self.disk _) c.requires.framed c.in_ok-open_gate.ensures.paid
    c.in_ok-open_gate.ensures.gained c.in_ok-open_gate.ensures.ok

use Rattle.std.proofs.Common.{Ok, Some, ap}
use Rattle.fk_journal.proofs.Files.{prepared_is}
use Rattle.fk_journal.proofs.Writes.{gate_passes, gate_sure, doubt_read, gains, on_err}
use Rattle.fk_journal.proofs.journal.Journal.open_gate.Goals as goal

pub returns-in_err-write_surely-clause-since : goal.returns-in_err-write_surely-clause-since
returns-in_err-write_surely-clause-since g c =
    rw (← c.self.view_is) (gate_passes c.self.inside.place _ _ _ _ _ _ _
    (record { tells = g.met.D.Disk.has_told c.self.inside.disk _; read = g.met.D.Disk.has_content c.self.inside.disk })
    (λ image is. prepared_is _ _ image ((rw (← c.self.view_is) at c.requires.prepared) image is)) c.write_surely.ensures.since)

pub returns-in_err-write_surely-clause-front : goal.returns-in_err-write_surely-clause-front
returns-in_err-write_surely-clause-front g c =
    rw (← c.self.view_is) (λ tells. on_err c.from_residual.result _ (doubt_read c.self.inside.place _ _ _ _ _ _ _ _ _
    c.write_surely.ensures.told
    (record { tells = g.met.D.Disk.has_told c.self.inside.disk _; read = g.met.D.Disk.has_content c.self.inside.disk })
    (record { tells = g.met.D.Disk.has_told c.write_surely.new.disk _; read = g.met.D.Disk.has_content c.write_surely.new.disk })
    (λ image is. prepared_is _ _ image ((rw (← c.self.view_is) at c.requires.prepared) image is)) (rw (← c.self.view_is) at (returns-in_err-write_surely-clause-since g c)) tells).0)

pub returns-in_err-write_surely-clause-doubt : goal.returns-in_err-write_surely-clause-doubt
returns-in_err-write_surely-clause-doubt g c =
    rw (← c.self.view_is) (λ tells. on_err c.from_residual.result _ (ap Some (doubt_read c.self.inside.place _ _ _ _ _ _ _ _ _
    c.write_surely.ensures.told
    (record { tells = g.met.D.Disk.has_told c.self.inside.disk _; read = g.met.D.Disk.has_content c.self.inside.disk })
    (record { tells = g.met.D.Disk.has_told c.write_surely.new.disk _; read = g.met.D.Disk.has_content c.write_surely.new.disk })
    (λ image is. prepared_is _ _ image ((rw (← c.self.view_is) at c.requires.prepared) image is)) (rw (← c.self.view_is) at (returns-in_err-write_surely-clause-since g c)) tells).1))

pub returns-clause-since : goal.returns-clause-since
returns-clause-since g c =
    rw (← c.self.view_is) (gate_passes c.self.inside.place _ _ _ _ _ _ _
    (record { tells = g.met.D.Disk.has_told c.self.inside.disk _; read = g.met.D.Disk.has_content c.self.inside.disk })
    (λ image is. prepared_is _ _ image ((rw (← c.self.view_is) at c.requires.prepared) image is)) c.write_surely.ensures.since)

pub returns-clause-ok : goal.returns-clause-ok
returns-clause-ok g c =
    rw (← c.self.view_is) (gate_sure {T = Unit {0}} {E = Unit {0}} (Ok tt) 1 c.self.inside.place _ _ _ _ _ _ _
    c.write_surely.ensures.told
    (record { tells = g.met.D.Disk.has_told c.self.inside.disk _; read = g.met.D.Disk.has_content c.self.inside.disk })
    (record { tells = g.met.D.Disk.has_told c.write_surely.new.disk _; read = g.met.D.Disk.has_content c.write_surely.new.disk })
    (λ image is. prepared_is _ _ image ((rw (← c.self.view_is) at c.requires.prepared) image is)) c.in_ok-write_surely.ensures.ok c.in_ok-write_surely.ensures.sure)

pub returns-clause-gained : goal.returns-clause-gained
returns-clause-gained g c =
    rw (← c.self.view_is) (gains c.self.inside.number c.self.inside.place _ _ _ _ _ _ _
    c.write_surely.ensures.told
    (record { tells = g.met.D.Disk.has_told c.self.inside.disk _; read = g.met.D.Disk.has_content c.self.inside.disk })
    (record { tells = g.met.D.Disk.has_told c.write_surely.new.disk _; read = g.met.D.Disk.has_content c.write_surely.new.disk })
    (λ image is. prepared_is _ _ image ((rw (← c.self.view_is) at c.requires.prepared) image is)) (rw (← c.self.view_is) at (returns-clause-ok g c)))

use Rattle.std.proofs.Common.{Ok}
use Rattle.fk_journal.proofs.Settling.{settling, settled, owed_read, owed_within}
use Rattle.fk_journal.proofs.Writes.{on_err}
use Rattle.fk_journal.proofs.journal.Journal.close_gate.Goals as goal

pub write_surely-requires : goal.write_surely-requires
write_surely-requires g c =
    record {
      within = owed_within c.self.inside.owed c.self.inside.place _ _ _ (rw (← c.self.view_is) at c.requires.owed)
          (record { tells = g.met.D.Disk.has_told c.self.inside.disk _; read = g.met.D.Disk.has_content c.self.inside.disk })
          (rw (← c.self.view_is) at c.requires.stands);
    }

pub returns-in_err-write_surely-clause-since : goal.returns-in_err-write_surely-clause-since
returns-in_err-write_surely-clause-since g c =
    rw (← c.self.view_is) (settling c.self.inside.owed c.self.inside.place _ _ _ _ _ _ (rw (← c.self.view_is) at c.requires.owed)
    (record { tells = g.met.D.Disk.has_told c.self.inside.disk _; read = g.met.D.Disk.has_content c.self.inside.disk })
    (rw (← c.self.view_is) at c.requires.stands) c.write_surely.ensures.since)

pub returns-in_err-write_surely-clause-front : goal.returns-in_err-write_surely-clause-front
returns-in_err-write_surely-clause-front g c =
    rw (← c.self.view_is) (λ tells. (owed_read c.self.inside.owed c.self.inside.place _ _ _ _ (rw (← c.self.view_is) at c.requires.owed)
    (record { tells = g.met.D.Disk.has_told c.self.inside.disk _; read = g.met.D.Disk.has_content c.self.inside.disk })
    (rw (← c.self.view_is) at c.requires.stands) c.write_surely.ensures.over tells).0)

pub returns-in_err-write_surely-clause-doubt : goal.returns-in_err-write_surely-clause-doubt
returns-in_err-write_surely-clause-doubt g c =
    rw (← c.self.view_is) (λ tells. on_err c.from_residual.result _ (owed_read c.self.inside.owed c.self.inside.place _ _ _ _ (rw (← c.self.view_is) at c.requires.owed)
    (record { tells = g.met.D.Disk.has_told c.self.inside.disk _; read = g.met.D.Disk.has_content c.self.inside.disk })
    (rw (← c.self.view_is) at c.requires.stands) c.write_surely.ensures.over tells).1)

pub returns-clause-since : goal.returns-clause-since
returns-clause-since g c =
    rw (← c.self.view_is) (settling c.self.inside.owed c.self.inside.place _ _ _ _ _ _ (rw (← c.self.view_is) at c.requires.owed)
    (record { tells = g.met.D.Disk.has_told c.self.inside.disk _; read = g.met.D.Disk.has_content c.self.inside.disk })
    (rw (← c.self.view_is) at c.requires.stands) c.write_surely.ensures.since)

pub returns-clause-ok : goal.returns-clause-ok
returns-clause-ok g c =
    rw (← c.self.view_is) (settled {T = Unit {0}} {E = Unit {0}} (Ok tt) c.self.inside.owed c.self.inside.place _ _ _ _ _ _
    (rw (← c.self.view_is) at c.requires.owed) c.write_surely.ensures.told
    (record { tells = g.met.D.Disk.has_told c.self.inside.disk _; read = g.met.D.Disk.has_content c.self.inside.disk })
    (record { tells = g.met.D.Disk.has_told c.write_surely.new.disk _; read = g.met.D.Disk.has_content c.write_surely.new.disk })
    (rw (← c.self.view_is) at c.requires.stands) c.in_ok-write_surely.ensures.ok c.in_ok-write_surely.ensures.sure)

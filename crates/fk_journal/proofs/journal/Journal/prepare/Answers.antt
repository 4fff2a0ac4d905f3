use Rattle.fk_journal.proofs.Writes.{preparing, prepared_ok, stays_closed}
use Rattle.fk_journal.proofs.journal.Journal.prepare.Goals as goal

pub returns-clause-since : goal.returns-clause-since
returns-clause-since g c =
    rw (← c.self.view_is) (preparing c.self.inside.place _ _ _ _ _ _
    (rw (← c.self.view_is) at c.requires.closed) c.write_surely.ensures.since)

pub returns-clause-ok : goal.returns-clause-ok
returns-clause-ok g c =
    rw (← c.self.view_is) (prepared_ok c.write_surely.result c.self.inside.place _ _ _ _ _ _ _
    c.write_surely.ensures.told (record { tells = g.met.D.Disk.has_told c.self.inside.disk _; read = g.met.D.Disk.has_content c.self.inside.disk }) (record { tells = g.met.D.Disk.has_told c.write_surely.new.disk _; read = g.met.D.Disk.has_content c.write_surely.new.disk })
    (rw (← c.self.view_is) at c.requires.closed) c.write_surely.ensures.ok c.write_surely.ensures.sure)

pub returns-clause-front : goal.returns-clause-front
returns-clause-front g c =
    rw (← c.self.view_is) (stays_closed c.self.inside.place _ _ _ _ _ _ _ _
    c.write_surely.ensures.told (record { tells = g.met.D.Disk.has_told c.self.inside.disk _; read = g.met.D.Disk.has_content c.self.inside.disk }) (record { tells = g.met.D.Disk.has_told c.write_surely.new.disk _; read = g.met.D.Disk.has_content c.write_surely.new.disk })
    (rw (← c.self.view_is) at c.requires.closed) (rw (← c.self.view_is) at (returns-clause-since g c)))

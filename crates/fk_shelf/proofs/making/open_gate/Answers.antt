use Rattle.fk_shelf.proofs.NewFile.{opening_passes, opens}
use Rattle.fk_shelf.proofs.making.open_gate.Goals as goal

pub returns-clause-since : goal.returns-clause-since
returns-clause-since g c = opening_passes _ _ _ _ c.requires.shut c.write_surely.ensures.since

pub returns-clause-ok : goal.returns-clause-ok
returns-clause-ok g c =
    opens c.write_surely.result _ _ _ _ (g.met.D.Disk.has_content c.args.disk.now) c.requires.shut
    c.write_surely.ensures.ok

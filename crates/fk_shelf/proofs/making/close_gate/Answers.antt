use Rattle.fk_shelf.proofs.NewFile.{gate_alone, on_ok}
use Rattle.fk_shelf.proofs.making.close_gate.Goals as goal

pub returns-clause-closed : goal.returns-clause-closed
returns-clause-closed g c =
    on_ok c.cut.result _ (gate_alone _ _ _ _ _ _ _ _ _ c.write_surely.ensures.told
    (g.met.D.Disk.has_told c.write_surely.new.disk _) (g.met.D.Disk.has_content c.args.disk.now) c.requires.short
    c.in_ok-write_surely.ensures.ok c.in_ok-write_surely.ensures.sure c.cut.ensures.since)

use Rattle.fk_store.proofs.Settling.{settle_goes}
use Rattle.fk_store.proofs.keeping.settle.Goals as goal

pub returns-in_err-settle-clause-crash : goal.returns-in_err-settle-clause-crash
returns-in_err-settle-clause-crash g c = λ kept known.
    settle_goes _ _ g.D.Disk.moment g.D.Disk.images c.args.shelf.now c.settle.new.self kept _
    c.settle.ensures.told (g.met.D.Disk.has_told c.settle.new.self.live.disk) c.settle.ensures.other
    c.stands.ensures.blank known c.settle.ensures.since

pub returns-clause-crash : goal.returns-clause-crash
returns-clause-crash g c = λ kept known.
    settle_goes _ _ g.D.Disk.moment g.D.Disk.images c.args.shelf.now c.settle.new.self kept _
    c.settle.ensures.told (g.met.D.Disk.has_told c.settle.new.self.live.disk) c.settle.ensures.other
    c.stands.ensures.blank known c.settle.ensures.since

use Rattle.fk_store.proofs.Settling.{as_told, rests_sound}
use Rattle.fk_store.proofs.turning.StoreKept.stands.Goals as goal

pub returns-clause-sound : goal.returns-clause-sound
returns-clause-sound g c =
    rw (← c.self.view_is) (rests_sound _ g.D.Disk.moment g.D.Disk.images c.self.inside.shelf c.self.inside.tables.kept _
    (g.met.D.Disk.has_told c.self.inside.shelf.live.disk) c.stands.ensures.blank c.stands.ensures.rest
    (as_told _ c.self.inside.shelf c.self.inside.tables.kept _ _ c.self.invariant.0 c.self.invariant.2
    c.self.invariant.3))

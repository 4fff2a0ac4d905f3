use Rattle.fk_store.proofs.Owing.{rest_reads}
use Rattle.fk_store.proofs.Settling.{as_told, rests_sound}
use Rattle.fk_store.proofs.store.Store.close.Goals as goal

pub returns-clause-reads : goal.returns-clause-reads
returns-clause-reads g c =
    let shelf = c.self.inside.shelf in
    rw (c.close.ensures.a, c.close.ensures.b, c.into_shelf.ensures, ← c.self.view_is)
    (λ tells tells_too none. rest_reads shelf.live.front c.self.inside.tables.kept shelf.live.number shelf.live.place
    shelf.live.owed _ _ _ (c.self.invariant.3 tells).0 (c.self.invariant.3 tells).1 none
    (c.stands.ensures.rest c.self.invariant.0 _ (g.met.D.Disk.has_content shelf.live.disk tells))
    (c.stands.ensures.blank _ (g.met.D.Disk.has_content shelf.other tells_too)))

pub returns-clause-sound : goal.returns-clause-sound
returns-clause-sound g c =
    let shelf = c.self.inside.shelf in
    rw (c.close.ensures.a, c.close.ensures.b, c.into_shelf.ensures, ← c.self.view_is)
    (rests_sound _ g.D.Disk.moment g.D.Disk.images shelf c.self.inside.tables.kept _
    (g.met.D.Disk.has_told shelf.live.disk) c.stands.ensures.blank c.stands.ensures.rest
    (as_told _ shelf c.self.inside.tables.kept _ _ c.self.invariant.0 c.self.invariant.2 c.self.invariant.3))

use Rattle.std.proofs.Common.{None, refl}
use Rattle.fk_store.proofs.Settling.{append_goes, appended_tells}
use Rattle.fk_store.proofs.keeping.append.Goals as goal

pub returns-in-Ok-clause-ok : goal.returns-in-Ok-clause-ok
returns-in-Ok-clause-ok g c = λ kept known follow.
    appended_tells _ _ c.args.shelf.now c.append.new.self kept _ _ _ _ (rw c.requires.none refl) known follow
    c.requires.piece c.append.ensures.told c.append.ensures.done c.in-Ok.ensures.number c.in-Ok.ensures.place
    c.in-Ok.ensures.gained c.in-Ok.ensures.paid

pub returns-in-Ok-clause-crash : goal.returns-in-Ok-clause-crash
returns-in-Ok-clause-crash g c = λ kept known follow.
    append_goes _ _ g.D.Disk.moment g.D.Disk.images c.args.shelf.now c.append.new.self kept None _ _
    c.append.ensures.told (g.met.D.Disk.has_told c.append.new.self.live.disk) c.append.ensures.other
    c.stands.ensures.blank known follow c.requires.piece c.append.ensures.since

pub returns-in-Err-clause-crash : goal.returns-in-Err-clause-crash
returns-in-Err-clause-crash g c = λ kept known follow.
    append_goes _ _ g.D.Disk.moment g.D.Disk.images c.args.shelf.now c.append.new.self kept None _ _
    c.append.ensures.told (g.met.D.Disk.has_told c.append.new.self.live.disk) c.append.ensures.other
    c.stands.ensures.blank known follow c.requires.piece c.append.ensures.since

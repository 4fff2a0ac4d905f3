use Rattle.std.proofs.Common.{◌∙◌, refl}
use Rattle.fk_store.proofs.CarriedOut.{all_made, disk_failed, doubt_seen, has_room, may_follow}
use Rattle.fk_store.proofs.carrying.write_down.Goals as goal

pub keep-requires-clause-room : goal.keep-requires-clause-room
keep-requires-clause-room g c =
    has_room c.args.shelf.now.live _ _ c.requires.over c.requires.some (c.bytes.ensures ∙ c.requires.piece)

pub returns-in-Ok-clause-carried : goal.returns-in-Ok-clause-carried
returns-in-Ok-clause-carried g c =
    let follow = may_follow c.args.shelf.now.live c.args.tables.now.kept _ c.requires.over c.requires.some
    c.requires.fit c.requires.list in
    all_made g.D.Disk.told g.D.Disk.fault_count g.D.Disk.moment g.D.Disk.images c.args.reply _ _
    c.args.shelf.now c.keep.new.shelf c.args.tables.now.kept c.apply.new.self.kept _ _ _ c.requires.over c.requires.some
    (c.bytes.ensures ∙ c.requires.piece) c.apply.ensures.kept
    (c.in-Ok.ensures.ok c.args.tables.now.kept c.requires.told follow) (rw c.in-Ok.ensures.none refl)
    c.in-Ok.ensures.number c.in-Ok.ensures.place c.keep.ensures.other c.in-Ok.ensures.cause
    (c.keep.ensures.crash c.args.tables.now.kept c.requires.told follow)

pub returns-in-Err-clause-carried : goal.returns-in-Err-clause-carried
returns-in-Err-clause-carried g c =
    let follow = may_follow c.args.shelf.now.live c.args.tables.now.kept _ c.requires.over c.requires.some
    c.requires.fit c.requires.list in
    disk_failed g.D.Disk.told g.D.Disk.fault_count g.D.Disk.moment g.D.Disk.images c.args.reply _
    c.args.shelf.now c.keep.new.shelf c.args.tables.now.kept _ _ _ c.requires.over c.requires.some
    (c.in-Err.ensures.err c.args.tables.now.kept c.requires.told follow)
    (doubt_seen _ _ _ _ c.in-Err.ensures.doubt) c.in-Err.ensures.number_stays c.in-Err.ensures.place_stays
    c.keep.ensures.other c.in-Err.ensures.cause refl
    (c.keep.ensures.crash c.args.tables.now.kept c.requires.told follow)

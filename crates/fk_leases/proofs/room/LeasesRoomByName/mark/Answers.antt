use Rattle.std.proofs.Common.{arith}
use Rattle.fk_leases.proofs.Rooms.{kept_room, more_room}
use Rattle.fk_leases.proofs.Together.{still_sound}
use Rattle.fk_leases.proofs.room.LeasesRoomByName.mark.Goals as goal

pub invariant_of-self-in_err-mark : goal.invariant_of-self-in_err-mark
invariant_of-self-in_err-mark c =
    let sound = c.self.invariant in
    still_sound c.self.inside.lists c.mark.new.self c.self.inside.ends c.reserve.new.self _ _ sound
    (kept_room c.args.jid.now _ _ c.mark.ensures.rooms _ (omega (arith, c.in_err-mark.ensures.spare)) sound.room)
    (omega (arith, sound.spare, c.reserve.ensures.kept)) c.mark.ensures.same c.reserve.ensures.same

pub invariant_of-self-2 : goal.invariant_of-self-2
invariant_of-self-2 c =
    let sound = c.self.invariant in
    still_sound c.self.inside.lists c.mark.new.self c.self.inside.ends c.reserve.new.self c.self.inside.room
    c.in-Some-checked_add.room sound
    (more_room c.args.jid.now _ _ c.mark.ensures.rooms _ _
    (omega (arith, c.mark.ensures.bound, c.in-Some.ensures.some, c.in-Some-checked_add.ensures))
    (omega (arith, c.in-Some-checked_add.ensures)) sound.room)
    c.in_ok-reserve.ensures.ok c.mark.ensures.same c.reserve.ensures.same

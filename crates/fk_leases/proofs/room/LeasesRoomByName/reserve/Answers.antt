use Rattle.std.proofs.Common.{arith}
use Rattle.fk_leases.proofs.Rooms.{kept_room, more_room}
use Rattle.fk_leases.proofs.Together.{still_sound}
use Rattle.fk_leases.proofs.room.LeasesRoomByName.reserve.Goals as goal

pub invariant_of-self-in_err-reserve-2 : goal.invariant_of-self-in_err-reserve-2
invariant_of-self-in_err-reserve-2 c =
    let sound = c.self.invariant in
    still_sound c.self.inside.lists c.reserve-2.new.self c.self.inside.ends c.reserve.new.self _ _ sound
    (kept_room c.args.jid.now _ _ c.reserve-2.ensures.rooms _ (omega (arith, c.in_err-reserve-2.ensures.err)) sound.room)
    (omega (arith, sound.spare, c.reserve.ensures.kept)) c.reserve-2.ensures.same c.reserve.ensures.same

pub invariant_of-self-2 : goal.invariant_of-self-2
invariant_of-self-2 c =
    let sound = c.self.invariant in
    let lack = c.saturating_sub-lack.ensures in
    still_sound c.self.inside.lists c.reserve-2.new.self c.self.inside.ends c.reserve.new.self c.self.inside.room
    c.in-Some.room sound
    (more_room c.args.jid.now _ _ c.reserve-2.ensures.rooms _ _
    (omega (arith, c.reserve-2.ensures.bound, c.spare.ensures, lack, c.in-Some.ensures))
    (omega (arith, c.in-Some.ensures)) sound.room)
    c.in_ok-reserve.ensures.ok c.reserve-2.ensures.same c.reserve.ensures.same

use Rattle.std.proofs.Common.{arith}
use Rattle.fk_leases.proofs.Rooms.{same_room}
use Rattle.fk_leases.proofs.Together.{sound_empty}
use Rattle.fk_leases.proofs.room.LeasesRoomByName.clear.Goals as goal

pub invariant_of-self : goal.invariant_of-self
invariant_of-self c =
    sound_empty c.clear.new.self c.clear-2.new.self _ c.clear.ensures.items c.clear-2.ensures.items
    (same_room _ _ _ c.clear.ensures.kept c.self.invariant.room)
    (omega (arith, c.clear-2.ensures.spare, c.self.invariant.spare))

use Rattle.std.proofs.Common.{refl}
use Rattle.fk_leases.proofs.Rooms.{same_room}
use Rattle.fk_leases.proofs.Together.{still_sound}
use Rattle.fk_leases.proofs.room.LeasesRoomByName.unmark.Goals as goal

pub invariant_of-self : goal.invariant_of-self
invariant_of-self c =
    let sound = c.self.invariant in
    still_sound c.self.inside.lists c.unmark.new.self c.self.inside.ends c.self.inside.ends _ _ sound
    (same_room _ _ _ c.unmark.ensures.kept sound.room) sound.spare c.unmark.ensures.same refl

use Rattle.std.proofs.Common.{ap, arith}
use Rattle.fk_leases.proofs.Rooms.{no_room}
use Rattle.fk_leases.proofs.Together.{sound_empty}
use Rattle.fk_leases.proofs.leases.Leases.new.Goals as goal

pub invariant_of-result : goal.invariant_of-result
invariant_of-result c =
    sound_empty c.new-lists.result c.new-ends.result 0 (ap (λ room. room.items) c.new-lists.ensures)
    c.new-ends.ensures.items (no_room _ (ap (λ room. room.spares) c.new-lists.ensures)) (omega arith)

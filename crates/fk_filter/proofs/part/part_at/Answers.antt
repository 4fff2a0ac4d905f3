use Rattle.fk_filter.proofs.Bytes.{stands}
use Rattle.fk_filter.proofs.part.part_at.Goals as goal

pub returns-else-byte-eq92 : goal.returns-else-byte-eq92
returns-else-byte-eq92 c =
    rw c.part_of.ensures (stands c.args.byte c.args.behind.now c.if-byte-eq92.false)

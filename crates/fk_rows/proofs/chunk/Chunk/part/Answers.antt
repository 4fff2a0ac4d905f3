use Rattle.std.proofs.Common.{arith, ◌≡◌, length}
use Rattle.std.proofs.lemmas.Grind.{common_steps}
use Rattle.fk_rows.specs.Chunks.{half}
use Rattle.fk_rows.proofs.Parting.{cut_first, cut_second}
use Rattle.fk_rows.proofs.chunk.Chunk.part.Goals as goal

pub returns-clause-first : goal.returns-clause-first
returns-clause-first c =
    let count : length c.moving.self-inside.filed.items ≡ half = grind (arith, common_steps, c.moving-test.false, c.len.ensures, c.moving.invariant.1) in
    rw (← c.self.view_is) (cut_first c.moving.self-inside.filed.items c.moving.other-inside.filed.items c.self.inside.filed.items half c.moving.invariant.0 count)

pub returns-clause-second : goal.returns-clause-second
returns-clause-second c =
    let count : length c.moving.self-inside.filed.items ≡ half = grind (arith, common_steps, c.moving-test.false, c.len.ensures, c.moving.invariant.1) in
    rw (← c.self.view_is) (cut_second c.moving.self-inside.filed.items c.moving.other-inside.filed.items c.self.inside.filed.items half c.moving.invariant.0 count)

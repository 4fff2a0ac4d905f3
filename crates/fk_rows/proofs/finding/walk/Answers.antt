use Rattle.std.proofs.Common.{arith, add-one}
use Rattle.std.proofs.lemmas.Grind.{common_steps}
use Rattle.fk_rows.proofs.Halving.{walk_here, walk_on, walk_past}
use Rattle.fk_rows.proofs.finding.walk.Goals as goal

pub returns-then-left-count : goal.returns-then-left-count
returns-then-left-count c =
    walk_here c.args.chunks.now.items c.walking.chunk c.walking.left c.args.place c.walking.invariant
    (omega (arith, c.len_at-count.ensures.count, c.if-left-count.true))

pub walking-preserved : goal.walking-preserved
walking-preserved c =
    rw (add-one, c.len_at-count.ensures.count)
    (walk_on c.args.chunks.now.items c.walking.chunk c.walking.left c.args.place c.walking.invariant
    (omega (arith, c.len_at-count.ensures.count, c.if-left-count.false)))

-- past the last chunk there is no row
pub returns : goal.returns
returns c =
    walk_past c.args.chunks.now.items c.len.result c.walking.chunk c.walking.left c.args.place c.walking.invariant
    (grind (arith, common_steps, c.len.ensures)) (grind (arith, common_steps, c.walking-test.false, c.walking.auto.chunk-end, c.len-chunk-end.ensures))

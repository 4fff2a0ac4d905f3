use Rattle.std.proofs.Common.{length-append, arith}
use Rattle.fk_tree.proofs.Halves.{low_height}
use Rattle.fk_tree.proofs.Takes.{next_between}
use Rattle.fk_tree.proofs.taking.joined.Goals as goal

pub balanced-requires-clause-sides : goal.balanced-requires-clause-sides
balanced-requires-clause-sides g c =
    let done = c.remove_first.ensures in
    let first = rw c.in-Some.is at done.first in
    next_between _ _ _ _ _ c.requires.sides first done.not_lower done.not_higher done.full

pub balanced-requires-clause-low : goal.balanced-requires-clause-low
balanced-requires-clause-low g c =
    let all = length-append c.args.left.pairs c.args.right.pairs in
    let low = low_height c.args.left c.requires.sides.left_full (omega (arith, all, c.requires.few)) in
    let other = low_height c.args.right c.requires.sides.right_full (omega (arith, all, c.requires.few)) in
    omega (arith, low, other, c.remove_first.ensures.not_higher)

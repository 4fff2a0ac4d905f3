use Rattle.std.proofs.Common.{arith}
use Rattle.fk_plan.proofs.SetSizes.{working_fewer}
use Rattle.fk_plan.proofs.counting.working_up.Goals as goal

pub overflow_sub-result : goal.overflow_sub-result
overflow_sub-result c =
    let fewer = working_fewer c.args.tables.now.kept c.args.moment 0 c.requires.kept c.requires.moment in
    omega (arith, fewer, c.working.ensures, c.requires.ended)

pub returns : goal.returns
returns c = λ word.
    let fewer = working_fewer c.args.tables.now.kept c.args.moment word c.requires.kept c.requires.moment in
    omega (arith, fewer, c.working.ensures, c.requires.ended)

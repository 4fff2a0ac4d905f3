use Rattle.std.proofs.Common.{ap, length, arith}
use Rattle.fk_plan.specs.Tallies.{count_put}
use Rattle.fk_plan.proofs.FewRows.{timed_few}
use Rattle.fk_plan.proofs.SetSizes.{both_parts, timed_up}
use Rattle.fk_plan.proofs.counting.size_up.Goals as goal

pub overflow_sub-left : goal.overflow_sub-left
overflow_sub-left c =
    let parts = both_parts c.args.target c.args.moment c.args.tables.now.kept.rows in
    let gone = ap length c.in_ok-gone.ensures in
    omega (arith, parts, gone, c.size.ensures, c.len.ensures)

pub returns : goal.returns
returns c = λ word made.
    let up = timed_up c.args.target c.args.tables.now.kept c.args.moment word c.requires.kept c.requires.moment in
    let few = timed_few c.args.target c.args.tables.now.kept c.args.moment word c.requires.kept c.requires.few in
    let put = ap (count_put c.args.target) made in
    let parts = both_parts c.args.target c.args.moment c.args.tables.now.kept.rows in
    let gone = ap length c.in_ok-gone.ensures in
    omega (arith, up, few, put, parts, gone, c.size.ensures, c.len.ensures, c.count_put.ensures, c.saturating_add.ensures)

use Rattle.std.proofs.Common.{ap, length, arith}
use Rattle.fk_plan.proofs.DueNumbers.{length_due}
use Rattle.fk_plan.proofs.HowMany.{up_waiting}
use Rattle.fk_plan.proofs.FewRows.{waiting_few}
use Rattle.fk_plan.proofs.counting.waiting_up.Goals as goal

pub overflow_add-result : goal.overflow_add-result
overflow_add-result c =
    let few = waiting_few c.args.tables.now.kept c.args.moment c.requires.kept c.requires.few in
    let pairs = ap length c.requires.due in
    omega (arith, few, pairs, c.waiting.ensures, c.len.ensures)

pub returns : goal.returns
returns c = λ word.
    let up = up_waiting c.args.tables.now.kept c.args.moment word c.requires.kept in
    let due = length_due c.args.tables.now.kept c.args.moment c.requires.kept in
    let pairs = ap length c.requires.due in
    omega (arith, up, due, pairs, c.waiting.ensures, c.len.ensures)

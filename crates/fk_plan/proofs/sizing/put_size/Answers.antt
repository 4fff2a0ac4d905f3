use Rattle.std.proofs.Common.{arith}
use Rattle.fk_plan.proofs.FewRows.{queue_few}
use Rattle.fk_plan.proofs.NamesUp.{longer_queue}
use Rattle.fk_plan.proofs.sizing.put_size.Goals as goal

pub overflow_add-count : goal.overflow_add-count
overflow_add-count c =
    let few = queue_few c.args.tables.now.kept c.args.moment c.args.name.now c.args.arrived.now.items c.requires.kept
    c.requires.few c.requires.arrived in
    omega (arith, few, c.queued.ensures, c.count.ensures.value)

pub returns : goal.returns
returns c = λ word.
    let sum = longer_queue c.args.tables.now.kept c.args.moment word c.args.name.now c.args.arrived.now.items
    c.requires.kept c.requires.arrived in
    rw (sum, ← c.queued.ensures, ← c.count.ensures.value) (rw c.bytes.ensures at c.put_count.ensures)

use Rattle.fk_plan.proofs.Pushed.{batch_done}
use Rattle.fk_plan.proofs.pushing.push_batch.Goals as goal

pub returns-clause-ok : goal.returns-clause-ok
returns-clause-ok c = λ before up word has.
    rw (c.in_ok-add_rows.ensures.ok, c.in_ok-add_rows.ensures.next, c.into_vec.ensures)
    (batch_done before up c.args.jobs.items c.args.told c.args.moment word c.args.moves.now.items
    c.args.numbers.now has)

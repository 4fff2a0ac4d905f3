use Rattle.fk_plan.proofs.Pushed.{push_done}
use Rattle.fk_plan.proofs.pushing.push.Goals as goal

pub returns-clause-ok : goal.returns-clause-ok
returns-clause-ok c = λ before up word has.
    rw (c.ok.ensures, c.in_ok-add_row.ensures.ok, c.in_ok-add_row.ensures.next)
    (push_done before up c.args.job c.args.moment word c.args.moves.now.items c.args.numbers.now has)

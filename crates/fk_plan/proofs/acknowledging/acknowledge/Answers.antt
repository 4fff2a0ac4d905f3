use Rattle.fk_plan.proofs.Acknowledged.{none_acknowledged, one_acknowledged}
use Rattle.fk_plan.proofs.acknowledging.acknowledge.Goals as goal

pub returns-in_default-clause-ok : goal.returns-in_default-clause-ok
returns-in_default-clause-ok c = λ word workers has.
    rw c.ok.ensures
    (none_acknowledged c.args.tables.now.kept workers c.args.jid.now c.args.moment word c.args.moves.now.items
    c.args.numbers.now c.requires.kept c.requires.moment c.in_default.ensures has)

pub returns-clause-ok : goal.returns-clause-ok
returns-clause-ok c = λ word workers has.
    rw (c.ok-2.ensures, c.in_ok-push.ensures.ok, c.saturating_add-numbers.ensures)
    (one_acknowledged c.args.tables.now.kept workers c.args.jid.now c.args.moment word c.in-Some.ticket
    c.args.moves.now.items c.args.numbers.now c.requires.kept c.requires.moment c.in-Some.ensures has)

use Rattle.fk_core.proofs.KnownRows.{latest_found, latest_earlier, latest_nowhere}
use Rattle.fk_core.proofs.reserving.latest_add.Goals as goal

pub returns-in-Some : goal.returns-in-Some
returns-in-Some c =
    latest_found c.args.moves.now.items c.args.at c.args.first c.looking.left c.args.ticket
    c.in-Some.row.now c.looking.invariant c.looking-test.true c.in-Some.ensures

pub looking-preserved : goal.looking-preserved
looking-preserved c =
    latest_earlier c.args.moves.now.items c.args.at c.args.first c.looking.left c.args.ticket
    c.looking.invariant c.looking-test.true c.in_default.ensures

pub returns : goal.returns
returns c =
    latest_nowhere c.args.moves.now.items c.args.at c.args.first c.looking.left c.args.ticket
    c.looking.invariant c.looking-test.false c.requires.none

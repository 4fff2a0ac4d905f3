use Rattle.std.proofs.Common.{None, Some}
use Rattle.fk_plan.proofs.Firsts.{first_arrived, first_waited}
use Rattle.fk_plan.proofs.fetching.first_in.Goals as goal

pub returns-in-Some : goal.returns-in-Some
returns-in-Some c = λ word.
    first_waited c.args.tables.now.kept c.args.moment word c.in-Some.ticket c.args.name.now c.requires.kept
    c.in-Some.ensures

pub returns-in-Some-first : goal.returns-in-Some-first
returns-in-Some-first c = λ word.
    first_arrived c.args.tables.now.kept c.args.moment word c.args.name.now c.args.arrived.now.items
    (Some (c.in-Some-first.field-0-0, c.in-Some-first.ticket)) c.requires.kept c.requires.arrived
    c.in-None.ensures c.in-Some-first.ensures.value

pub returns-in-None-first : goal.returns-in-None-first
returns-in-None-first c = λ word.
    first_arrived c.args.tables.now.kept c.args.moment word c.args.name.now c.args.arrived.now.items None
    c.requires.kept c.requires.arrived c.in-None.ensures c.in-None-first.ensures.value

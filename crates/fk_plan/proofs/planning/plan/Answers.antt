use Rattle.fk_model.specs.State.{with_workers}
use Rattle.fk_plan.proofs.Turned.{plan_leads, plan_stays}
use Rattle.fk_plan.proofs.planning.plan.Goals as goal

pub returns-in-Ok-clause-leads : goal.returns-in-Ok-clause-leads
returns-in-Ok-clause-leads c =
    plan_leads (with_workers c.args.tables.now.kept c.args.workers.now.workers) c.args.ask.now c.args.moment c.args.word c.in-Ok.reply
    c.plan_ask.new.moves.items c.in-Ok.ensures.ok c.are_well_kept.ensures.kept c.requires.range
    c.requires.moment

pub returns-in-Ok-clause-stays : goal.returns-in-Ok-clause-stays
returns-in-Ok-clause-stays c =
    plan_stays (with_workers c.args.tables.now.kept c.args.workers.now.workers) c.args.ask.now c.args.moment c.args.word c.in-Ok.reply
    c.plan_ask.new.moves.items c.in-Ok.ensures.ok c.are_well_kept.ensures.kept

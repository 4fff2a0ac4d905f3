use Rattle.std.proofs.Common.{◌∙◌, ap}
use Rattle.std.specs.Prelude.{option_map}
use Rattle.fk_model.specs.Rows.{ticket_of}
use Rattle.fk_model.specs.Bringing.{brought_up}
use Rattle.fk_model.proofs.UpToDate.{up_orderly}
use Rattle.fk_plan.proofs.Ahead.{waits_at, waits_nowhere, waits_past}
use Rattle.fk_plan.proofs.fetching.first_waiting.Goals as goal

pub returns-in-Some : goal.returns-in-Some
returns-in-Some c = λ word.
    waits_at (brought_up c.args.tables.now.kept c.args.moment word) c.as_slice-queue-items.result.now
    c.looking.queue-index c.queue-item.result c.in-Some.ticket
    (up_orderly c.args.tables.now.kept c.args.moment word c.requires.kept).by_ticket c.looking-test.true
    c.queue-item.is (c.in-Some.ensures word)
    ∙ ap (option_map ticket_of) (c.looking.invariant word)

pub looking-preserved : goal.looking-preserved
looking-preserved c = λ word.
    waits_past (brought_up c.args.tables.now.kept c.args.moment word) c.as_slice-queue-items.result.now
    c.looking.queue-index c.queue-item.result c.looking-test.true c.queue-item.is (c.in_default.ensures word)
    ∙ c.looking.invariant word

pub returns : goal.returns
returns c = λ word.
    waits_nowhere (brought_up c.args.tables.now.kept c.args.moment word) c.as_slice-queue-items.result.now
    c.looking.queue-index c.looking-test.false
    ∙ ap (option_map ticket_of) (c.looking.invariant word)

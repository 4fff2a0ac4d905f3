use Rattle.std.proofs.Common.{◌∙◌, sym}
use Rattle.fk_model.specs.Bringing.{brought_up}
use Rattle.fk_model.specs.State.{with_workers}
use Rattle.fk_model.specs.Workers.{fresh}
use Rattle.fk_plan.proofs.Fetched.{held_fetched}
use Rattle.fk_plan.proofs.holding.fetch_unless_held.Goals as goal

pub returns-then-is_held_back-clause-ok : goal.returns-then-is_held_back-clause-ok
returns-then-is_held_back-clause-ok c = λ word numbers has.
    held_fetched c.args.tables.now.kept (with_workers (brought_up c.args.tables.now.kept c.args.moment word)
    (fresh c.args.moment c.args.workers.now.workers)) c.args.wid c.args.queues.now c.args.moment word
    c.args.moves.now.items numbers (sym c.is_held_back.ensures ∙ c.if-is_held_back.true) has

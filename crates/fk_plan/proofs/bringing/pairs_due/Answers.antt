use Rattle.fk_model.specs.declared.mutation.Target.TheVariants as target
use Rattle.fk_plan.proofs.BothSets.{up_to_in_order, both_due}
use Rattle.fk_plan.proofs.bringing.pairs_due.Goals as goal

pub merged-requires-clause-one : goal.merged-requires-clause-one
merged-requires-clause-one c =
    rw c.in_ok-scheduled.ensures
    (up_to_in_order c.args.moment target.Scheduled c.args.tables.now.kept.rows)

pub merged-requires-clause-other : goal.merged-requires-clause-other
merged-requires-clause-other c =
    rw c.in_ok-retries.ensures
    (up_to_in_order c.args.moment target.Retries c.args.tables.now.kept.rows)

pub returns : goal.returns
returns c =
    rw (← both_due c.args.tables.now.kept c.args.moment, ← c.in_ok-scheduled.ensures, ← c.in_ok-retries.ensures)
    c.merged.ensures

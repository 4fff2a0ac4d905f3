use Rattle.fk_model.proofs.Sorting.{are_in_order}
use Rattle.fk_plan.specs.Choosing.{beyond, fresh}
use Rattle.fk_model.specs.Orders.{timed}
use Rattle.fk_plan.proofs.Entries.{beyond_in_order, sorted_before}
use Rattle.fk_plan.proofs.choosing.set_behind.Goals as goal

pub merged-requires-clause-one : goal.merged-requires-clause-one
merged-requires-clause-one c =
    rw c.in_ok-later.ensures (beyond_in_order c.args.moment c.args.target c.args.tables.now.kept.rows)

pub merged-requires-clause-other : goal.merged-requires-clause-other
merged-requires-clause-other c =
    rw c.in_ok-put.ensures (are_in_order (fresh c.args.target c.args.moves.now.items))

pub returns : goal.returns
returns c =
    rw (
      ← sorted_before (beyond c.args.moment (timed c.args.target c.args.tables.now.kept.rows))
          (fresh c.args.target c.args.moves.now.items),
      ← c.in_ok-later.ensures,
      ← c.in_ok-put.ensures,
    )
    c.merged.ensures

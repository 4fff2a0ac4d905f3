use Rattle.std.proofs.Common.{◌∙◌}
use Rattle.fk_plan.proofs.Entries.{entered, not_entered}
use Rattle.fk_plan.proofs.choosing.entries.Goals as goal
use Rattle.fk_plan.proofs.choosing.entries.Goals.{in-Some+in_ok-push, in_default}

pub entering-preserved : goal.entering-preserved
entering-preserved c = elim c.match-entry_at.branch [
  | in-Some+in_ok-push w ↦ rw w.entries-is
      (entered c.args.target c.args.moves.now.items c.entering.at _ c.entering.entries.items _ w.in-Some.ensures
      w.in_ok-push.ensures.items
      ∙ c.entering.invariant)
  | in_default w ↦ rw w.entries-is
      (not_entered c.args.target c.args.moves.now.items c.entering.at c.entering.entries.items
      w.in_default.ensures
      ∙ c.entering.invariant)
]

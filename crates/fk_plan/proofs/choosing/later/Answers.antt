use Rattle.std.proofs.Common.{◌∙◌, arith}
use Rattle.fk_plan.proofs.Entries.{passes, stays_out}
use Rattle.fk_plan.proofs.choosing.later.Goals as goal
use Rattle.fk_plan.proofs.choosing.later.Goals.{then-moment-pair+in_ok-push, else-moment-pair}

pub passing-preserved : goal.passing-preserved
passing-preserved c = elim c.if-moment-pair.branch [
  | then-moment-pair+in_ok-push w ↦ rw w.later-is
      (passes c.args.moment c.passing.at c.args.pairs.now.items c.passing.later.items _ c.pair_at-pair.result
      c.pair_at-pair.ensures (omega arith) w.in_ok-push.ensures.ok
      ∙ c.passing.invariant)
  | else-moment-pair w ↦ rw w.later-is
      (stays_out c.args.moment c.passing.at c.args.pairs.now.items c.passing.later.items c.pair_at-pair.result
      c.pair_at-pair.ensures (omega arith)
      ∙ c.passing.invariant)
]

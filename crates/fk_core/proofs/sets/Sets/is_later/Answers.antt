use Rattle.std.proofs.Common.{◌∙◌, sym}
use Rattle.fk_model.specs.declared.mutation.Target.TheVariants as target
use Rattle.fk_core.specs.Sets.{pairs_in}
use Rattle.fk_core.proofs.SetsLater.{last_later, not_later}
use Rattle.fk_core.proofs.sets.Sets.is_later.Goals.{then-is_later, else-is_later}
use Rattle.fk_core.proofs.sets.Sets.is_later.Goals as goal

pub returns-then-is_later-2 : goal.returns-then-is_later-2
returns-then-is_later-2 c = elim c.if-is_later.branch [
  | then-is_later w ↦
      rw (← c.self.view_is)
      (last_later _ _ _ _ _ c.is_later.ensures w.is_later-then-is_later.ensures c.is_later-then-is_later-2.ensures
      w.if-is_later.true (sym w.value-is ∙ c.if-is_later-2.true))
  | else-is_later w ↦ absurd (cc (w.if-is_later.false, w.value-is, c.if-is_later-2.true))
]

pub returns-else-is_later-2 : goal.returns-else-is_later-2
unfolding pairs_in
returns-else-is_later-2 c = elim c.if-is_later.branch [
  | then-is_later w ↦
      rw (c.if-is_later-2.false, ← c.self.view_is)
      (not_later _ _ target.Retries _ w.is_later-then-is_later.ensures (sym w.value-is ∙ c.if-is_later-2.false))
  | else-is_later w ↦
      rw (c.if-is_later-2.false, ← c.self.view_is)
      (not_later _ _ target.Scheduled _ c.is_later.ensures w.if-is_later.false)
]

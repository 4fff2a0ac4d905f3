use Rattle.fk_core.proofs.MarksTogether.{keeps_none, keeps_on, same_none, same_on, unmarked_none, unmarked_next}
use Rattle.fk_core.proofs.reserving.unmark_all.Goals as goal

pub unmarking-init : goal.unmarking-init
unmarking-init c = record {
  none = unmarked_none c.args.rows.now.items c.args.index.now;
  kept = keeps_none c.args.index.now;
  same = same_none c.args.index.now;
}

pub unmarking-preserved : goal.unmarking-preserved
unmarking-preserved c = record {
  none = unmarked_next _ _ _ _ _ c.unmarking.invariant.none c.unmark_one.ensures.none;
  kept = keeps_on _ _ _ c.unmarking.invariant.kept c.unmark_one.ensures.kept;
  same = same_on _ _ _ c.unmarking.invariant.same c.unmark_one.ensures.same;
}

use Rattle.fk_core.proofs.MarksTogether.{keeps_none, keeps_on, same_none, same_on, marked_none, marked_next, one_more}
use Rattle.fk_core.proofs.reserving.mark_all.Goals as goal

pub marking-init : goal.marking-init
marking-init c = record {
  marked = marked_none c.args.rows.now.items c.args.index.now;
  kept = keeps_none c.args.index.now;
  same = same_none c.args.index.now;
}

pub returns-in_err-mark_one-clause-ready : goal.returns-in_err-mark_one-clause-ready
returns-in_err-mark_one-clause-ready c = λ none room.
    absurd (cc (c.in_err-mark_one.ensures.ready
    (one_more _ _ _ _ _ c.marking.invariant.marked c.marking.invariant.kept none room)))

pub marking-preserved : goal.marking-preserved
marking-preserved c = record {
  marked = marked_next _ _ _ _ _ _ c.marking.invariant.marked c.in_ok-mark_one.ensures.ok c.mark_one.ensures.kept;
  kept = keeps_on _ _ _ c.marking.invariant.kept c.mark_one.ensures.kept;
  same = same_on _ _ _ c.marking.invariant.same c.mark_one.ensures.same;
}

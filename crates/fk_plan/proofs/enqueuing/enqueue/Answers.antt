use Rattle.std.proofs.Common.{ap, ◌∙◌, length, arith}
use Rattle.std.proofs.lemmas.List.{length-append}
use Rattle.fk_plan.proofs.DueMoves.{one_enqueued, none_enqueued}
use Rattle.fk_plan.proofs.enqueuing.enqueue.Goals as goal
use Rattle.fk_plan.proofs.enqueuing.enqueue.Goals.{in-Some+in_ok-put_waiting+in_ok-push, in_default}

pub enqueuing-preserved : goal.enqueuing-preserved
enqueuing-preserved c = elim c.match-row.branch [
  | in-Some+in_ok-put_waiting+in_ok-push w ↦ record {
    left = rw (w.moves-is, w.rank-is)
        (one_enqueued c.args.moment c.enqueuing.rank c.args.tables.now.kept.rows c.args.due.now.items
        c.enqueuing.at _ _ c.enqueuing.moves.items _ _ c.ticket_at-ticket.ensures w.in-Some.ensures
        w.in_ok-put_waiting.ensures w.in_ok-push.ensures.ok
        ∙ c.enqueuing.invariant.left);
    room = rw w.moves-is (omega (arith, simp length-append at (ap length w.in_ok-push.ensures.ok)));
    ranks = omega arith;
  }
  | in_default w ↦ record {
    left = rw (w.moves-is, w.rank-is)
        (none_enqueued c.args.moment c.enqueuing.rank c.args.tables.now.kept.rows c.args.due.now.items
        c.enqueuing.at _ c.enqueuing.moves.items c.ticket_at-ticket.ensures w.in_default.ensures
        ∙ c.enqueuing.invariant.left);
    room = rw w.moves-is (omega arith);
    ranks = omega arith;
  }
]

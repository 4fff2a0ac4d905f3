use Rattle.std.proofs.Common.{ℕ, ◌<◌, refl, sym, arith}
use Rattle.std.proofs.lemmas.List.Elements.{All-nil}
use Rattle.fk_model.specs.Orders.{number_in}
use Rattle.fk_lists.specs.Room.{list_at}
use Rattle.fk_plan.specs.Arrivals.{arrivals}
use Rattle.fk_model.specs.Due.{rows_of}
use Rattle.fk_plan.proofs.Entering.{arrives, arrives_lower, none_listed, row_due}
use Rattle.fk_plan.proofs.arriving.arrivals.Goals as goal
use Rattle.fk_plan.proofs.arriving.arrivals.Goals.{in-Some+in_ok-arrive, in_default}

pub arriving-init : goal.arriving-init
arriving-init c = record {
  left = λ name. rw (c.new-queues.ensures, c.next-rank.ensures.value, none_listed name) refl;
  count = omega (arith, c.next-rank.ensures.value);
  lower = λ name. rw (c.new-queues.ensures, none_listed name)
      (All-nil (λ (pair : ℕ × ℕ). number_in pair < c.next-rank.result));
}

-- the row of each pair is there
pub arriving-preserved : goal.arriving-preserved
arriving-preserved c = elim c.match-row.branch [
  | in-Some+in_ok-arrive w ↦ rw (w.queues-is, w.rank-is) (record {
    left = λ name. arrives c.args.tables.now.kept.rows c.args.pairs.now.items c.arriving.at
        c.ticket_at-ticket.result c.arriving.rank w.in-Some.row.now name
        (list_at c.arriving.queues.items name) (list_at w.arrive.new.queues.items name)
        (arrivals name c.args.tables.now.kept.next
        (rows_of c.args.tables.now.kept.rows c.args.pairs.now.items))
        (sym c.ticket_at-ticket.ensures) w.in-Some.ensures (w.in_ok-arrive.ensures name)
        (c.arriving.invariant.left name);
    count = omega (arith, c.arriving.invariant.count);
    lower = λ name. arrives_lower name c.arriving.rank c.ticket_at-ticket.result w.in-Some.row.now
        (list_at c.arriving.queues.items name) (list_at w.arrive.new.queues.items name)
        (w.in_ok-arrive.ensures name) (c.arriving.invariant.lower name);
  })
  | in_default w ↦ absurd (row_due c.args.tables.now.kept c.args.moment c.arriving.at
      c.ticket_at-ticket.result c.requires.kept.by_ticket
      (rw c.requires.due at (sym c.ticket_at-ticket.ensures)) w.in_default.ensures)
]

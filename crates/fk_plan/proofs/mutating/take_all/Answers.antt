use Rattle.std.proofs.Common.{◌≡◌, ◌∙◌, sym, ap, length, true, false, arith}
use Rattle.std.specs.Option.{option_copied}
use Rattle.std.proofs.lemmas.List.{length-append}
use Rattle.fk_plan.specs.Choosing.{row_told}
use Rattle.fk_plan.specs.Taking.{takes}
use Rattle.fk_plan.proofs.RowsUp.{told_has_moments}
use Rattle.fk_plan.proofs.Mutated.{one_taken, none_taken, none_there, next_on}
use Rattle.fk_plan.proofs.mutating.take_all.Goals as goal
use Rattle.fk_plan.proofs.mutating.take_all.Goals.{in-Some+in_ok-takes+then-branch+in_ok-move_taken+in_ok-push, in-Some+in_ok-takes+else-branch, in_default}

pub takes-requires : goal.takes-requires
takes-requires c =
    rw c.move_of-step.ensures
    (told_has_moments c.args.tables.now.kept c.args.moves.now.items c.ticket_of-ticket.result c.in-Some.row.now
    c.requires.kept c.requires.moments c.in-Some.ensures)

pub taking-preserved : goal.taking-preserved
taking-preserved c = elim c.match-row.branch [
  | in-Some+in_ok-takes+then-branch+in_ok-move_taken+in_ok-push w ↦
      let test : true ≡ takes c.args.mutation.now.cmd c.args.mutation.now.filter
      (row_told (option_copied w.move_of-step.result) w.in-Some.row.now) =
      sym w.if-branch.true ∙ w.in_ok-takes.ensures in
      rw (w.made-is, w.numbers-is) (record {
        left = rw w.next_behind-numbers.ensures
            (one_taken c.args.mutation.now.cmd c.args.mutation.now.filter c.args.moment c.taking.numbers.next
            c.args.tables.now.kept.rows c.args.moves.now.items c.args.pairs.now c.taking.at
            c.ticket_of-ticket.result w.in-Some.row.now (option_copied w.move_of-step.result) c.taking.made.items
            _ _ c.ticket_of-ticket.ensures w.in-Some.ensures w.move_of-step.ensures test
            w.in_ok-move_taken.ensures w.in_ok-push.ensures.ok
            ∙ c.taking.invariant.left);
        next = next_on c.args.mutation.now.cmd c.args.numbers.now c.taking.numbers c.taking.made.items _ _ _
            c.taking.invariant.next w.next_behind-numbers.ensures w.in_ok-push.ensures.ok;
        few = omega (arith, simp length-append at (ap length w.in_ok-push.ensures.ok));
      })
  | in-Some+in_ok-takes+else-branch w ↦
      let test : false ≡ takes c.args.mutation.now.cmd c.args.mutation.now.filter
      (row_told (option_copied w.move_of-step.result) w.in-Some.row.now) =
      sym w.if-branch.false ∙ w.in_ok-takes.ensures in
      rw (w.made-is, w.numbers-is) (record {
        left = none_taken c.args.mutation.now.cmd c.args.mutation.now.filter c.args.moment c.taking.numbers.next
            c.args.tables.now.kept.rows c.args.moves.now.items c.args.pairs.now c.taking.at
            c.ticket_of-ticket.result w.in-Some.row.now (option_copied w.move_of-step.result) c.taking.made.items
            c.ticket_of-ticket.ensures w.in-Some.ensures w.move_of-step.ensures test
            ∙ c.taking.invariant.left;
        next = c.taking.invariant.next;
        few = omega arith;
      })
  | in_default w ↦ rw (w.made-is, w.numbers-is) (record {
    left = none_there c.args.mutation.now.cmd c.args.mutation.now.filter c.args.moment c.taking.numbers.next
        c.args.tables.now.kept.rows c.args.moves.now.items c.args.pairs.now c.taking.at
        c.ticket_of-ticket.result c.taking.made.items c.ticket_of-ticket.ensures w.in_default.ensures
        ∙ c.taking.invariant.left;
    next = c.taking.invariant.next;
    few = omega arith;
  })
]

use Rattle.std.proofs.Common.{arith, ap, sym, subst, suc, ◌≡◌, ◌≤◌, ◌∙◌, length}
use Rattle.std.proofs.lemmas.Grind.{common_steps}
use Rattle.fk_rows.specs.Chunks.{rows_of}
use Rattle.fk_rows.specs.Order.{AreRising}
use Rattle.fk_rows.proofs.Tabled.{rising_without, count_without, found_row, found_without, gap_row, gap_without}
use Rattle.fk_rows.proofs.rows.Rows.take.Goals as goal

pub overflow_sub-self : goal.overflow_sub-self
overflow_sub-self c =
    omega (arith, c.self.invariant.counted, count_without c.self.inside.held.chunks c.args.ticket c.in-Ok.spot c.self.invariant.rising c.in-Ok.ensures.found)

pub invariant_of-self : goal.invariant_of-self
invariant_of-self c =
    let chunks = c.self.inside.held.chunks in
    let fewer : length (rows_of c.self.inside.held.chunks) ≡ suc (length (rows_of c.give_back.new.self.chunks)) =
    count_without chunks c.args.ticket c.in-Ok.spot c.self.invariant.rising c.in-Ok.ensures.found ∙ ap (λ rows. suc (length rows)) (sym (ap rows_of c.give_back.ensures.same ∙ c.remove-taken.ensures.items)) in
    let room : length c.self.inside.boxes.items ≤ c.remove-taken.new.self.room = omega (arith, c.self.invariant.room, c.remove-taken.ensures.room) in
    record {
      rising = subst AreRising (sym (ap rows_of c.give_back.ensures.same ∙ c.remove-taken.ensures.items)) (rising_without chunks c.args.ticket c.in-Ok.spot c.self.invariant.rising c.in-Ok.ensures.found);
      counted = omega (arith, fewer, c.self.invariant.counted);
      room = grind (arith, common_steps, c.give_back.ensures.kept, room, c.len.ensures);
      small = omega (arith, c.self.invariant.small);
    }

pub returns-in-Ok-clause-value : goal.returns-in-Ok-clause-value
returns-in-Ok-clause-value c =
    rw (c.unboxed.ensures, c.remove-taken.ensures.value, ← c.self.view_is) (found_row c.self.inside.held.chunks c.args.ticket c.in-Ok.spot c.self.invariant.rising c.in-Ok.ensures.found)

pub returns-in-Ok-clause-items : goal.returns-in-Ok-clause-items
returns-in-Ok-clause-items c =
    rw (← c.self.view_is) (ap rows_of c.give_back.ensures.same ∙ c.remove-taken.ensures.items ∙ sym (found_without c.self.inside.held.chunks c.args.ticket c.in-Ok.spot c.self.invariant.rising c.in-Ok.ensures.found))

pub returns-in-Err-clause-value : goal.returns-in-Err-clause-value
returns-in-Err-clause-value c = rw (← c.self.view_is) (sym (gap_row c.self.inside.held.chunks c.args.ticket _ c.self.invariant.rising c.in-Err.ensures.absent))

pub returns-in-Err-clause-items : goal.returns-in-Err-clause-items
returns-in-Err-clause-items c = rw (← c.self.view_is) (sym (gap_without c.self.inside.held.chunks c.args.ticket _ c.self.invariant.rising c.in-Err.ensures.absent))

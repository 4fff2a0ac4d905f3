use Rattle.std.proofs.Common.{arith, ap, sym, subst, suc, ◌≡◌, ◌+◌, ◌∙◌, None, length}
use Rattle.std.proofs.lemmas.Grind.{common_steps}
use Rattle.fk_model.specs.Rows.{filed_at}
use Rattle.fk_rows.specs.Room.{Room}
use Rattle.fk_rows.specs.Chunks.{rows_of}
use Rattle.fk_rows.specs.Order.{AreRising}
use Rattle.fk_rows.proofs.Tabled.{rising_put, count_put, gap_with, found_present}
use Rattle.fk_rows.proofs.rows.Rows.put.Goals as goal

pub invariant_of-self : goal.invariant_of-self
invariant_of-self c =
    let chunks = c.self.inside.held.chunks in
    let row = c.set.new.self in
    let count : length (rows_of c.insert.new.self.chunks) ≡ suc (length (rows_of c.self.inside.held.chunks)) =
    ap length c.insert.ensures.items ∙ count_put chunks c.args.ticket c.in-Err.spot c.self.invariant.rising c.in-Err.ensures.absent row in
    let boxes : length c.self.inside.boxes.items ≡ length c.pop.new.self.items + 1 = ap length c.in-Some.ensures.items ∙ grind (arith, common_steps) in
    record {
      rising = subst AreRising (sym c.insert.ensures.items) (rising_put chunks c.args.ticket c.in-Err.spot c.self.invariant.rising c.in-Err.ensures.absent row);
      counted = omega (arith, count, c.self.invariant.counted);
      room = omega (arith, boxes, c.self.invariant.room, c.insert.ensures.room);
      small = omega (arith, boxes, c.self.invariant.small);
    }

pub returns-in-Some-clause-items : goal.returns-in-Some-clause-items
returns-in-Some-clause-items c =
    let chunks = c.self.inside.held.chunks in
    rw (← c.self.view_is) (c.insert.ensures.items ∙ rw c.set.ensures (sym (gap_with chunks c.args.ticket c.in-Err.spot c.self.invariant.rising c.in-Err.ensures.absent c.args.row)))

-- the ticket has no row
pub returns-in-Ok-clause-items : goal.returns-in-Ok-clause-items
returns-in-Ok-clause-items c =
    let none = subst (λ (seen : Room). filed_at seen.items c.args.ticket ≡ None) (sym c.self.view_is) c.requires.absent in
    absurd (found_present c.self.inside.held.chunks c.args.ticket _ c.self.invariant.rising c.in-Ok.ensures.found none)

pub returns-in-Ok-clause-spare : goal.returns-in-Ok-clause-spare
returns-in-Ok-clause-spare c =
    let none = subst (λ (seen : Room). filed_at seen.items c.args.ticket ≡ None) (sym c.self.view_is) c.requires.absent in
    absurd (found_present c.self.inside.held.chunks c.args.ticket _ c.self.invariant.rising c.in-Ok.ensures.found none)

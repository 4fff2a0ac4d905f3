use Rattle.std.proofs.Common.{arith, sym, subst, ◌≡◌, ◌∙◌, None}
use mathlib.Core.Bool.{false≢true}
use Rattle.fk_model.specs.Rows.{filed_at}
use Rattle.fk_model.specs.Changes.{put_row}
use Rattle.fk_rows.specs.Room.{Room}
use Rattle.fk_rows.specs.Order.{AreRising}
use Rattle.fk_rows.proofs.Tabled.{standing, rising_with, count_changed, found_changed, gap_filed}
use Rattle.fk_rows.proofs.rows.Rows.change.Goals as goal

pub invariant_of-self : goal.invariant_of-self
invariant_of-self c =
    let chunks = c.self.inside.held.chunks in
    let change = put_row c.args.enqueued c.args.failure c.args.place in
    let one = standing chunks c.args.ticket c.in-Ok.spot c.self.invariant.rising c.in-Ok.ensures.found in
    let is = rw one.is at c.change.ensures.items in
    record {
      rising = subst AreRising (sym is) (rising_with chunks c.args.ticket c.in-Ok.spot c.self.invariant.rising c.in-Ok.ensures.found change);
      counted = rw is (c.self.invariant.counted ∙ sym (count_changed chunks c.args.ticket c.in-Ok.spot c.self.invariant.rising c.in-Ok.ensures.found change));
      room = omega (arith, c.self.invariant.room, c.change.ensures.room);
      small = c.self.invariant.small;
    }

pub returns-in-Ok-clause-items : goal.returns-in-Ok-clause-items
returns-in-Ok-clause-items c =
    let chunks = c.self.inside.held.chunks in
    let change = put_row c.args.enqueued c.args.failure c.args.place in
    let one = standing chunks c.args.ticket c.in-Ok.spot c.self.invariant.rising c.in-Ok.ensures.found in
    let is = rw one.is at c.change.ensures.items in
    rw (← c.self.view_is) (is ∙ sym (found_changed chunks c.args.ticket c.in-Ok.spot c.self.invariant.rising c.in-Ok.ensures.found change))

-- the ticket has a row
pub returns-in-Err-clause-items : goal.returns-in-Err-clause-items
returns-in-Err-clause-items c =
    let none = subst (λ (seen : Room). filed_at seen.items c.args.ticket ≡ None) c.self.view_is (gap_filed c.self.inside.held.chunks c.args.ticket _ c.self.invariant.rising c.in-Err.ensures.absent) in
    absurd (false≢true (rw none at c.requires))

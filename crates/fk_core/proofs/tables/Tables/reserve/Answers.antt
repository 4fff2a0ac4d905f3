use Rattle.std.proofs.Common.{◌∙◌, ap, sym}
use Rattle.fk_core.specs.Held.{Held}
use Rattle.fk_core.proofs.MarksTogether.{tied_on, same_on, room_stays}
use Rattle.fk_core.proofs.tables.Tables.reserve.Goals as goal

pub invariant_of-self-2 : goal.invariant_of-self-2
invariant_of-self-2 c =
    rw (c.in_ok-reserve.ensures.same)
    (tied_on _ _ _ _ c.self.invariant (same_on _ _ _ c.unmark_all.ensures.same c.mark_all.ensures.same))

pub returns-clause-ready : goal.returns-clause-ready
returns-clause-ready c = λ reserved.
    c.mark_all.ensures.ready c.unmark_all.ensures.none
    (room_stays c.args.self.now c.reserve.new.self.items c.args.moves.now.items c.self.inside.index
    c.unmark_all.new.index
    (sym (ap (λ (held : Held). held.kept.rows) c.self.view_is) ∙ sym (c.in_ok-reserve.ensures.same))
    (sym (ap (λ (held : Held). held.room.queues) c.self.view_is))
    (sym (ap (λ (held : Held). held.room.leases) c.self.view_is))
    (sym (ap (λ (held : Held). held.room.sets) c.self.view_is)) c.unmark_all.ensures.kept reserved)

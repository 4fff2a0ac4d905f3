use Rattle.std.proofs.Common.{refl, ap, arith}
use Rattle.fk_lists.specs.Room.{Named, list_at}
use Rattle.fk_lists.proofs.Renewed.{rising_without}
use Rattle.fk_leases.proofs.ByJid.{one_less}
use Rattle.fk_leases.proofs.Rooms.{kept_room}
use Rattle.fk_leases.proofs.Standing.{absent_found, absent_left, taken_found, taken_left}
use Rattle.fk_leases.proofs.Together.{sound_without, still_sound}
use Rattle.fk_leases.proofs.leases.Leases.take.Goals as goal

pub returns-in-None-clause-found : goal.returns-in-None-clause-found
returns-in-None-clause-found c =
    rw (← c.self.view_is) (absent_found _ c.args.ticket c.args.until c.in-None.ensures.absent)

pub returns-in-None-clause-here : goal.returns-in-None-clause-here
returns-in-None-clause-here c =
    rw (← c.self.view_is)
    (absent_left _ _ c.args.ticket c.args.until c.in-None.ensures.absent
    (ap (λ (held : Named). list_at held c.args.jid.now) c.in-None.ensures.same))

pub returns-in-Some-clause-found : goal.returns-in-Some-clause-found
returns-in-Some-clause-found c =
    rw (← c.self.view_is) (taken_found _ c.args.ticket c.args.until c.in-Some.field-0 c.in-Some.ensures.taken)

pub returns-in-Some-clause-here : goal.returns-in-Some-clause-here
returns-in-Some-clause-here c =
    rw (← c.self.view_is)
    (taken_left _ _ c.args.ticket c.args.until c.in-Some.field-0 (c.self.invariant.by_ticket c.args.jid.now)
    c.in-Some.ensures.taken c.in-Some.ensures.here)

pub invariant_of-self : goal.invariant_of-self
invariant_of-self c =
    let sound = c.self.invariant in
    sound_without c.self.inside.lists c.take.new.self c.self.inside.ends c.leave.new.ends c.self.inside.room
    c.self.inside.room sound
    (kept_room c.args.jid.now _ _ c.take.ensures.others.spares _ (omega (arith, c.take.ensures.kept)) sound.room)
    (omega (arith, c.leave.ensures.spare, sound.spare)) (c.args.ticket, c.args.until)
    (rising_without c.args.jid.now c.in-Some.field-0 c.self.inside.lists.items c.take.new.self.items sound.by_ticket
    (record { here = c.in-Some.ensures.here; others = c.take.ensures.others.items }))
    c.take.ensures.named c.leave.ensures.rising
    (one_less c.args.jid.now (c.args.ticket, c.args.until) c.in-Some.field-0 _ _ sound.named c.take.ensures.named
    c.in-Some.ensures.taken c.in-Some.ensures.here c.take.ensures.others.items)
    c.leave.ensures.same

pub invariant_of-self-in-None : goal.invariant_of-self-in-None
invariant_of-self-in-None c =
    let sound = c.self.invariant in
    still_sound c.self.inside.lists c.take.new.self c.self.inside.ends c.self.inside.ends _ _ sound
    (kept_room c.args.jid.now _ _ c.take.ensures.others.spares _ (omega (arith, c.take.ensures.kept)) sound.room)
    sound.spare c.in-None.ensures.same refl

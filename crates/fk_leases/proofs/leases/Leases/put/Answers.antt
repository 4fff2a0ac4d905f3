use Rattle.std.proofs.Common.{◌-◌, arith}
use Rattle.fk_lists.proofs.Renewed.{rising_with}
use Rattle.fk_leases.proofs.ByJid.{no_end_there, one_more}
use Rattle.fk_leases.proofs.Leasing.{stands_nowhere, put_at_gap}
use Rattle.fk_leases.proofs.Rooms.{one_less_room, one_room}
use Rattle.fk_leases.proofs.Together.{sound_with}
use Rattle.fk_leases.proofs.leases.Leases.put.Goals as goal

pub overflow_sub-self : goal.overflow_sub-self
overflow_sub-self c =
    let some = rw (← c.self.view_is) at c.requires.room in
    omega (arith, one_room _ _ c.args.jid.now c.self.invariant.room, some)

pub enter-requires-clause-room : goal.enter-requires-clause-room
enter-requires-clause-room c =
    let some = rw (← c.self.view_is) at c.requires.room in
    omega (arith, one_room _ _ c.args.jid.now c.self.invariant.room, some, c.self.invariant.spare)

-- the end of a ticket that has no lease isn't there
pub enter-requires-clause-absent : goal.enter-requires-clause-absent
enter-requires-clause-absent c =
    no_end_there c.args.until c.args.ticket c.self.inside.ends.items c.self.inside.lists.items c.self.invariant.named
    (rw (← c.self.view_is) at c.requires.absent) c.self.invariant.same

pub invariant_of-self : goal.invariant_of-self
invariant_of-self c =
    let sound = c.self.invariant in
    let some = rw (← c.self.view_is) at c.requires.room in
    let within = one_room _ _ c.args.jid.now sound.room in
    sound_with c.self.inside.lists c.put.new.self c.self.inside.ends c.enter.new.ends c.self.inside.room
    (c.self.inside.room - 1) sound
    (one_less_room c.args.jid.now _ _ c.put.ensures.others.spares _ _ some c.in-Ok.ensures.spare
    (omega (arith, some, within)) sound.room)
    (omega (arith, some, within, sound.spare, c.enter.ensures.spare)) (c.args.ticket, c.args.until)
    (rising_with c.args.jid.now (c.args.ticket, c.args.until) c.in-Ok.field-0 c.self.inside.lists.items
    c.put.new.self.items sound.by_ticket c.in-Ok.ensures.gap
    (record { here = c.in-Ok.ensures.here; others = c.put.ensures.others.items }))
    c.put.ensures.named c.enter.ensures.rising
    (one_more c.args.jid.now (c.args.ticket, c.args.until) c.in-Ok.field-0 _ _ sound.named c.put.ensures.named
    c.in-Ok.ensures.here c.put.ensures.others.items) c.enter.ensures.same

pub returns-clause-here : goal.returns-clause-here
returns-clause-here c =
    rw (c.in-Ok.ensures.here, ← c.self.view_is)
    (put_at_gap (c.args.ticket, c.args.until) _ c.in-Ok.field-0 c.in-Ok.ensures.gap)

-- the ticket has no lease under this jid, as under any other
pub unreachable-requires : goal.unreachable-requires
unreachable-requires c =
    stands_nowhere _ c.args.ticket c.in_default.field-0 (c.requires.absent c.args.jid.now)
    (rw (← c.self.view_is) c.in_default.ensures.taken)

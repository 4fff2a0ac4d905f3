use Rattle.std.specs.Prelude.{◌<◌, All}
use Rattle.fk_model.specs.Orders.{number_in}
use Rattle.fk_lists.specs.Room.{list_at, spare_at}
use Rattle.fk_core.proofs.Owned.{in_own_queue, under_own_jid}
use Rattle.fk_core.proofs.index.Index.enter.Goals as goal

pub put-requires-clause-room : goal.put-requires-clause-room
put-requires-clause-room c =
    let may = rw (← c.self.view_is) at c.requires.may in
    in_own_queue c.args.ticket c.args.row.now c.in-Queued.rank
    (λ pair. 0 < spare_at c.self.inside.queues.spares c.args.row.now.job.queue) c.in-Queued.is
    (may.queue_room c.args.row.now.job.queue)

pub put-requires-clause-last : goal.put-requires-clause-last
put-requires-clause-last c =
    let may = rw (← c.self.view_is) at c.requires.may in
    in_own_queue c.args.ticket c.args.row.now c.in-Queued.rank
    (λ pair. All (λ other. number_in other < number_in pair)
    (list_at c.self.inside.queues.items c.args.row.now.job.queue)) c.in-Queued.is
    (may.last c.args.row.now.job.queue)

pub put-requires-in-Working-clause-room : goal.put-requires-in-Working-clause-room
put-requires-in-Working-clause-room c =
    let may = rw (← c.self.view_is) at c.requires.may in
    under_own_jid c.args.ticket c.args.row.now c.in-Working.wid c.in-Working.since c.in-Working.until
    (λ pair. 0 < spare_at c.self.inside.leases.spares c.args.row.now.job.jid) c.in-Working.is
    (may.lease_room c.args.row.now.job.jid)

pub put-requires-in-Working-clause-absent : goal.put-requires-in-Working-clause-absent
put-requires-in-Working-clause-absent c =
    let may = rw (← c.self.view_is) at c.requires.may in may.absent

pub enter-requires-clause-absent : goal.enter-requires-clause-absent
enter-requires-clause-absent c =
    let may = rw (← c.self.view_is) at c.requires.may in may.unset

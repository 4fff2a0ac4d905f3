use Rattle.fk_model.specs.declared.mutation.Target.TheVariants as target
use Rattle.fk_core.specs.Sets.{count_in, pairs_in}
use Rattle.fk_core.proofs.sets.Sets.enter.Goals as goal

pub put-requires-clause-room : goal.put-requires-clause-room
unfolding count_in
put-requires-clause-room c = rw (← c.self.view_is, c.in-Scheduled.is) at (c.requires.room target.Scheduled)

pub put-requires-clause-absent : goal.put-requires-clause-absent
unfolding pairs_in
put-requires-clause-absent c = rw (← c.self.view_is) at (c.requires.absent target.Scheduled)

pub put-requires-in-Retry-clause-room : goal.put-requires-in-Retry-clause-room
unfolding count_in
put-requires-in-Retry-clause-room c = rw (← c.self.view_is, c.in-Retry.is) at (c.requires.room target.Retries)

pub put-requires-in-Retry-clause-absent : goal.put-requires-in-Retry-clause-absent
unfolding pairs_in
put-requires-in-Retry-clause-absent c = rw (← c.self.view_is) at (c.requires.absent target.Retries)

pub put-requires-in-Dead-clause-room : goal.put-requires-in-Dead-clause-room
unfolding count_in
put-requires-in-Dead-clause-room c = rw (← c.self.view_is, c.in-Dead.is) at (c.requires.room target.Dead)

pub put-requires-in-Dead-clause-absent : goal.put-requires-in-Dead-clause-absent
unfolding pairs_in
put-requires-in-Dead-clause-absent c = rw (← c.self.view_is) at (c.requires.absent target.Dead)

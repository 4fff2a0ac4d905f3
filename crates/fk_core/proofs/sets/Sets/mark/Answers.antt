use Rattle.std.proofs.Common.{refl}
use Rattle.fk_model.specs.declared.mutation.Target.TheVariants as target
use Rattle.fk_core.specs.Sets.{count_in}
use Rattle.fk_core.proofs.sets.Sets.mark.Goals as goal

pub returns-in-Scheduled-clause-ready : goal.returns-in-Scheduled-clause-ready
unfolding count_in
returns-in-Scheduled-clause-ready c = λ free.
    c.mark.ensures.ready ((rw (← c.self.view_is, c.in-Scheduled.is) at free) target.Scheduled refl)

pub returns-in-Retry-clause-ready : goal.returns-in-Retry-clause-ready
unfolding count_in
returns-in-Retry-clause-ready c = λ free.
    c.mark-in-Retry.ensures.ready ((rw (← c.self.view_is, c.in-Retry.is) at free) target.Retries refl)

pub returns-in-Dead-clause-ready : goal.returns-in-Dead-clause-ready
unfolding count_in
returns-in-Dead-clause-ready c = λ free.
    c.mark-in-Dead.ensures.ready ((rw (← c.self.view_is, c.in-Dead.is) at free) target.Dead refl)

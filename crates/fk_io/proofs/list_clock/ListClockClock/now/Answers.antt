use Rattle.std.proofs.Common.{◌<◌}
use Rattle.fk_time.specs.Moments.{greatest}
use Rattle.fk_io.proofs.Rest.{all_of_rest}
use Rattle.fk_io.proofs.list_clock.ListClockClock.now.Goals as goal

pub invariant_of-self : goal.invariant_of-self
invariant_of-self c =
    rw c.next.ensures.rest
    (all_of_rest (λ moment. moment < greatest) c.self.inside.told c.self.invariant)

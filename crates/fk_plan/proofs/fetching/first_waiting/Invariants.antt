use Rattle.std.proofs.Common.{◌≡◌, ℕ, drop}
use Rattle.fk_model.specs.Orders.{first_waiting}
use Rattle.fk_model.specs.Bringing.{brought_up}
use Rattle.fk_plan.proofs.fetching.first_waiting.Given as goal

-- no row waits in the queues before this one
abbrev pub invariant-looking : goal.invariant-looking
invariant-looking l = (word : ℕ)
    → first_waiting (brought_up l.tables.kept l.moment word) (drop l.queue-index l.queue-items)
    ≡ first_waiting (brought_up l.tables.kept l.moment word) l.queues

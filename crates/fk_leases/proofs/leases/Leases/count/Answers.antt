use Rattle.fk_leases.proofs.FirstAndDue.{counted}
use Rattle.fk_leases.proofs.leases.Leases.count.Goals as goal

pub returns-clause-count : goal.returns-clause-count
returns-clause-count c =
    rw (← c.self.view_is)
    (counted _ _ c.self.inside.lists.items c.self.invariant.same c.count.ensures c.count.type_inv)

use Rattle.std.proofs.Common.{◌∙◌}
use Rattle.fk_leases.proofs.FirstAndDue.{first_end}
use Rattle.fk_leases.proofs.leases.Leases.first.Goals as goal

pub returns-clause-until : goal.returns-clause-until
returns-clause-until c =
    rw (← c.self.view_is)
    (c.first_moment.ensures ∙ first_end _ c.self.inside.lists.items c.self.invariant.rising c.self.invariant.same)

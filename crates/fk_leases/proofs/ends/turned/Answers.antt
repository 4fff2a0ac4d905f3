use Rattle.fk_leases.proofs.FirstAndDue.{turned_more}
use Rattle.fk_leases.proofs.ends.turned.Goals as goal

pub turning-preserved : goal.turning-preserved
turning-preserved c =
    rw (c.push.ensures.items, c.in_ok-push.was) (turned_more _ _ _ _ c.turning.invariant c.lease_at.ensures.lease)

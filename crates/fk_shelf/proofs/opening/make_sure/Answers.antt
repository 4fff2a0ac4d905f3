use Rattle.fk_shelf.proofs.Opened.{stand_a, stand_b, stand_then}
use Rattle.fk_shelf.proofs.opening.make_sure.Goals as goal

pub returns-clause-crash : goal.returns-clause-crash
returns-clause-crash g c =
    stand_then _ _ _ (stand_a _ _ _ _ _ _ c.sync.ensures.since) (stand_b _ _ _ _ _ _ c.sync-2.ensures.since)

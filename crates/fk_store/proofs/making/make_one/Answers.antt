use Rattle.fk_store.proofs.UnderWay.{alone_fits}
use Rattle.fk_store.proofs.making.make_one.Goals as goal

-- the list is the move alone, which fits
pub apply-requires-clause-fit : goal.apply-requires-clause-fit
apply-requires-clause-fit c =
    alone_fits _ _ _ _ _ c.requires.empty c.in_ok-push.ensures.ok c.reserve.ensures.same
    (c.fits.ensures.0 c.if-not-fits.false)

use Rattle.std.proofs.lemmas.Bool.{false≢true}
use Rattle.fk_store.proofs.Enough.{drop_framed, drop_reserved, fit_spelled}
use Rattle.fk_store.proofs.spelling.prepare.Goals as goal

pub returns-in_err-reserve-clause-ready : goal.returns-in_err-reserve-clause-ready
returns-in_err-reserve-clause-ready c =
    λ one. absurd (false≢true (c.in_err-reserve.ensures.ready (drop_reserved _ _ one)))

pub spell-requires : goal.spell-requires
spell-requires c = fit_spelled _ _ c.requires.fit

pub returns-clause-ready : goal.returns-clause-ready
returns-clause-ready c = λ one. c.spell.ensures.ready (drop_framed _ _ one c.requires.room.framed_)

use Rattle.std.proofs.Common.{Err, ap, ◌∙◌}
use Rattle.fk_shelf.proofs.shelf.Shelf.open.Goals as goal

-- the damage is that of the refused preparation
pub returns-in-Err-clause-damaged : goal.returns-in-Err-clause-damaged
returns-in-Err-clause-damaged g c = λ tells tells_b damage is.
    c.prepare.ensures.damaged tells tells_b damage (c.in-Err.is ∙ ap Err is)

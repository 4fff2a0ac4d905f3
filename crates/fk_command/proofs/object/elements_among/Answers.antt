use Rattle.fk_command.proofs.Elements.{elements_found}
use Rattle.fk_command.proofs.object.elements_among.Goals as goal

pub returns-in-Some : goal.returns-in-Some
returns-in-Some c = rw c.deref.ensures.value (elements_found _ _ c.in-Some.ensures)

use Rattle.fk_json.proofs.Parts.{takes_unit}
use Rattle.fk_json.proofs.piece.unit_at.Goals as goal

pub returns-in-Some : goal.returns-in-Some
returns-in-Some c = takes_unit _ _ c.in-len4-up.len_at_least c.in-Some.ensures

use Rattle.fk_json.proofs.Parts.{takes_letter}
use Rattle.fk_json.proofs.piece.escape_at.Goals as goal

pub returns-in-Some : goal.returns-in-Some
returns-in-Some c = takes_letter _ _ c.in-len1-up.len_at_least c.in-Some.ensures

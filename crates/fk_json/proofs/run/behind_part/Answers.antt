use Rattle.fk_json.proofs.Passing.{passes_plain}
use Rattle.fk_json.proofs.run.behind_part.Goals as goal

pub returns-in-Inside : goal.returns-in-Inside
returns-in-Inside c = passes_plain _ _ _ _ c.in-Inside.is c.requires c.plain_end.ensures

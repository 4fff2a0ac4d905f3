use Rattle.fk_json.proofs.Passing.{passes_digits}
use Rattle.fk_json.proofs.run.behind_digits.Goals as goal

pub returns-in-Whole : goal.returns-in-Whole
returns-in-Whole c = passes_digits _ _ _ _ c.in-Whole.is c.requires c.digits_end.ensures

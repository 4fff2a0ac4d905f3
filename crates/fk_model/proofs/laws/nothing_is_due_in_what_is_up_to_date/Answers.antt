use Rattle.fk_model.proofs.UpToDate.{up_to_date}
use Rattle.fk_model.proofs.laws.nothing_is_due_in_what_is_up_to_date.Goals as goal

pub returns : goal.returns
returns c = up_to_date

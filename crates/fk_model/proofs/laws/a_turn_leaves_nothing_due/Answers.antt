use Rattle.fk_model.proofs.NothingDue.{turn_leaves_none}
use Rattle.fk_model.proofs.laws.a_turn_leaves_nothing_due.Goals as goal

pub returns : goal.returns
returns c = turn_leaves_none

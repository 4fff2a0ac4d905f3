use Rattle.fk_model.proofs.Histories.{legal_goes_on}
use Rattle.fk_model.proofs.laws.a_history_goes_on.Goals as goal

pub returns-clause-legal : goal.returns-clause-legal
returns-clause-legal c = legal_goes_on

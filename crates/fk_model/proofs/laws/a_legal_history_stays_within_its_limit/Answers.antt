use Rattle.fk_model.proofs.BetweenTurns.{beginnings_within, new_within}
use Rattle.fk_model.proofs.laws.a_legal_history_stays_within_its_limit.Goals as goal

pub returns-clause-new : goal.returns-clause-new
returns-clause-new c = new_within

pub returns-clause-within : goal.returns-clause-within
returns-clause-within c = beginnings_within

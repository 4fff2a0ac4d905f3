use Rattle.fk_model.proofs.BetweenTurns.{beginnings_keep, empty_between}
use Rattle.fk_model.proofs.laws.a_legal_history_keeps_what_holds_between_turns.Goals as goal

pub returns-clause-begins : goal.returns-clause-begins
returns-clause-begins c = empty_between

pub returns-clause-keeps : goal.returns-clause-keeps
returns-clause-keeps c = beginnings_keep

use Rattle.fk_lives.proofs.AsWithout.{states_agree, fronts_keep, fronts_within}
use Rattle.fk_lives.proofs.laws.lives.a_history_on_disk_is_a_history.Goals as goal

pub returns-clause-states : goal.returns-clause-states
returns-clause-states c = states_agree

pub returns-clause-keeps : goal.returns-clause-keeps
returns-clause-keeps c = fronts_keep

pub returns-clause-within : goal.returns-clause-within
returns-clause-within c = fronts_within

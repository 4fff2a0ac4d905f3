use Rattle.fk_lives.proofs.OneState.{one_state, one_number, one_size}
use Rattle.fk_lives.proofs.laws.files.files_stand_for_one_state.Goals as goal

pub returns-clause-kept : goal.returns-clause-kept
returns-clause-kept c = one_state

pub returns-clause-number : goal.returns-clause-number
returns-clause-number c = one_number

pub returns-clause-size : goal.returns-clause-size
returns-clause-size c = one_size

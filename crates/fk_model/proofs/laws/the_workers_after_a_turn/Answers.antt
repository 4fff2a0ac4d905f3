use Rattle.fk_model.proofs.Turning.{turn_workers}
use Rattle.fk_model.proofs.laws.the_workers_after_a_turn.Goals as goal

pub returns : goal.returns
returns c = turn_workers

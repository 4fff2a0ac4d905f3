use Rattle.fk_model.proofs.AddedPushes.{pushes_stand}
use Rattle.fk_model.proofs.StandingPushes.{rows_stand}
use Rattle.fk_model.proofs.laws.push_stands.Goals as goal

pub returns-clause-pushed : goal.returns-clause-pushed
returns-clause-pushed c = pushes_stand

pub returns-clause-held : goal.returns-clause-held
returns-clause-held c = rows_stand

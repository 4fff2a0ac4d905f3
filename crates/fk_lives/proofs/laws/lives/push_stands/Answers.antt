use Rattle.fk_lives.proofs.LivePushes.{life_pushes_stand, life_rows_stand}
use Rattle.fk_lives.proofs.laws.lives.push_stands.Goals as goal

pub returns-clause-pushed : goal.returns-clause-pushed
returns-clause-pushed c = life_pushes_stand

pub returns-clause-held : goal.returns-clause-held
returns-clause-held c kept runs ticket row well within life at = life_rows_stand kept runs ticket row well life at

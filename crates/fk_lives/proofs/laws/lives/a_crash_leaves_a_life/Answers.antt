use Rattle.fk_lives.proofs.AfterCrash.{in_doubt, on_its_way}
use Rattle.fk_lives.proofs.laws.lives.a_crash_leaves_a_life.Goals as goal

pub returns-clause-doubt : goal.returns-clause-doubt
returns-clause-doubt c = in_doubt

pub returns-clause-turn : goal.returns-clause-turn
returns-clause-turn c = on_its_way

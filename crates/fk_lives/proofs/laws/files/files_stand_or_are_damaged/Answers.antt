use Rattle.fk_lives.proofs.OneDamage.{sound, one_damage}
use Rattle.fk_lives.proofs.StandOrNot.{stand_or_are_damaged}
use Rattle.fk_lives.proofs.laws.files.files_stand_or_are_damaged.Goals as goal

pub returns-clause-some : goal.returns-clause-some
returns-clause-some c = stand_or_are_damaged

pub returns-clause-sound : goal.returns-clause-sound
returns-clause-sound c = sound

pub returns-clause-one : goal.returns-clause-one
returns-clause-one c = one_damage

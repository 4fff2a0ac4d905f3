use Rattle.fk_lives.proofs.WellKept.{stands_within}
use Rattle.fk_lives.proofs.laws.files.what_files_stand_for_is_well_kept.Goals as goal

pub returns-clause-kept : goal.returns-clause-kept
returns-clause-kept c a b kept stands = (stands_within a b kept stands).well

pub returns-clause-within : goal.returns-clause-within
returns-clause-within c a b kept stands = (stands_within a b kept stands).within

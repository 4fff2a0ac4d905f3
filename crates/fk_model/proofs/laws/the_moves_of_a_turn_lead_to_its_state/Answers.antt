use Rattle.fk_model.proofs.Turning.{turn_comes, turn_stays, turn_ends, turn_leads}
use Rattle.fk_model.proofs.laws.the_moves_of_a_turn_lead_to_its_state.Goals as goal

pub returns-clause-come : goal.returns-clause-come
returns-clause-come c s ask moment word ready = turn_comes s ask moment word ready.kept

pub returns-clause-stays : goal.returns-clause-stays
returns-clause-stays c s ask moment word ready = turn_stays s ask moment word ready.kept

pub returns-clause-ends : goal.returns-clause-ends
returns-clause-ends c s ask moment word ready = turn_ends s ask moment word ready.kept

pub returns-clause-lead : goal.returns-clause-lead
returns-clause-lead c s ask moment word ready = turn_leads s ask moment word ready.kept

use Rattle.fk_model.proofs.Turning.{turn_keeps}
use Rattle.fk_model.proofs.laws.a_turn_keeps_what_holds_between_turns.Goals as goal

pub returns : goal.returns
returns c = turn_keeps

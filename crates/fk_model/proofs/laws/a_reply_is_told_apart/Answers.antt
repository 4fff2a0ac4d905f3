use Rattle.fk_model.proofs.OwnApart.{a_script}
use Rattle.fk_model.proofs.ToldApart.{a_turn}
use Rattle.fk_model.proofs.laws.a_reply_is_told_apart.Goals as goal

pub returns-clause-said : goal.returns-clause-said
returns-clause-said c = a_turn

pub returns-clause-own : goal.returns-clause-own
returns-clause-own c = a_script

use Rattle.fk_model.proofs.OneTicket.{added_once, all_from, added_alone, never_falls}
use Rattle.fk_model.proofs.laws.ticket_once.Goals as goal

pub returns-clause-once : goal.returns-clause-once
returns-clause-once c s n entries ready legal = added_once s entries

pub returns-clause-new : goal.returns-clause-new
returns-clause-new c s n entries ready legal = all_from s entries

pub returns-clause-alone : goal.returns-clause-alone
returns-clause-alone c = added_alone

pub returns-clause-rises : goal.returns-clause-rises
returns-clause-rises c s n front back legal = never_falls s front back

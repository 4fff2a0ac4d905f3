use Rattle.fk_lives.proofs.BroughtRows.{life_rows_brought}
use Rattle.fk_lives.proofs.LiveTickets.{life_adds_once, life_rises}
use Rattle.fk_lives.proofs.laws.lives.ticket_once.Goals as goal

pub returns-clause-once : goal.returns-clause-once
returns-clause-once c = life_adds_once

pub returns-clause-alone : goal.returns-clause-alone
returns-clause-alone c = life_rows_brought

pub returns-clause-rises : goal.returns-clause-rises
returns-clause-rises c = life_rises

use Rattle.fk_model.proofs.GivenRows.{reservations_stand}
use Rattle.fk_model.proofs.Reservations.{reservations_over}
use Rattle.fk_model.proofs.OnlyGiven.{rows_free, rows_alone}
use Rattle.fk_model.proofs.laws.reservation_ends.Goals as goal

pub returns-clause-stands : goal.returns-clause-stands
returns-clause-stands c = reservations_stand

pub returns-clause-over : goal.returns-clause-over
returns-clause-over c = reservations_over

pub returns-clause-free : goal.returns-clause-free
returns-clause-free c = rows_free

pub returns-clause-alone : goal.returns-clause-alone
returns-clause-alone c = rows_alone

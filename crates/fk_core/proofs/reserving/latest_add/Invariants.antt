use Rattle.fk_core.proofs.KnownRows.{StaysFrom}
use Rattle.fk_core.proofs.reserving.latest_add.Given as goal

-- no move from the place that is reached up to the last adds a row under the ticket
abbrev pub invariant-looking : goal.invariant-looking
invariant-looking l = StaysFrom l.moves.items l.left l.at l.ticket

abbrev pub decreases-looking : goal.decreases-looking
decreases-looking l = l.left

use Rattle.fk_core.proofs.MovesInTurn.{HasMade}
use Rattle.fk_core.proofs.tables.Tables.apply.Given as goal

-- the moves before this place were made, and the others are left
abbrev pub invariant-making : goal.invariant-making
invariant-making l = HasMade l.fn.moves l.moves l.at l.fn.self l.self

use Rattle.std.proofs.Common.{length}
use Rattle.fk_moves.proofs.ListLaws.{Read}
use Rattle.fk_moves.proofs.reading.read_moves.Given as goal

-- the moves so far are spelled, and the rest is left
abbrev pub invariant-loop-rest : goal.invariant-loop-rest
invariant-loop-rest l = Read l.bytes l.moves.items l.rest

abbrev pub decreases-loop-rest : goal.decreases-loop-rest
decreases-loop-rest l = length l.rest

use Rattle.std.proofs.Common.{take}
use Rattle.fk_moves.specs.Spelling.{moves_bytes}
use Rattle.fk_moves.specs.Writing.{Put}
use Rattle.fk_moves.proofs.writing.put_moves.Given as goal

-- the moves so far
abbrev pub invariant-loop-step : goal.invariant-loop-step
invariant-loop-step l = Put (moves_bytes (take l.step-index l.moves)) l.fn.out l.out

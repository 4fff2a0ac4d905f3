use Rattle.std.proofs.Common.{◌≡◌, length, take}
use Rattle.fk_moves.specs.Spelling.{moves_bytes}
use Rattle.fk_moves.specs.Writing.{told}
use Rattle.fk_moves.proofs.length.moves_length.Given as goal

-- the length of the moves so far
abbrev pub invariant-loop-step : goal.invariant-loop-step
invariant-loop-step l = l.length ≡ told (length (moves_bytes (take l.step-index l.moves.items)))

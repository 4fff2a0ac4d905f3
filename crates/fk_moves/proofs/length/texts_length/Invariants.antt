use Rattle.std.proofs.Common.{◌≡◌, length, take}
use Rattle.fk_moves.specs.Spelling.{texts_bytes}
use Rattle.fk_moves.specs.Writing.{told}
use Rattle.fk_moves.proofs.length.texts_length.Given as goal

-- the length of the texts so far
abbrev pub invariant-loop-text : goal.invariant-loop-text
invariant-loop-text l = l.length ≡ told (length (texts_bytes (take l.text-index l.texts)))

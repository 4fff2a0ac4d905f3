use Rattle.std.proofs.Common.{take}
use Rattle.std.specs.List.{flat_map}
use Rattle.fk_moves.specs.Spelling.{text_bytes}
use Rattle.fk_moves.specs.Writing.{Put}
use Rattle.fk_moves.proofs.putting.put_each.Given as goal

-- the texts so far
abbrev pub invariant-loop-text : goal.invariant-loop-text
invariant-loop-text l = Put (flat_map text_bytes (take l.text-index l.texts)) l.fn.out l.out

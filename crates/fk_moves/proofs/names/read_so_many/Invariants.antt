use Rattle.std.proofs.Common.{◌≡◌, ◌-◌}
use Rattle.fk_moves.specs.Fields.{times}
use Rattle.fk_moves.specs.Parts.{text}
use Rattle.fk_moves.proofs.Repeated.{with_front}
use Rattle.fk_moves.proofs.names.read_so_many.Given as goal

-- the texts so far, and those of the bytes that are left, are all
abbrev pub invariant-loop : goal.invariant-loop
invariant-loop l = with_front l.texts ((times text (l.count - l.counter)).read l.rest) ≡ (times text l.count).read l.bytes

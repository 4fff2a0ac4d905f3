use Rattle.std.proofs.Common.{sym, arith}
use Rattle.fk_core.proofs.MovesInTurn.{some_there, next_fits, next_room, one_made}
use Rattle.fk_core.proofs.tables.Tables.apply.Goals.{in-Some, in_default}
use Rattle.fk_core.proofs.tables.Tables.apply.Goals as goal

pub make-requires-clause-fits : goal.make-requires-clause-fits
make-requires-clause-fits c = next_fits _ _ _ _ _ _ c.making.invariant c.in-Some.ensures.value

pub make-requires-clause-room : goal.make-requires-clause-room
make-requires-clause-room c =
    next_room _ _ _ _ _ _ c.making.invariant c.in-Some.ensures.value c.requires.room

pub making-preserved : goal.making-preserved
making-preserved c = elim c.match-replace.branch [
  | in-Some w ↦
      rw w.self-is
      (one_made _ _ c.replace.new.self _ _ _ _ _ _ c.making.invariant w.in-Some.ensures.value
      c.replace.ensures.items c.replace.ensures.kept w.make.ensures)
  | in_default w ↦
      absurd (some_there c.making.moves.items c.making.at (omega arith) (sym w.in_default.ensures.value))
]

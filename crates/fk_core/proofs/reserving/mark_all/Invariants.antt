use Rattle.std.proofs.Common.{take}
use Rattle.fk_core.specs.Marks.{FindsTheSame}
use Rattle.fk_core.specs.Marked.{AreMarked, KeepsRoom}
use Rattle.fk_core.proofs.reserving.mark_all.Given as goal

-- the rows that the moves so far put somewhere are marked
abbrev pub invariant-marking : goal.invariant-marking
invariant-marking l = record {
  marked : AreMarked l.rows.items (take l.at l.moves.items) l.initial.index l.index;
  kept : KeepsRoom l.initial.index l.index;
  same : FindsTheSame l.initial.index l.index;
}

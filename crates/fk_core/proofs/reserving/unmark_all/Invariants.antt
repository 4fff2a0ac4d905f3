use Rattle.std.proofs.Common.{take}
use Rattle.fk_core.specs.Marks.{FindsTheSame}
use Rattle.fk_core.specs.Marked.{KeepsRoom, NoneMarked}
use Rattle.fk_core.proofs.reserving.unmark_all.Given as goal

-- nothing is marked where the moves so far put rows
abbrev pub invariant-unmarking : goal.invariant-unmarking
invariant-unmarking l = record {
  none : NoneMarked l.rows.items (take l.at l.moves.items) l.index;
  kept : KeepsRoom l.initial.index l.index;
  same : FindsTheSame l.initial.index l.index;
}

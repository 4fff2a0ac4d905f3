use Rattle.std.proofs.Common.{◌≡◌, ◌++◌, ◌+◌, ◌≤◌, length}
use Rattle.std.specs.Vec.Iter.{into_iter_items}
use Rattle.fk_model.specs.Due.{over}
use Rattle.fk_model.specs.Bringing.{moves_of_forgotten}
use Rattle.fk_plan.proofs.DueMoves.{drops}
use Rattle.fk_plan.proofs.forgetting.forget.Given as goal

-- those that are there, and those of the pairs that are left, are all; no room is lost
abbrev pub invariant-forgetting : goal.invariant-forgetting
invariant-forgetting l = record {
  left : l.moves.items ++ drops (into_iter_items l.ticket-iterator)
      ≡ l.fn.moves.items ++ moves_of_forgotten (over l.tables.kept l.moment);
  room : l.fn.moves.spare + length l.fn.moves.items ≤ length l.moves.items + l.moves.spare;
}

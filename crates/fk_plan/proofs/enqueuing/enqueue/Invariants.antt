use Rattle.std.proofs.Common.{◌≡◌, ◌++◌, ◌+◌, ◌≤◌, drop, length}
use Rattle.fk_model.specs.Due.{rows_of}
use Rattle.fk_model.specs.Bringing.{moves_of_enqueued}
use Rattle.fk_plan.proofs.enqueuing.enqueue.Given as goal

-- those that are there, and those of the pairs that are left, are all; no room is lost; there are no more
-- ranks than pairs
abbrev pub invariant-enqueuing : goal.invariant-enqueuing
invariant-enqueuing l = record {
  left : l.moves.items
      ++ moves_of_enqueued l.moment l.rank (rows_of l.tables.kept.rows (drop l.at l.due.items))
      ≡ l.fn.moves.items ++ moves_of_enqueued l.moment l.next (rows_of l.tables.kept.rows l.due.items);
  room : l.fn.moves.spare + length l.fn.moves.items ≤ length l.moves.items + l.moves.spare;
  ranks : l.rank ≤ l.next + l.at;
}

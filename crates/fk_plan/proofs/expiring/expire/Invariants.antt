use Rattle.std.proofs.Common.{◌≡◌, ◌++◌, ◌+◌, ◌≤◌, length}
use Rattle.std.specs.Vec.Iter.{into_iter_items}
use Rattle.fk_model.specs.Due.{expired}
use Rattle.fk_model.specs.Failing.{expiry}
use Rattle.fk_model.specs.Bringing.{moves_of_failed}
use Rattle.fk_plan.proofs.DueMoves.{rows_leased}
use Rattle.fk_plan.proofs.expiring.expire.Given as goal

-- those that are there, and those of the leases that are left, are all; no room is lost
abbrev pub invariant-failing : goal.invariant-failing
invariant-failing l = record {
  left : l.moves.items
      ++ moves_of_failed expiry l.moment l.word
      (rows_leased l.tables.kept.rows (into_iter_items l.ticket-iterator))
      ≡ l.fn.moves.items ++ moves_of_failed expiry l.moment l.word (expired l.tables.kept l.moment);
  room : l.fn.moves.spare + length l.fn.moves.items ≤ length l.moves.items + l.moves.spare;
}

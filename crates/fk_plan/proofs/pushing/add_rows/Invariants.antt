use Rattle.std.proofs.Common.{◌≡◌, ◌+◌, ◌≤◌, ◌++◌, length}
use Rattle.std.specs.Vec.Iter.{into_iter_items, into_iter_len}
use Rattle.fk_model.specs.Turns.{moves_of_push}
use Rattle.fk_plan.proofs.pushing.add_rows.Given as goal

-- those that are there, and those of the jobs that are left, are all; no room is lost
abbrev pub invariant-adding : goal.invariant-adding
invariant-adding l = record {
  left : l.moves.items ++ moves_of_push l.moment l.numbers.next (into_iter_items l.job-iterator)
      ≡ l.fn.moves.items ++ moves_of_push l.moment l.fn.numbers.next l.fn.jobs.items;
  room : l.fn.moves.spare + length l.fn.moves.items ≤ length l.moves.items + l.moves.spare;
  next : l.numbers.next + length (into_iter_items l.job-iterator)
      ≡ l.fn.numbers.next + length l.fn.jobs.items;
  others : l.numbers ≡ record l.fn.numbers { next = l.numbers.next };
  count : into_iter_len l.job-iterator ≡ length (into_iter_items l.job-iterator);
}

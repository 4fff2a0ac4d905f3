use Rattle.std.proofs.Common.{◌≡◌, ◌++◌, ◌≤◌, drop, length}
use Rattle.fk_model.specs.Mutated.{moves_of_mutated}
use Rattle.fk_plan.specs.Choosing.{rows_told}
use Rattle.fk_plan.specs.Taking.{next_behind, taken_of}
use Rattle.fk_plan.proofs.mutating.take_all.Given as goal

-- those that are there, and those of the rows that are left, are all; the next number is the one behind those that
-- are there; there are no more of them than pairs
abbrev pub invariant-taking : goal.invariant-taking
invariant-taking l = record {
  left : l.made.items
      ++ moves_of_mutated l.mutation.cmd l.moment l.numbers.next
      (taken_of l.mutation.cmd l.mutation.filter (rows_told l.tables.kept.rows l.moves.items (drop l.at l.pairs)))
      ≡ moves_of_mutated l.mutation.cmd l.moment l.fn.numbers.next
      (taken_of l.mutation.cmd l.mutation.filter (rows_told l.tables.kept.rows l.moves.items l.pairs));
  next : l.numbers
      ≡ record l.fn.numbers { next = next_behind l.mutation.cmd l.fn.numbers.next (length l.made.items) };
  few : length l.made.items ≤ l.at;
}

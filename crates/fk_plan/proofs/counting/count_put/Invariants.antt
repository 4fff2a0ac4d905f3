use Rattle.std.proofs.Common.{◌≡◌, ◌≤◌, take}
use Rattle.fk_plan.specs.Tallies.{count_put}
use Rattle.fk_plan.proofs.counting.count_put.Given as goal

-- those so far, which are no more than the moves that were looked at
abbrev pub invariant-counting : goal.invariant-counting
invariant-counting l = record {
  done : l.count ≡ count_put l.target (take l.at l.moves.items);
  few : l.count ≤ l.at;
}

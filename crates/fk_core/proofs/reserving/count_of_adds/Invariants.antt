use Rattle.std.proofs.Common.{◌≡◌, ◌≤◌, count_by, take}
use Rattle.fk_core.specs.Reserved.{is_add}
use Rattle.fk_core.proofs.reserving.count_of_adds.Given as goal

-- the new rows among the moves so far
abbrev pub invariant-counting : goal.invariant-counting
invariant-counting l = record {
  counted : l.count ≡ count_by is_add (take l.at l.moves.items);
  bounded : l.count ≤ l.at;
}

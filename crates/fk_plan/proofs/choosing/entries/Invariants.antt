use Rattle.std.proofs.Common.{◌≡◌, ◌++◌, drop}
use Rattle.fk_plan.specs.Choosing.{fresh}
use Rattle.fk_plan.proofs.choosing.entries.Given as goal

-- those that are there, and those of the moves that are left, are all
abbrev pub invariant-entering : goal.invariant-entering
invariant-entering l =
    l.entries.items ++ fresh l.target (drop l.at l.moves.items) ≡ fresh l.target l.moves.items

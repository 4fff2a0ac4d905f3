use Rattle.std.proofs.Common.{◌≡◌, ◌++◌, drop}
use Rattle.fk_plan.specs.Choosing.{beyond}
use Rattle.fk_plan.proofs.choosing.later.Given as goal

-- those that are there, and those of the pairs that are left, are all
abbrev pub invariant-passing : goal.invariant-passing
invariant-passing l =
    l.later.items ++ beyond l.moment (drop l.at l.pairs.items) ≡ beyond l.moment l.pairs.items

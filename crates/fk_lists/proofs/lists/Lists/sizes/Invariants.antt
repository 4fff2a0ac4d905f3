use Rattle.std.proofs.Common.{◌≡◌, ◌++◌}
use Rattle.fk_lists.specs.PairLists.{items_of}
use Rattle.fk_lists.specs.Sizes.{sizes_of}
use Rattle.fk_lists.proofs.lists.Lists.sizes.Given as goal

-- the sizes so far and those of the names that are left are all
abbrev pub invariant-naming : goal.invariant-naming
invariant-naming l = l.sizes ++ sizes_of (items_of l.name-iterator) ≡ sizes_of (items_of l.initial.name-iterator)

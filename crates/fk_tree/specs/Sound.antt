-- What holds of a tree, its count and its spare nodes.
use Rattle.std.specs.Prelude.{◌≡◌, ℕ, ◌+◌, ◌^◌, ◌<◌, length}
use Rattle.fk_tree.specs.Shape.{Shape, IsFull}
use Rattle.fk_tree.specs.Order.{IsRising}

-- the pairs are in order and counted, and there is room in the count for all spare nodes
pub record IsSound (root : Shape) (count spare : ℕ) : Type 0 where
  pub rising : IsRising root.pairs
  pub counted : count ≡ length root.pairs
  pub room : count + spare < 2 ^ 64
  pub full : IsFull root

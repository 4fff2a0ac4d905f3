-- The sizes of the queues.
use Rattle.std.specs.Prelude.{ℕ, ◌≡◌, ◌≢◌, ◌<◌, List, [], length, map, All, AllPairs, Contains}
use Rattle.std.specs.Ordering.{nat_cmp}
use Rattle.std.specs.Cmp.Lexicographic.{slice_cmp}
use Rattle.std.specs.declared.cmp.Ordering.TheVariants as ordering
use Rattle.fk_model.specs.declared.row.Row.{Row}
use Rattle.fk_model.specs.Orders.{queue}
use Rattle.fk_lists.specs.declared.size.Size.{Size}

-- each queue in which a row waits stands there once, in order of the names' bytes, with the number of
-- its rows, and no other queue
pub record AreSizesOf (rows : List (ℕ × Row)) (sizes : List Size) : Type 0 where
  pub by_name : AllPairs (λ one other. slice_cmp nat_cmp one.name other.name ≡ ordering.Less) sizes
  pub count : All (λ size. size.count ≡ length (queue rows size.name)) sizes
  pub filled : All (λ size. 0 < size.count) sizes
  pub whole : (name : List ℕ) → queue rows name ≢ [] → Contains (map (λ size. size.name) sizes) name

-- What holds of each queue.
use Rattle.std.specs.Prelude.{ℕ, List, map}
use Rattle.std.specs.List.Sorted.{IsStrictlyIncreasing}
use Rattle.fk_model.specs.Orders.{number_in}
use Rattle.fk_lists.specs.Room.{Named, list_at}

-- the pairs (rank, ticket) of each queue are in order of rank
abbrev pub AreByRank : Named → Type 0
AreByRank queues = (name : List ℕ) → IsStrictlyIncreasing (map number_in (list_at queues name))

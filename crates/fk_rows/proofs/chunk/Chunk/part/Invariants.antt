use Rattle.std.proofs.Common.{◌≡◌, ◌≤◌, ◌+◌, ◌++◌, length}
use Rattle.std.specs.VecDeque.{deque_capacity}
use Rattle.fk_rows.specs.Chunks.{full, half}
use Rattle.fk_rows.proofs.chunk.Chunk.part.Given as goal

-- the rows of both are all, the first has at least half of them, and there is room in both
abbrev pub invariant-moving : goal.invariant-moving
invariant-moving l =
    (l.self-inside.filed.items ++ l.other-inside.filed.items ≡ l.initial.self-inside.filed.items)
    × (half ≤ length l.self-inside.filed.items)
    × (length l.self-inside.filed.items + length l.other-inside.filed.items ≡ full)
    × (full ≤ deque_capacity l.self-inside.filed)
    × (full ≤ deque_capacity l.other-inside.filed)

abbrev pub decreases-moving : goal.decreases-moving
decreases-moving l = length l.self-inside.filed.items

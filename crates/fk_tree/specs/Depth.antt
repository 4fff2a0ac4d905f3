-- How many comparisons are at most made among so many pairs.
use Rattle.std.specs.Prelude.{ℕ, ◌+◌, ◌*◌, ◌^◌, ◌<◌, ◌≤◌}

-- the greatest number of halvings that so many pairs stand: 2 to it is at most one more than there are
abbrev pub IsDepth : ℕ → ℕ → Type 0
IsDepth count depth = (2 ^ depth ≤ count + 1) × (count + 1 < 2 ^ (depth + 1))

-- at most two comparisons for each halving, and one more
abbrev pub AreFew : ℕ → ℕ → ℕ → Type 0
AreFew count before after = (depth : ℕ) → IsDepth count depth → after ≤ before + (2 * depth + 1)

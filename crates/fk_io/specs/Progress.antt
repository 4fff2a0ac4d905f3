-- How far a source in memory has come, and how often it failed.
use Rattle.std.specs.Prelude.{ℕ, ◌≤◌, List, length}
use Rattle.fk_io.specs.Faults.{last_count}

-- no more bytes were given than there are, the last piece begins within them, no more cuts were used
-- up than there are, and the count of faults is one
pub record IsWithin (bytes : List ℕ) (begun given : ℕ) (cuts : List ℕ) (used faults : ℕ) :
    Type 0 where
  pub in_bytes : given ≤ length bytes
  pub in_given : begun ≤ given
  pub in_cuts : used ≤ length cuts
  pub counted : faults ≤ last_count

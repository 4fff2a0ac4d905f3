-- When a fault of one of two disks is told.
use Rattle.std.specs.Prelude.{◌⊎◌, ℕ, ◌≤◌}
use Rattle.fk_io.specs.Faults.{Rose}

-- no count of two disks fell, and one rose, or stands at its end, where a fault of a disk is told
pub record HasDiskCause (Told : Type 0) (before_a now_a before_b now_b : ℕ) : Type 0 where
  pub later_a : before_a ≤ now_a
  pub later_b : before_b ≤ now_b
  pub failed : Told → Rose before_a now_a ⊎ Rose before_b now_b

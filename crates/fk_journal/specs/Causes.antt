-- When a call tells a fault of its disk.
use Rattle.std.specs.Prelude.{ℕ, ◌≤◌}
use Rattle.fk_io.specs.Faults.{Rose}

-- a call's count of faults didn't fall, and it rose where a fault was told, or stands at its end
pub record HasFaultCause (Told : Type 0) (before now : ℕ) : Type 0 where
  pub later : before ≤ now
  pub failed : Told → Rose before now

-- Counts of faults, and when a failure has a cause.
use Rattle.std.specs.Prelude.{◌≡◌, ◌⊎◌, ℕ, ◌+◌, ◌-◌, ◌^◌, ◌<◌, ◌≤◌, min, Result, OnErr, OnOk}
use Rattle.fk_io.specs.declared.fault.Failed.{Failed}

-- the last count, at which a count of faults stands still
abbrev pub last_count : ℕ
last_count = 2 ^ 64 - 1

-- the count after one more, which stands still at its end
abbrev pub one_more : ℕ → ℕ
one_more count = min (count + 1) last_count

-- a count of faults rose, or stands at its last value, from which it can't rise
abbrev pub Rose : ℕ → ℕ → Type 0
Rose before now = (before < now) ⊎ (last_count ≤ now)

-- a call's count of faults didn't fall and isn't past its end, it stayed where the call went well, and
-- rose where it failed
pub record HasCause {T : Type 0} (before now : ℕ) (result : Result T Failed) : Type 0 where
  pub later : before ≤ now
  pub within : now ≤ last_count
  pub stays : OnOk result (now ≡ before)
  pub failed : OnErr result (Rose before now)

-- The workers, and the wids for which memory was taken ahead.
use Rattle.std.specs.Prelude.{ℕ, Bool, true, false, List, Contains}
use Rattle.fk_model.specs.declared.ask.Ask.{Ask}
use Rattle.fk_model.specs.declared.ask.Ask.TheVariants.{Hello}
use Rattle.fk_model.specs.State.{Worker}

-- the workers in the order in which they came, and the wids that were made ready
pub record Roll : Type 0 where
  pub workers : List Worker
  pub wids : List (List ℕ)

-- a turn of the ask takes no memory: one that says a name wants that wid to be ready
abbrev pub IsReady : Ask → Roll → Type 0
IsReady (Hello wid) roll = Contains roll.wids wid
IsReady other roll = Unit {0}

-- the ask says a name
abbrev pub is_hello : Ask → Bool
is_hello (Hello wid) = true
is_hello other = false

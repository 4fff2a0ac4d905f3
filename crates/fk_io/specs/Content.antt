-- What an object of the outside tells of its content. It may tell nothing, and then it is `None`
-- before and after.
use Rattle.std.specs.Prelude.{◌≡◌, ℕ, List, [], ◌++◌, Option, None, IfSome}
use Rattle.std.specs.Option.{option_map}

-- what an object tells as a source: the bytes to come, the bytes that its last good read gave, and how
-- often a read has failed
pub record Supply : Type 0 where
  pub left : Option (List ℕ)
  pub last : Option (List ℕ)
  pub faults : ℕ

-- what an object tells as a sink: the bytes that it holds, and how often a write has failed
pub record Written : Type 0 where
  pub held : Option (List ℕ)
  pub faults : ℕ

-- what an object tells that is a source alone, or a sink alone, as the other one: nothing
abbrev pub no_supply : Supply
no_supply = record { left = None; last = None; faults = 0 }

abbrev pub nothing_written : Written
nothing_written = record { held = None; faults = 0 }

-- these bytes were taken: what was to come before is these bytes, and then what is to come after
abbrev pub Took : Option (List ℕ) → List ℕ → Option (List ℕ) → Type 0
Took before bytes after = before ≡ option_map (λ left. bytes ++ left) after

-- a read gave these bytes, where it is told what the last read gave
abbrev pub WasGiven : Option (List ℕ) → List ℕ → Option (List ℕ) → Type 0
WasGiven before bytes after = after ≡ option_map (λ _. bytes) before

-- these bytes were gained: what is held after is what was held before, and then these bytes
abbrev pub Gained : Option (List ℕ) → List ℕ → Option (List ℕ) → Type 0
Gained before bytes after = after ≡ option_map (λ held. held ++ bytes) before

-- nothing is to come, where that is told
abbrev pub IsAtEnd : Option (List ℕ) → Type 0
IsAtEnd left = IfSome left (λ bytes. bytes ≡ [])

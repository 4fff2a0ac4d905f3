-- What a writer leaves: bytes behind those that were there, and the room that they leave.
use Rattle.std.specs.Prelude.{◌≡◌, ℕ, ◌+◌, ◌≤◌, ◌^◌, ◌-◌, min, List, ◌++◌, length}
use Rattle.fk_json.specs.Roomy.{Room}

-- the bytes came to the end, and took no more room than they need
pub record Put (bytes : List ℕ) (before after : Room ℕ) : Type 0 where
  pub items : after.items ≡ before.items ++ bytes
  pub room : before.spare ≤ after.spare + length bytes

-- a length as a number of the machine, which stands still at its type's end
abbrev pub told : ℕ → ℕ
told length = min length (2 ^ 64 - 1)

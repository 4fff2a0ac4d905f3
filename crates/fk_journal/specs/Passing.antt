-- What holds of all that a crash may leave, at one moment and from one to another.
use Rattle.std.specs.Prelude.{◌↔◌, ℕ, ◌≤◌, List}
use Rattle.fk_disk.specs.Moments.{EachSince}

-- this holds of each image
abbrev pub EachImage : (List ℕ → Type 0) → (List ℕ → Type 0) → Type 0
EachImage images Holds = (image : List ℕ) → images image → Holds image

-- a call goes on from one moment to another. The images of all moments up to its start stay as they were,
-- and at each moment since its start this holds of each image.
pub record Passes (Holds : List ℕ → Type 0) (start now : ℕ)
    (before after : ℕ → List ℕ → Type 0) : Type 0 where
  pub onward : start ≤ now
  pub kept : (at : ℕ) (image : List ℕ) → at ≤ start → (after at image ↔ before at image)
  pub since : EachSince after start now Holds

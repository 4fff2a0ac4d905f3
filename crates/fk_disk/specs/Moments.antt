-- What a crash may leave at the moments of a file, and how that changes in a call.
use Rattle.std.specs.Prelude.{◌≡◌, ◌↔◌, ℕ, ◌<◌, ◌≤◌, List}
use Rattle.fk_disk.specs.Steps.{AreBytes}

-- an image of before, to which this was done
abbrev pub After : (List ℕ → List ℕ → Type 0) → (List ℕ → Type 0) → List ℕ → Type 0
After Step before image = (earlier : List ℕ) × before earlier × Step earlier image

-- a call goes on from one moment to another. The images of all moments up to its start stay as they
-- were, and at each moment since an image is one of its start, to which this was done.
pub record Elapses (Step : List ℕ → List ℕ → Type 0) (start now : ℕ)
    (before after : ℕ → List ℕ → Type 0) : Type 0 where
  pub onward : start ≤ now
  pub kept : (at : ℕ) (image : List ℕ) → at ≤ start → (after at image ↔ before at image)
  pub since : (at : ℕ) (image : List ℕ) → start < at → at ≤ now → after at image →
      After Step (before start) image

-- whatever this may make of an image is an image afterwards
abbrev pub LeavesAll : (List ℕ → List ℕ → Type 0) → (List ℕ → Type 0) → (List ℕ → Type 0) → Type 0
LeavesAll Step before after = (image : List ℕ) → AreBytes image → After Step before image → after image

-- a crash leaves these bytes and no others
abbrev pub LeavesOnly : List ℕ → (List ℕ → Type 0) → Type 0
LeavesOnly bytes images = (image : List ℕ) → images image → image ≡ bytes

-- at each moment from one to another, a crash leaves only images of which this holds
abbrev pub EachSince : (ℕ → List ℕ → Type 0) → ℕ → ℕ → (List ℕ → Type 0) → Type 0
EachSince images start now Holds =
    (at : ℕ) (image : List ℕ) → start ≤ at → at ≤ now → images at image → Holds image

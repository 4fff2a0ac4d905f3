-- The way of two disks from one pair of moments to another, one disk at a time, and what holds on it of each pair of
-- images that a crash may leave. It isn't each image of the one with each image of the other: only those of one order in
-- which the disks may have gone on. Which it was isn't told.
use Rattle.std.specs.Prelude.{◌≡◌, ◌↔◌, ℕ, suc, ◌≤◌, List, [], ◌∷◌}
use Rattle.fk_journal.specs.declared.fault.File.{File}
use Rattle.fk_journal.specs.declared.fault.File.TheVariants.{A, B}

-- this holds of each pair of images of two moments
abbrev pub EachPair : (List ℕ → List ℕ → Type 0) → (List ℕ → Type 0) → (List ℕ → Type 0) → Type 0
EachPair Holds images_a images_b = (a b : List ℕ) → images_a a → images_b b → Holds a b

-- the moments of both disks, and the images at each
pub record Disks : Type 1 where
  pub at_a : ℕ
  pub at_b : ℕ
  pub images_a : ℕ → List ℕ → Type 0
  pub images_b : ℕ → List ℕ → Type 0

abbrev pub disks : ℕ → (ℕ → List ℕ → Type 0) → ℕ → (ℕ → List ℕ → Type 0) → Disks
disks at_a images_a at_b images_b =
    record { at_a = at_a; at_b = at_b; images_a = images_a; images_b = images_b }

-- this holds at one pair of moments after another: from these on, the disk that is named next goes on to its next
-- moment, and they end at those
unfoldable pub HoldsOn : (ℕ → ℕ → Type 0) → ℕ → ℕ → List File → ℕ → ℕ → Type 0
HoldsOn Holds at_a at_b [] end_a end_b = (at_a ≡ end_a) × (at_b ≡ end_b) × Holds at_a at_b
HoldsOn Holds at_a at_b (A ∷ order) end_a end_b = Holds at_a at_b × HoldsOn Holds (suc at_a) at_b order end_a end_b
HoldsOn Holds at_a at_b (B ∷ order) end_a end_b = Holds at_a at_b × HoldsOn Holds at_a (suc at_b) order end_a end_b

-- there is an order in which the disks went on, so that this holds of each pair of images on the way
abbrev pub HoldsBetween : (List ℕ → List ℕ → Type 0) → Disks → ℕ → ℕ → ℕ → ℕ → Type 0
HoldsBetween Holds disks at_a at_b end_a end_b = (order : List File)
    × HoldsOn (λ a b. EachPair Holds (disks.images_a a) (disks.images_b b)) at_a at_b order end_a end_b

-- what was left at moments up to the start stays as it was
pub record KeepPast (before after : Disks) : Type 0 where
  pub a : (at : ℕ) (image : List ℕ) → at ≤ before.at_a → (after.images_a at image ↔ before.images_a at image)
  pub b : (at : ℕ) (image : List ℕ) → at ≤ before.at_b → (after.images_b at image ↔ before.images_b at image)

-- a call goes on from the moments before it to those after it, and on the way this holds of each pair of images
pub record GoOn (Holds : List ℕ → List ℕ → Type 0) (before after : Disks) : Type 0 where
  pub past : KeepPast before after
  pub way : HoldsBetween Holds after before.at_a before.at_b after.at_a after.at_b

-- a call that may settle what is owed on its way: up to then the one holds of each pair, and from then on the other
pub record GoOnByStages (Holds Later : List ℕ → List ℕ → Type 0) (before after : Disks) : Type 0 where
  pub past : KeepPast before after
  pub settled_a : ℕ
  pub settled_b : ℕ
  pub first : HoldsBetween Holds after before.at_a before.at_b settled_a settled_b
  pub later : HoldsBetween Later after settled_a settled_b after.at_a after.at_b

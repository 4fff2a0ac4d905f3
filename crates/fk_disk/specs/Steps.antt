-- What a write, a cut and a sync do to a file, byte by byte and to its length, if no one made sure of it.
use Rattle.std.specs.Prelude.{◌≡◌, ◌⊎◌, ℕ, ◌+◌, ◌<◌, ◌≤◌, max, min}
use Rattle.std.specs.Prelude.{List, ◌++◌, length, take, drop, slice_index}

-- each is below 256, as a byte is
abbrev pub AreBytes : List ℕ → Type 0
AreBytes bytes = (place : ℕ) → slice_index bytes place < 256

-- the file with these bytes in the place of those from that place on, and past the end
abbrev pub overwritten : List ℕ → ℕ → List ℕ → List ℕ
overwritten file at bytes = take at file ++ bytes ++ drop (at + length bytes) file

-- a write of so many bytes at a place, of which nobody knows how far it came: in its range is anything,
-- and so is what the file has gained, at most up to the end of the range
pub record Overwrites (at count : ℕ) (before after : List ℕ) : Type 0 where
  pub no_shorter : length before ≤ length after
  pub no_longer : length after ≤ max (length before) (at + count)
  pub below : (place : ℕ) → place < length before → place < at →
      slice_index after place ≡ slice_index before place
  pub above : (place : ℕ) → place < length before → at + count ≤ place →
      slice_index after place ≡ slice_index before place

-- a cut to a length, of which nobody knows how far it came: the file has any length between, and past
-- the cut is anything
pub record CutsBack (len : ℕ) (before after : List ℕ) : Type 0 where
  pub no_shorter : min (length before) len ≤ length after
  pub no_longer : length after ≤ length before
  pub below : (place : ℕ) → place < length before → place < len →
      slice_index after place ≡ slice_index before place

-- a cut to a length was made or not
abbrev pub MayBeCut : ℕ → List ℕ → List ℕ → Type 0
MayBeCut len before after = (after ≡ before) ⊎ (after ≡ take len before)

-- nothing is done
abbrev pub Stays : List ℕ → List ℕ → Type 0
Stays before after = after ≡ before

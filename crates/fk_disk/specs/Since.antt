-- What a crash may leave, by what was done to a file since its last good sync. This is the model of a
-- disk as a whole; what the single steps do to images says the same from one call to the next.
use Rattle.std.specs.Prelude.{◌≡◌, ◌⊎◌, ℕ, ◌+◌, ◌-◌, ◌<◌, ◌≤◌, max, min, Bool, true, false, IsTrue}
use Rattle.std.specs.Prelude.{List, ◌++◌, length, take, drop, replicate, slice_index, slice_index_or}
use Rattle.fk_disk.specs.Steps.{AreBytes}

-- the bytes as they were at that sync, which of them lie in a range that was written since, and the least
-- and the greatest length that the file may have had since
pub record Since : Type 0 where
  pub synced : List ℕ
  pub written : List Bool
  pub least : ℕ
  pub greatest : ℕ

-- at this place may be any byte: it was written, or lies past the least length, and so past the end as
-- it was at that sync, or past a cut
abbrev pub IsFree : Since → ℕ → Type 0
IsFree since place = (IsTrue (slice_index_or since.written place false)) ⊎ (since.least ≤ place)

-- a crash may leave this: its length is one between, and each byte that isn't free is as it was
pub record IsImage (since : Since) (image : List ℕ) : Type 0 where
  pub bytes : AreBytes image
  pub no_shorter : since.least ≤ length image
  pub no_longer : length image ≤ since.greatest
  pub sure : (place : ℕ) → place < length image → ¬ IsFree since place →
      slice_index image place ≡ slice_index since.synced place

-- a good sync was made: all of the bytes are sure
abbrev pub after_sync : List ℕ → Since
after_sync content = record {
  synced = content;
  written = replicate (length content) false;
  least = length content;
  greatest = length content;
}

-- the marks of a range are set, as far as there are marks
abbrev pub marked : List Bool → ℕ → ℕ → List Bool
marked marks at count =
    take at marks ++ replicate (min count (length marks - at)) true ++ drop (at + count) marks

-- a write of so many bytes at a place was begun
abbrev pub after_write : Since → ℕ → ℕ → Since
after_write since at count = record since {
  written = marked since.written at count;
  greatest = max since.greatest (at + count);
}

-- a cut to a length was begun
abbrev pub after_cut : Since → ℕ → Since
after_cut since len = record since { least = min since.least len }

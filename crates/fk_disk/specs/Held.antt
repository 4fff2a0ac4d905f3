-- What holds of a file in memory and of what was done to it.
use Rattle.std.specs.Prelude.{◌≡◌, ◌≤◌, ℕ, List, length}
use Rattle.fk_disk.specs.Steps.{AreBytes}
use Rattle.fk_disk.specs.Since.{Since, IsImage}

-- what a read gives is an image, and so are the bytes of the last good sync, for each of which there is a
-- mark
pub record IsHeld (content : List ℕ) (since : Since) : Type 0 where
  pub read : IsImage since content
  pub bytes : AreBytes since.synced
  pub marks : length since.written ≡ length since.synced
  pub low : since.least ≤ length since.synced
  pub high : length since.synced ≤ since.greatest

-- How far a reader has looked for the end of its next line.
use Rattle.std.specs.Prelude.{ℕ, ◌<◌, ◌≤◌, ◌≢◌, List, length, slice_index}
use Rattle.fk_frame.specs.Bytes.{line_feed}

-- the bytes from one place to another were looked at, and no line feed is among them
pub record IsScanned (bytes : List ℕ) (from scanned : ℕ) : Type 0 where
  pub begun : from ≤ scanned
  pub within : scanned ≤ length bytes
  pub seen : (k : ℕ) → from ≤ k → k < scanned → slice_index bytes k ≢ line_feed

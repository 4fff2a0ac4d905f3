-- What reading a file leaves as it was.
use Rattle.std.specs.Prelude.{◌≡◌, ℕ, Bool, List}
use Rattle.fk_disk.specs.Moments.{Elapses, LeavesAll}
use Rattle.fk_disk.specs.Steps.{Stays}

-- calls of a disk only read: what it tells, what a read gives and what a crash may leave are as before
pub record OnlyReads (told told_now : Bool) (content content_now : List ℕ) (start now : ℕ)
    (before after : ℕ → List ℕ → Type 0) : Type 0 where
  pub tells : told_now ≡ told
  pub same : content_now ≡ content
  pub since : Elapses Stays start now before after
  pub all : LeavesAll Stays (before start) (after now)

-- The present moment of a disk in memory: what its laws say of it.
use Rattle.std.specs.Prelude.{◌≡◌, ℕ, List, [], ◌∷◌, ◌++◌, length, slice_get, Option, None, Some, IsSomeAnd, refl}
use Rattle.std.proofs.Common.{subst, sym}
use Rattle.fk_disk.specs.Steps.{AreBytes}
use Rattle.fk_disk.specs.Since.{Since, IsImage}
use Rattle.fk_disk.specs.DiskState.{images_of}

-- the last moment is the present one
pub at_present : (past : List Since) (now : Since) → slice_get (past ++ now ∷ []) (length past) ≡ Some now
at_present [] now = refl
at_present (_ ∷ past) now = at_present past now

-- an image of what was done until now may be left now
pub image_at_present : (past : List Since) (now : Since) (image : List ℕ) →
    IsImage now image → images_of past now (length past) image
image_at_present past now image is =
    subst (λ done. IsSomeAnd done (λ was. IsImage was image)) (sym (at_present past now)) is

-- an image is made of bytes
pub bytes_of_image : (done : Option Since) (image : List ℕ) →
    IsSomeAnd done (λ was. IsImage was image) → AreBytes image
bytes_of_image None image is = absurd is
bytes_of_image (Some done) image is = is.bytes

-- A good sync leaves what a read gives.
use Rattle.std.proofs.Common.{◌≡◌, ℕ, ◌<◌, false, arith, sym, refl, ◌∙◌, inl, inr, List, length}
use Rattle.std.proofs.lemmas.Bool.{false≢true}
use Rattle.std.proofs.lemmas.List.{length-replicate, get_or-replicate, ext_get_or}
use Rattle.fk_disk.specs.Steps.{AreBytes}
use Rattle.fk_disk.specs.Since.{IsFree, IsImage, after_sync}
use Rattle.fk_disk.specs.Held.{IsHeld}

-- no byte is free
none_free : (content : List ℕ) (place : ℕ) → place < length content →
    IsFree (after_sync content) place → ⊥
none_free content place inside (inl mark) =
    false≢true (sym (get_or-replicate (length content) place false false inside) ∙ mark)
none_free content place inside (inr past) = omega (arith, inside, past)

-- so the content is the only image
pub sync_leaves : (content image : List ℕ) → IsImage (after_sync content) image → image ≡ content
sync_leaves content image is =
    let len : length image ≡ length content = omega (arith, is.no_shorter, is.no_longer) in
    ext_get_or 0 image content len (λ place inside.
    is.sure place inside (none_free content place (omega (arith, len, inside))))

-- and it is one
pub sync_holds : (content : List ℕ) → AreBytes content → IsHeld content (after_sync content)
sync_holds content bytes = record {
  read = record {
    bytes = bytes;
    no_shorter = omega arith;
    no_longer = omega arith;
    sure = λ _ _ _. refl;
  };
  bytes = bytes;
  marks = length-replicate (length content) false;
  low = omega arith;
  high = omega arith;
}

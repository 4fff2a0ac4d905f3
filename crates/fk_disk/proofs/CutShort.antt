-- A cut leaves the images that the model gives for it, and no others.
use Rattle.std.proofs.Common.{◌≡◌, ◌⊎◌, ℕ, ◌<◌, ◌≤◌, max, arith, refl, ◌∙◌, inl, inr, List, length, get_or}
use Rattle.std.proofs.lemmas.Bool.{cases_lt}
use Rattle.fk_disk.specs.Steps.{AreBytes, CutsBack}
use Rattle.fk_disk.specs.Moments.{After}
use Rattle.fk_disk.specs.Since.{Since, IsFree, IsImage, after_cut}
use Rattle.fk_disk.specs.Held.{IsHeld}
use Rattle.fk_disk.proofs.Images.{patched, length-patched, each_patched, image-patched}

-- a place is before the cut or not
where_is : (len place : ℕ) → (place < len) ⊎ (len ≤ place)
where_is len place = cases_lt place len

-- before the cut the same places are free as before it
free_before : (since : Since) (len place : ℕ) → place < len →
    IsFree (after_cut since len) place → IsFree since place
free_before since len place before (inl mark) = inl mark
free_before since len place before (inr past) = inr (omega (arith, before, past))

-- and no fewer
still_free : (since : Since) (len place : ℕ) → IsFree since place → IsFree (after_cut since len) place
still_free since len place (inl mark) = inl mark
still_free since len place (inr past) = inr (omega (arith, past))

-- what isn't free lies before the least length
pub not_free : (since : Since) (place : ℕ) → ¬ IsFree since place → place < since.least
not_free since place sure =
    elim (cases_lt place since.least) [
      | inl early ↦ early
      | inr past ↦ absurd (sure (inr past))
    ]

-- each image after a cut was one before it, but for what is past the cut
pub cut_leaves : (content : List ℕ) (since : Since) (len : ℕ) (image : List ℕ) →
    IsHeld content since → IsImage (after_cut since len) image →
    After (CutsBack len) (IsImage since) image
cut_leaves content since len image held is =
    let most : ℕ = max (length image) since.least in
    let earlier : List ℕ = patched (where_is len) image since.synced most in
    let count : length earlier ≡ most = length-patched (where_is len) image since.synced most in
    let high : most ≤ since.greatest =
    omega (arith, is.no_longer, held.read.no_shorter, held.read.no_longer) in
    let was : IsImage since earlier =
    image-patched (where_is len) since image most is.bytes held.bytes (omega arith) high
    (λ place inside before sure.
    let early : place < since.least = not_free since place sure in
    is.sure place (omega (arith, inside, before, early, is.no_shorter))
    (λ free. sure (free_before since len place before free))) in (
      earlier,
      was,
      record {
        no_shorter = rw count (omega (arith, is.no_shorter));
        no_longer = rw count (omega arith);
        below = λ place inside before. each_patched (where_is len) image since.synced most place
            (λ byte. get_or image place 0 ≡ byte) (omega (arith, count, inside)) (λ _. refl)
            (λ past. absurd (omega (arith, before, past)));
      },
    )

-- each image before a cut, with anything past the cut, is one after it
pub cut_reaches : (content : List ℕ) (since : Since) (len : ℕ) (image : List ℕ) →
    IsHeld content since → AreBytes image → After (CutsBack len) (IsImage since) image →
    IsImage (after_cut since len) image
cut_reaches content since len image held bytes (earlier, was, cut) = record {
  bytes = bytes;
  no_shorter = omega (arith, was.no_shorter, cut.no_shorter);
  no_longer = omega (arith, was.no_longer, cut.no_longer);
  sure = λ place inside sure. elim (cases_lt place since.least) [
    | inr past ↦ absurd (sure (still_free since len place (inr past)))
    | inl early ↦ elim (cases_lt place len) [
      | inr behind ↦ absurd (sure (inr (omega (arith, behind))))
      | inl before ↦
          let within : place < length earlier = omega (arith, early, was.no_shorter) in
          cut.below place within before
          ∙ was.sure place within (λ free. sure (still_free since len place free))
    ]
  ];
}

-- what holds of a file in memory holds after a cut
pub cut_holds : (content : List ℕ) (since : Since) (len : ℕ) (after : List ℕ) →
    IsHeld content since → AreBytes after → CutsBack len content after →
    IsHeld after (after_cut since len)
cut_holds content since len after held bytes cut = record {
  read = cut_reaches content since len after held bytes (content, held.read, cut);
  bytes = held.bytes;
  marks = held.marks;
  low = omega (arith, held.low);
  high = held.high;
}

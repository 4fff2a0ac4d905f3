-- A write leaves the images that the model gives for it, and no others.
use Rattle.std.proofs.Common.{◌≡◌, ◌⊎◌, ℕ, ◌+◌, ◌<◌, ◌≤◌, min, arith, sym, refl, ◌∙◌, inl, inr, List, length, get_or}
use Rattle.std.proofs.lemmas.Bool.{cases_lt}
use Rattle.fk_disk.specs.Steps.{AreBytes, Overwrites}
use Rattle.fk_disk.specs.Moments.{After}
use Rattle.fk_disk.specs.Since.{Since, IsFree, IsImage, after_write}
use Rattle.fk_disk.specs.Held.{IsHeld}
use Rattle.fk_disk.proofs.Marks.{get_or-marked_below, get_or-marked_above, get_or-marked_inside, length-marked}
use Rattle.fk_disk.proofs.Images.{patched, length-patched, each_patched, image-patched}

-- a place is outside of a range
abbrev Outside : ℕ → ℕ → ℕ → Type 0
Outside at count place = (place < at) ⊎ (at + count ≤ place)

-- a place is in a range
abbrev Inside : ℕ → ℕ → ℕ → Type 0
Inside at count place = (at ≤ place) × (place < at + count)

-- it is one or the other
where_is : (at count place : ℕ) → Outside at count place ⊎ Inside at count place
where_is at count place =
    elim (cases_lt place at) [
      | inl before ↦ inl (inl before)
      | inr from ↦ elim (cases_lt place (at + count)) [
        | inl to ↦ inr (from, to)
        | inr behind ↦ inl (inr behind)
      ]
    ]

-- and not both
not_both : (at count place : ℕ) → Outside at count place → Inside at count place → ⊥
not_both at count place (inl before) inside = omega (arith, before, inside.0)
not_both at count place (inr behind) inside = omega (arith, behind, inside.1)

-- outside of the range the same places are free as before
free_outside : (since : Since) (at count place : ℕ) → Outside at count place →
    IsFree (after_write since at count) place → IsFree since place
free_outside since at count place outside (inr past) = inr past
free_outside since at count place (inl before) (inl mark) =
    inl (sym (get_or-marked_below since.written at count place before) ∙ mark)
free_outside since at count place (inr behind) (inl mark) =
    inl (sym (get_or-marked_above since.written at count place behind) ∙ mark)

-- and no fewer
still_free : (since : Since) (at count place : ℕ) → Outside at count place →
    IsFree since place → IsFree (after_write since at count) place
still_free since at count place outside (inr past) = inr past
still_free since at count place (inl before) (inl mark) =
    inl (get_or-marked_below since.written at count place before ∙ mark)
still_free since at count place (inr behind) (inl mark) =
    inl (get_or-marked_above since.written at count place behind ∙ mark)

-- outside of the range a byte is kept
kept : (at count : ℕ) (before after : List ℕ) (place : ℕ) → Overwrites at count before after →
    place < length before → Outside at count place → get_or after place 0 ≡ get_or before place 0
kept at count before after place over inside (inl below) = over.below place inside below
kept at count before after place over inside (inr above) = over.above place inside above

-- each image after a write was one before it, but for the range
pub write_leaves : (content : List ℕ) (since : Since) (at count : ℕ) (image : List ℕ) →
    IsHeld content since → IsImage (after_write since at count) image →
    After (Overwrites at count) (IsImage since) image
write_leaves content since at count image held is =
    let most : ℕ = min (length image) since.greatest in
    let earlier : List ℕ = patched (where_is at count) image since.synced most in
    let len : length earlier ≡ most = length-patched (where_is at count) image since.synced most in
    let low : since.least ≤ most =
    omega (arith, is.no_shorter, held.read.no_shorter, held.read.no_longer) in
    let was : IsImage since earlier =
    image-patched (where_is at count) since image most is.bytes held.bytes low (omega arith)
    (λ place inside outside sure. is.sure place (omega (arith, inside))
    (λ free. sure (free_outside since at count place outside free))) in
    let at_place : (place : ℕ) → place < length earlier → Outside at count place →
    get_or image place 0 ≡ get_or earlier place 0 =
    λ place inside outside. each_patched (where_is at count) image since.synced most place
    (λ byte. get_or image place 0 ≡ byte) (omega (arith, len, inside)) (λ _. refl)
    (λ within. absurd (not_both at count place outside within)) in
    let over : Overwrites at count earlier image = record {
      no_shorter = rw len (omega arith);
      no_longer = rw len (omega (arith, is.no_longer));
      below = λ place inside before. at_place place inside (inl before);
      above = λ place inside behind. at_place place inside (inr behind);
    } in
    (earlier, was, over)

-- each image before a write, with anything in the range, is one after it
pub write_reaches : (content : List ℕ) (since : Since) (at count : ℕ) (image : List ℕ) →
    IsHeld content since → AreBytes image → After (Overwrites at count) (IsImage since) image →
    IsImage (after_write since at count) image
write_reaches content since at count image held bytes (earlier, was, over) =
    let each : (place : ℕ) → place < since.least → ¬ IsFree (after_write since at count) place →
    Outside at count place =
    λ place early sure. elim (where_is at count place) [
      | inl outside ↦ outside
      | inr within ↦
          let marked : place < length since.written = omega (arith, early, held.low, held.marks) in
          absurd (sure (inl
          (get_or-marked_inside since.written at count place within.0 within.1 marked)))
    ] in
    record {
      bytes = bytes;
      no_shorter = omega (arith, was.no_shorter, over.no_shorter);
      no_longer = omega (arith, was.no_longer, over.no_longer);
      sure = λ place inside sure. elim (cases_lt place since.least) [
        | inr past ↦ absurd (sure (inr past))
        | inl early ↦
            let outside : Outside at count place = each place early sure in
            let within : place < length earlier = omega (arith, early, was.no_shorter) in
            kept at count earlier image place over within outside
            ∙ was.sure place within (λ free. sure (still_free since at count place outside free))
      ];
    }

-- what holds of a file in memory holds after a write
pub write_holds : (content : List ℕ) (since : Since) (at count : ℕ) (after : List ℕ) →
    IsHeld content since → AreBytes after → Overwrites at count content after →
    IsHeld after (after_write since at count)
write_holds content since at count after held bytes over = record {
  read = write_reaches content since at count after held bytes (content, held.read, over);
  bytes = held.bytes;
  marks = length-marked since.written at count ∙ held.marks;
  low = held.low;
  high = omega (arith, held.high);
}

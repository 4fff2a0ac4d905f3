-- The image in which each byte that was written is replaced, and the other images by choice.
use Rattle.std.proofs.Common.{◌≡◌, ℕ, ◌+◌, ◌<◌, ◌≤◌, Bool, true, false, arith, ap, refl, ◌∙◌, inl, inr}
use Rattle.std.proofs.Common.{List, [], ◌∷◌, ◌++◌, length, take, get_or}
use Rattle.std.specs.Prelude.{slice_index, slice_index_or, if◌then◌else◌}
use Rattle.std.proofs.lemmas.Bool.{cases_lt, cases_Bool}
use Rattle.std.proofs.lemmas.List.{get_or_past, get_or_default, take_all, take_more}
use Rattle.std.proofs.lemmas.List.FromFn.{length-map-range_with_len, get_or-map-range_with_len}
use Rattle.fk_disk.specs.Steps.{AreBytes}
use Rattle.fk_disk.specs.Since.{Since, IsFree, IsImage}
use Rattle.fk_disk.specs.DiskState.{torn}
use Rattle.fk_disk.specs.Held.{IsHeld}
use Rattle.fk_disk.proofs.CutShort.{not_free}

-- the byte at a place
abbrev torn_at : List ℕ → List Bool → ℕ → ℕ
torn_at content written place =
    if slice_index_or written place true then 255 else slice_index content place

pub length-torn : (content : List ℕ) (written : List Bool) → length (torn content written) ≡ length content
length-torn content written = length-map-range_with_len (torn_at content written) 0 (length content)

pub get_or-torn : (content : List ℕ) (written : List Bool) (place d : ℕ) → place < length content →
    get_or (torn content written) place d ≡ torn_at content written place
get_or-torn content written place d inside =
    let same : 0 + place ≡ place = omega arith in
    get_or-map-range_with_len (torn_at content written) 0 (length content) place place d inside same

-- one more byte of it
pub torn_more : (content : List ℕ) (written : List Bool) (place : ℕ) → place < length content →
    take (place + 1) (torn content written)
    ≡ take place (torn content written) ++ torn_at content written place ∷ []
torn_more content written place inside =
    let within : place < length (torn content written) = rw (length-torn content written) inside in
    take_more (torn content written) place 0 within
    ∙ ap (λ byte. take place (torn content written) ++ byte ∷ [])
    (get_or-torn content written place 0 inside)

-- it is made of bytes
torn_bytes : (content : List ℕ) (written : List Bool) → AreBytes content → AreBytes (torn content written)
torn_bytes content written bytes place =
    elim (cases_lt place (length content)) [
      | inl inside ↦ rw (get_or-torn content written place 0 inside)
          (elim (slice_index_or written place true) as (λ mark. (if mark then 255 else slice_index content place) < 256) [
            | true ↦ omega arith
            | false ↦ bytes place
          ])
      | inr outside ↦
          let past : length (torn content written) ≤ place = rw (length-torn content written) outside in
          rw (get_or_past (torn content written) place 0 past) (omega arith)
    ]

-- a byte that isn't free has no mark
unmarked : (since : Since) (place : ℕ) → ¬ IsFree since place → get_or since.written place false ≡ false
unmarked since place sure =
    elim (cases_Bool (get_or since.written place false)) [
      | inl mark ↦ absurd (sure (inl mark))
      | inr none ↦ none
    ]

-- a crash may leave it
pub torn_is_image : (content : List ℕ) (since : Since) → IsHeld content since →
    IsImage since (torn content since.written)
torn_is_image content since held =
    let len : length (torn content since.written) ≡ length content = length-torn content since.written in
    record {
      bytes = torn_bytes content since.written held.read.bytes;
      no_shorter = rw len held.read.no_shorter;
      no_longer = rw len held.read.no_longer;
      sure = λ place inside sure.
          let within : place < length content = omega (arith, len, inside) in
          let early : place < since.least = not_free since place sure in
          let marked : place < length since.written = omega (arith, early, held.low, held.marks) in
          get_or-torn content since.written place 0 within
          ∙ ap (λ mark. if mark then 255 else slice_index content place)
          (get_or_default since.written place true false marked ∙ unmarked since place sure)
          ∙ held.read.sure place within sure;
    }

-- a crash may leave the bytes of the last good sync
pub old_is_image : (content : List ℕ) (since : Since) → IsHeld content since → IsImage since since.synced
old_is_image content since held = record {
  bytes = held.bytes;
  no_shorter = held.low;
  no_longer = held.high;
  sure = λ _ _ _. refl;
}

-- all of it
pub whole : (content : List ℕ) (written : List Bool) (count : ℕ) → count ≡ length content →
    take count (torn content written) ≡ torn content written
whole content written count all =
    take_all count (torn content written) (omega (arith, all, length-torn content written))

-- the images by choice
pub ruleset images = (old_is_image, torn_is_image)

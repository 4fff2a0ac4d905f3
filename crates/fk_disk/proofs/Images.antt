-- What a write, a cut and a sync make of the images is what the model says of them.
use Rattle.std.proofs.Common.{◌≡◌, ◌⊎◌, ℕ, ◌+◌, ◌<◌, ◌≤◌, arith, sym, refl, inl, inr, subst}
use Rattle.std.proofs.Common.{List, length, get_or, map}
use Rattle.std.specs.List.{range_with_len}
use Rattle.std.proofs.lemmas.Bool.{cases_lt}
use Rattle.std.proofs.lemmas.List.{get_or_past}
use Rattle.std.proofs.lemmas.List.FromFn.{length-map-range_with_len, get_or-map-range_with_len}
use Rattle.fk_disk.specs.Steps.{AreBytes}
use Rattle.fk_disk.specs.Since.{Since, IsFree, IsImage}

-- the first, where the first case holds, and else the second
abbrev choose : {A B : Type 0} → A ⊎ B → ℕ → ℕ → ℕ
choose (inl _) first second = first
choose (inr _) first second = second

-- what holds of each in its case holds of what is chosen
chosen : {A B : Type 0} (cases : A ⊎ B) (first second : ℕ) (P : ℕ → Type 0) →
    (A → P first) → (B → P second) → P (choose cases first second)
chosen (inl a) first second P of_first of_second = of_first a
chosen (inr b) first second P of_first of_second = of_second b

-- so many bytes: at each place that of an image, or that of the last good sync
pub patched : {Kept Put : ℕ → Type 0} → ((place : ℕ) → Kept place ⊎ Put place) →
    List ℕ → List ℕ → ℕ → List ℕ
patched cases image synced count =
    map (λ place. choose (cases place) (get_or image place 0) (get_or synced place 0)) (range_with_len 0 count)

pub length-patched : {Kept Put : ℕ → Type 0} (cases : (place : ℕ) → Kept place ⊎ Put place)
    (image synced : List ℕ) (count : ℕ) → length (patched cases image synced count) ≡ count
unfolding patched
length-patched cases image synced count = length-map-range_with_len _ 0 count

-- what holds of both holds of its bytes
pub each_patched : {Kept Put : ℕ → Type 0} (cases : (place : ℕ) → Kept place ⊎ Put place)
    (image synced : List ℕ) (count place : ℕ) (P : ℕ → Type 0) → place < count →
    (Kept place → P (get_or image place 0)) → (Put place → P (get_or synced place 0)) →
    P (get_or (patched cases image synced count) place 0)
unfolding patched
each_patched cases image synced count place P inside kept put =
    let same : 0 + place ≡ place = omega arith in
    subst P (sym (get_or-map-range_with_len _ 0 count place place 0 inside same))
    (chosen (cases place) (get_or image place 0) (get_or synced place 0) P kept put)

-- it is made of bytes, where both are
bytes-patched : {Kept Put : ℕ → Type 0} (cases : (place : ℕ) → Kept place ⊎ Put place)
    (image synced : List ℕ) (count : ℕ) → AreBytes image → AreBytes synced →
    AreBytes (patched cases image synced count)
bytes-patched cases image synced count in_image in_synced place =
    elim (cases_lt place count) [
      | inl inside ↦ each_patched cases image synced count place (λ byte. byte < 256) inside
          (λ _. in_image place) (λ _. in_synced place)
      | inr outside ↦
          let past : length (patched cases image synced count) ≤ place =
          rw (length-patched cases image synced count) outside in
          rw (get_or_past (patched cases image synced count) place 0 past) (omega arith)
    ]

-- it is an image, where the bytes that are kept are as they were unless they are free
pub image-patched : {Kept Put : ℕ → Type 0} (cases : (place : ℕ) → Kept place ⊎ Put place)
    (since : Since) (image : List ℕ) (count : ℕ) → AreBytes image → AreBytes since.synced →
    since.least ≤ count → count ≤ since.greatest →
    ((place : ℕ) → place < count → Kept place → ¬ IsFree since place →
    get_or image place 0 ≡ get_or since.synced place 0) →
    IsImage since (patched cases image since.synced count)
image-patched cases since image count in_image in_synced low high kept =
    let len : length (patched cases image since.synced count) ≡ count =
    length-patched cases image since.synced count in
    record {
      bytes = bytes-patched cases image since.synced count in_image in_synced;
      no_shorter = rw len low;
      no_longer = rw len high;
      sure = λ place inside sure.
          let within : place < count = omega (arith, len, inside) in
          each_patched cases image since.synced count place
          (λ byte. byte ≡ get_or since.synced place 0) within
          (λ is_kept. kept place within is_kept sure) (λ _. refl);
    }

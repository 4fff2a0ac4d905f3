-- A file with bytes written over it.
use Rattle.std.proofs.Common.{◌≡◌, ℕ, ◌+◌, ◌-◌, ◌<◌, ◌≤◌, max, arith, ap, sym, refl, ◌∙◌}
use Rattle.std.proofs.Common.{List, ◌++◌, length, take, drop, get_or, length-append, length-drop, append_assoc}
use Rattle.std.proofs.lemmas.List.{take-append-drop, drop-drop, ext_get_or}
use Rattle.std.proofs.lemmas.List.{length-take-le, get_or_append_left, get_or-append_right, get_or-take, get_or-drop}
use Rattle.fk_disk.specs.Steps.{Overwrites, overwritten}

-- what is written is at most the range
pub overwrites_part : (at part count : ℕ) (before after : List ℕ) → part ≤ count →
    Overwrites at part before after → Overwrites at count before after
overwrites_part at part count before after fits over = record {
  no_shorter = over.no_shorter;
  no_longer = omega (arith, fits, over.no_longer);
  below = over.below;
  above = λ place inside behind. over.above place inside (omega (arith, fits, behind));
}

-- nothing is written
pub overwrites_nothing : (at count : ℕ) (file : List ℕ) → Overwrites at count file file
overwrites_nothing at count file = record {
  no_shorter = omega arith;
  no_longer = omega arith;
  below = λ _ _ _. refl;
  above = λ _ _ _. refl;
}

-- the length of a file after a write
pub length-overwritten : (file : List ℕ) (at : ℕ) (bytes : List ℕ) → at ≤ length file →
    length (overwritten file at bytes) ≡ max (length file) (at + length bytes)
length-overwritten file at bytes inside =
    rw (length-append, length-append, length-drop, length-take-le at file inside) (omega (arith, inside))

-- the part up to the end of what was written
length-front : (file : List ℕ) (at : ℕ) (bytes : List ℕ) → at ≤ length file →
    length (take at file ++ bytes) ≡ at + length bytes
length-front file at bytes inside = rw (length-append, length-take-le at file inside) refl

-- before what was written the file is as it was
pub get_or-overwritten_below : (file : List ℕ) (at : ℕ) (bytes : List ℕ) (place : ℕ) →
    at ≤ length file → place < at →
    get_or (overwritten file at bytes) place 0 ≡ get_or file place 0
get_or-overwritten_below file at bytes place inside before =
    let back : List ℕ = drop (at + length bytes) file in
    let in_front : place < length (take at file ++ bytes) =
    rw (length-front file at bytes inside) (omega (arith, before)) in
    let in_first : place < length (take at file) = rw (length-take-le at file inside) before in
    get_or_append_left (take at file ++ bytes) back 0 place in_front
    ∙ get_or_append_left (take at file) bytes 0 place in_first
    ∙ get_or-take at file place 0 before

-- behind it, too
pub get_or-overwritten_above : (file : List ℕ) (at : ℕ) (bytes : List ℕ) (place : ℕ) →
    at ≤ length file → at + length bytes ≤ place →
    get_or (overwritten file at bytes) place 0 ≡ get_or file place 0
get_or-overwritten_above file at bytes place inside behind =
    let back : List ℕ = drop (at + length bytes) file in
    let end : ℕ = at + length bytes in
    let same : end + (place - end) ≡ place = omega (arith, behind) in
    get_or-append_right (take at file ++ bytes) back end place 0 (length-front file at bytes inside) behind
    ∙ get_or-drop end file (place - end) 0
    ∙ ap (λ k. get_or file k 0) same

-- a write that was made whole
pub overwrites_whole : (at : ℕ) (file bytes : List ℕ) → at ≤ length file →
    Overwrites at (length bytes) file (overwritten file at bytes)
overwrites_whole at file bytes inside = record {
  no_shorter = rw (length-overwritten file at bytes inside) (omega arith);
  no_longer = rw (length-overwritten file at bytes inside) (omega arith);
  below = λ place _ before. get_or-overwritten_below file at bytes place inside before;
  above = λ place _ behind. get_or-overwritten_above file at bytes place inside behind;
}

-- before the range the file is as it was
pub overwrites_front : (at count : ℕ) (before after : List ℕ) → Overwrites at count before after →
    at ≤ length before → take at after ≡ take at before
overwrites_front at count before after over inside =
    let longer : at ≤ length after = omega (arith, inside, over.no_shorter) in
    let len : length (take at after) ≡ at = length-take-le at after longer in
    let len_before : length (take at before) ≡ at = length-take-le at before inside in
    ext_get_or 0 (take at after) (take at before) (len ∙ sym len_before) (λ place in_front.
    let early : place < at = omega (arith, len, in_front) in
    get_or-take at after place 0 early
    ∙ over.below place (omega (arith, early, inside)) early
    ∙ sym (get_or-take at before place 0 early))

-- a write within the file leaves its length, and what is behind the range
pub overwrites_length : (at count : ℕ) (before after : List ℕ) → Overwrites at count before after →
    at + count ≤ length before → length after ≡ length before
overwrites_length at count before after over inside =
    omega (arith, inside, over.no_shorter, over.no_longer)

pub overwrites_back : (at count : ℕ) (before after : List ℕ) → Overwrites at count before after →
    at + count ≤ length before → drop (at + count) after ≡ drop (at + count) before
overwrites_back at count before after over inside =
    let end : ℕ = at + count in
    let len : length after ≡ length before = overwrites_length at count before after over inside in
    let rest : length (drop end after) ≡ length before - end =
    length-drop end after ∙ ap (λ length. length - end) len in
    ext_get_or 0 (drop end after) (drop end before) (rest ∙ sym (length-drop end before)) (λ place inside_rest.
    get_or-drop end after place 0
    ∙ over.above (end + place) (omega (arith, rest, inside_rest)) (omega arith)
    ∙ sym (get_or-drop end before place 0))

-- so it is the file with other bytes in the range
pub overwrites_within : (at count : ℕ) (before after : List ℕ) → Overwrites at count before after →
    at + count ≤ length before →
    after ≡ take at before ++ take count (drop at after) ++ drop (at + count) before
overwrites_within at count before after over inside =
    let front : take at after ≡ take at before =
    overwrites_front at count before after over (omega (arith, inside)) in
    let back : drop count (drop at after) ≡ drop (at + count) before =
    drop-drop count at after ∙ overwrites_back at count before after over inside in
    sym (take-append-drop at after)
    ∙ ap (λ rest. take at after ++ rest) (sym (take-append-drop count (drop at after)))
    ∙ ap (λ rest. take at after ++ (take count (drop at after) ++ rest)) back
    ∙ ap (λ head. head ++ (take count (drop at after) ++ drop (at + count) before)) front
    ∙ sym (append_assoc (take at before) (take count (drop at after)) (drop (at + count) before))

-- the three of them
pub ruleset overwrites = (overwrites_whole, overwrites_part, overwrites_nothing)

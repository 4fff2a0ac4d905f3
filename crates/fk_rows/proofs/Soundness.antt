-- What each step keeps of chunks: none is empty, and the room is paid for.
use Rattle.std.proofs.Common.{◌≡◌, ℕ, zero, suc, ◌<◌, ◌≤◌, List, [], ◌∷◌, ◌++◌, ◌+◌, ◌*◌, length, take, drop, set, Some, slice_get, refl, ap, subst, arith, ◌∙◌, length-set}
use Rattle.std.specs.Prelude.{Bool, true, false, ◌&&◌, ◌==◌, nat_lt, if◌then◌else◌}
use Rattle.std.specs.List.{remove, AllByRecursion}
use Rattle.std.proofs.lemmas.Bool.Decides.{nat_tests}
use Rattle.std.proofs.lemmas.Grind.{common_steps}
use Rattle.fk_rows.specs.Chunks.{Filed, chunk_at, rows_of, excess, excess_of, full, half, without_bare, IsFilled, IsSound}
use Rattle.fk_rows.proofs.Parts.{all_left}
use Rattle.fk_rows.proofs.Chunking.{Chunks, excess_set, excess_insert, excess_remove, all_set, all_insert, all_others, at_set, rows_remove, length_insert, length_remove}
use Rattle.fk_rows.proofs.Parting.{parted}

-- a chunk that has rows in the place of one
pub sound_set : (chunks store : Chunks) (room more capacity further at : ℕ) (chunk : List Filed) → IsSound chunks store room capacity → at < length chunks
    → 0 < length chunk → more + excess chunk ≤ room + excess (chunk_at chunks at) → capacity ≤ further → IsSound (set chunks at chunk) store more further
sound_set chunks store room more capacity further at chunk sound within some paid roomier =
    let count : length (set chunks at chunk) ≡ length chunks = length-set chunks at chunk in
    let summed : excess_of (set chunks at chunk) + excess (chunk_at chunks at) ≡ excess_of chunks + excess chunk = excess_set chunks at chunk within in
    record {
      filled = λ many. all_set (λ chunk. 0 < length chunk) chunks at chunk (sound.filled (omega (arith, count, many))) some;
      begun = λ any. omega (arith, count, within);
      bare = sound.bare;
      paid = omega (arith, summed, paid, sound.paid);
      wide = omega (arith, count, roomier, sound.wide);
    }

-- a chunk that may have no row left: it is given back then, unless it is the only one
module _ (chunks store : Chunks) (room more capacity at : ℕ) (chunk : List Filed) (sound : IsSound chunks store room capacity) (within : at < length chunks)
    (paid : more + excess chunk ≤ room + excess (chunk_at chunks at)) where
  count : length (set chunks at chunk) ≡ length chunks
  count = length-set chunks at chunk

  summed : excess_of (set chunks at chunk) + excess (chunk_at chunks at) ≡ excess_of chunks + excess chunk
  summed = excess_set chunks at chunk within

  closed : nat_lt 1 (length (set chunks at chunk)) && (length (chunk_at (set chunks at chunk) at) == 0) ≡ true → IsSound (remove (set chunks at chunk) at) store more capacity
  closed test =
      let fewer : suc (length (remove (set chunks at chunk) at)) ≡ length (set chunks at chunk) = length_remove (set chunks at chunk) at (omega (arith, count, within)) in
      let many : 1 < length (set chunks at chunk) = grind (arith, nat_tests, test) in
      let less : excess_of (remove (set chunks at chunk) at) ≤ excess_of (set chunks at chunk) = excess_remove (set chunks at chunk) at in
      record {
        filled = λ any. all_others (λ chunk. 0 < length chunk) chunks at chunk (sound.filled (omega (arith, count, many)));
        begun = λ any. omega (arith, fewer, many);
        bare = sound.bare;
        paid = omega (arith, less, summed, paid, sound.paid);
        wide = omega (arith, fewer, count, sound.wide);
      }

  open_still : nat_lt 1 (length (set chunks at chunk)) && (length (chunk_at (set chunks at chunk) at) == 0) ≡ false → IsSound (set chunks at chunk) store more capacity
  open_still test =
      let stands : chunk_at (set chunks at chunk) at ≡ chunk = at_set chunks at chunk within in
      record {
        filled = λ many.
            let some : 0 < length chunk = grind (arith, nat_tests, test, many, ap length stands) in
            all_set (λ chunk. 0 < length chunk) chunks at chunk (sound.filled (omega (arith, count, many))) some;
        begun = λ any. omega (arith, count, within);
        bare = sound.bare;
        paid = omega (arith, summed, paid, sound.paid);
        wide = omega (arith, count, sound.wide);
      }

  by_test : (test : Bool) → nat_lt 1 (length (set chunks at chunk)) && (length (chunk_at (set chunks at chunk) at) == 0) ≡ test
      → IsSound (if test then remove (set chunks at chunk) at else set chunks at chunk) store more capacity
  by_test true is = closed is
  by_test false is = open_still is

  pub sound_left : IsSound (without_bare (set chunks at chunk) at) store more capacity
  sound_left = by_test (nat_lt 1 (length (set chunks at chunk)) && (length (chunk_at (set chunks at chunk) at) == 0)) refl

bare_rows : (chunks : Chunks) (at : ℕ) (test : Bool) → nat_lt 1 (length chunks) && (length (chunk_at chunks at) == 0) ≡ test
    → rows_of (if test then remove chunks at else chunks) ≡ rows_of chunks
bare_rows chunks at true is = rows_remove chunks at (no_row (chunk_at chunks at) (grind (arith, nat_tests, is)))
  where
    no_row : (chunk : List Filed) → length chunk ≡ 0 → chunk ≡ []
    no_row [] none = refl
    no_row (x ∷ chunk) none = absurd (omega (arith, none))
bare_rows chunks at false is = refl

pub rows_left : (chunks : Chunks) (at : ℕ) → rows_of (without_bare chunks at) ≡ rows_of chunks
rows_left chunks at = bare_rows chunks at (nat_lt 1 (length chunks) && (length (chunk_at chunks at) == 0)) refl

-- a full chunk is made two by one that was held ready
all_filled : (chunks : Chunks) (at : ℕ) → IsFilled chunks → at < length chunks → 0 < length (chunk_at chunks at) → AllByRecursion (λ chunk. 0 < length chunk) chunks
all_filled [] at filled within some = tt
all_filled (chunk ∷ []) zero filled within some = (some, tt)
all_filled (chunk ∷ []) (suc at) filled within some = absurd (omega arith)
all_filled (chunk ∷ other ∷ chunks) at filled within some = filled (omega arith)

taken : (chunk : List Filed) (count : ℕ) → count ≤ length chunk → length (take count chunk) ≡ count
taken [] zero le = refl
taken [] (suc count) le = absurd (omega arith)
taken (x ∷ chunk) zero le = refl
taken (x ∷ chunk) (suc count) le = ap suc (taken chunk count (omega arith))

dropped : (chunk : List Filed) (count : ℕ) → length (take count chunk) + length (drop count chunk) ≡ length chunk
dropped [] zero = refl
dropped [] (suc count) = refl
dropped (x ∷ chunk) zero = omega arith
dropped (x ∷ chunk) (suc count) = omega (arith, dropped chunk count)

pub count_first : (chunk : List Filed) → length chunk ≡ full → length (take half chunk) ≡ 1_024
count_first chunk whole = taken chunk half (omega (arith, whole))

pub count_last : (chunk : List Filed) → length chunk ≡ full → length (drop half chunk) ≡ 1_024
count_last chunk whole = omega (arith, dropped chunk half, count_first chunk whole, whole)

-- a row that stands at a place
pub record Standing (rows : List Filed) (at : ℕ) : Type 0 where
  pub filed : Filed
  pub is : slice_get rows at ≡ Some filed

pub standing : (rows : List Filed) (at : ℕ) → at < length rows → Standing rows at
standing [] at within = absurd (omega arith)
standing (x ∷ rows) zero within = record { filed = x; is = refl }
standing (x ∷ rows) (suc at) within =
    let rest = standing rows at (omega arith) in
    record { filed = rest.filed; is = rest.is }

module _ (chunks store others : Chunks) (second : List Filed) (room capacity further at : ℕ) (sound : IsSound chunks store room capacity) (popped : store ≡ others ++ second ∷ [])
    (within : at < length chunks) (whole : length (chunk_at chunks at) ≡ full) (roomier : capacity ≤ further) where
  abbrev first : List Filed
  first = take half (chunk_at chunks at)

  abbrev last : List Filed
  last = drop half (chunk_at chunks at)

  first_count : length (take half (chunk_at chunks at)) ≡ 1_024
  first_count = count_first (chunk_at chunks at) whole

  last_count : length (drop half (chunk_at chunks at)) ≡ 1_024
  last_count = count_last (chunk_at chunks at) whole

  counted : length (parted chunks at half) ≡ suc (length chunks)
  counted = length_insert (set chunks at first) (suc at) last ∙ ap suc (length-set chunks at first)

  one_less : length store ≡ length others + 1
  one_less = ap length popped ∙ grind (arith, common_steps)

  pub sound_parted : IsSound (parted chunks at half) others room further
  sound_parted =
      let summed : excess_of (set chunks at first) + excess (chunk_at chunks at) ≡ excess_of chunks + excess first = excess_set chunks at first within in
      let more : excess_of (parted chunks at half) ≡ excess last + excess_of (set chunks at first) = excess_insert (set chunks at first) (suc at) last in
      let was : room + excess_of chunks ≤ 1_024 * length store = sound.paid in
      let now : room + excess_of (parted chunks at half) ≤ 1_024 * length others = omega (arith, summed, more, was, one_less, whole, first_count, last_count) in
      record {
        filled = λ many. all_insert (λ chunk. 0 < length chunk) (set chunks at first) (suc at) last
            (all_set (λ chunk. 0 < length chunk) chunks at first (all_filled chunks at sound.filled within (omega (arith, whole))) (omega (arith, first_count))) (omega (arith, last_count));
        begun = λ any. omega (arith, counted);
        bare = all_left (λ chunk. chunk ≡ []) others (second ∷ []) (subst (AllByRecursion (λ chunk. chunk ≡ [])) popped sound.bare);
        paid = now;
        wide = omega (arith, counted, one_less, roomier, sound.wide);
      }

-- A full chunk is made two.
use Rattle.std.proofs.Common.{◌≡◌, ℕ, zero, suc, ◌<◌, ◌≤◌, List, [], ◌∷◌, ◌++◌, ◌+◌, length, take, drop, set, refl, sym, ap, arith, append_assoc, append-nil, ◌∙◌}
use Rattle.std.specs.List.{insert}
use Rattle.fk_rows.specs.declared.spot.Spot.{Spot}
use Rattle.fk_rows.specs.Chunks.{Filed, rows_of, chunk_at}
use Rattle.fk_rows.specs.Spots.{before, from}
use Rattle.fk_rows.proofs.Chunking.{Chunks}

abbrev Rows : Type 0
Rows = List Filed

-- the chunks, with one of them made two at a place
abbrev pub parted : Chunks → ℕ → ℕ → Chunks
parted chunks at place = insert (set chunks at (take place (chunk_at chunks at))) (suc at) (drop place (chunk_at chunks at))

take_less : (rows : Rows) (k place : ℕ) → k ≤ place → take k (take place rows) ≡ take k rows
take_less rows zero place le = refl
take_less [] (suc k) zero le = absurd (omega arith)
take_less [] (suc k) (suc place) le = refl
take_less (x ∷ rows) (suc k) zero le = absurd (omega arith)
take_less (x ∷ rows) (suc k) (suc place) le = ap (λ all. x ∷ all) (take_less rows k place (omega arith))

drop_less : (rows : Rows) (k place : ℕ) → k ≤ place → drop k (take place rows) ++ drop place rows ≡ drop k rows
drop_less [] zero zero le = refl
drop_less [] zero (suc place) le = refl
drop_less [] (suc k) zero le = absurd (omega arith)
drop_less [] (suc k) (suc place) le = refl
drop_less (x ∷ rows) zero zero le = refl
drop_less (x ∷ rows) zero (suc place) le = ap (λ all. x ∷ all) (drop_less rows zero place (omega arith))
drop_less (x ∷ rows) (suc k) zero le = absurd (omega arith)
drop_less (x ∷ rows) (suc k) (suc place) le = drop_less rows k place (omega arith)

take_more : (rows : Rows) (k place more : ℕ) → k ≡ place + more → take place rows ++ take more (drop place rows) ≡ take k rows
take_more [] k zero more is =
    let same : more ≡ k = omega (arith, is) in
    ap (λ n. take {A = Filed} n []) same
take_more (x ∷ rows) k zero more is =
    let same : more ≡ k = omega (arith, is) in
    ap (λ n. take n (x ∷ rows)) same
take_more [] zero (suc place) more is = absurd (omega (arith, is))
take_more [] (suc k) (suc place) zero is = refl
take_more [] (suc k) (suc place) (suc more) is = refl
take_more (x ∷ rows) zero (suc place) more is = absurd (omega (arith, is))
take_more (x ∷ rows) (suc k) (suc place) more is = ap (λ all. x ∷ all) (take_more rows k place more (omega (arith, is)))

drop_more : (rows : Rows) (k place more : ℕ) → k ≡ place + more → drop more (drop place rows) ≡ drop k rows
drop_more [] k zero more is =
    let same : more ≡ k = omega (arith, is) in
    ap (λ n. drop {A = Filed} n []) same
drop_more (x ∷ rows) k zero more is =
    let same : more ≡ k = omega (arith, is) in
    ap (λ n. drop n (x ∷ rows)) same
drop_more [] zero (suc place) more is = absurd (omega (arith, is))
drop_more [] (suc k) (suc place) zero is = refl
drop_more [] (suc k) (suc place) (suc more) is = refl
drop_more (x ∷ rows) zero (suc place) more is = absurd (omega (arith, is))
drop_more (x ∷ rows) (suc k) (suc place) more is = drop_more rows k place more (omega (arith, is))

-- what stands before a place and behind it
pub cut_first : (some others whole : Rows) (place : ℕ) → some ++ others ≡ whole → length some ≡ place → some ≡ take place whole
cut_first [] others whole place is count = rw (← count) refl
cut_first (x ∷ some) others whole place is count =
    rw (← count, ← is) (ap (λ all. x ∷ all) (cut_first some others (some ++ others) (length some) refl refl))

pub cut_second : (some others whole : Rows) (place : ℕ) → some ++ others ≡ whole → length some ≡ place → others ≡ drop place whole
cut_second [] others whole place is count = rw (← count) is
cut_second (x ∷ some) others whole place is count =
    rw (← count, ← is) (cut_second some others (some ++ others) (length some) refl refl)

-- ---- the two chunks, and those beside them

pub first_half : (chunks : Chunks) (at place : ℕ) → at < length chunks → chunk_at (parted chunks at place) at ≡ take place (chunk_at chunks at)
first_half [] at place within = absurd (omega arith)
first_half (chunk ∷ chunks) zero place within = refl
first_half (chunk ∷ chunks) (suc at) place within = first_half chunks at place (omega arith)

pub second_half : (chunks : Chunks) (at place : ℕ) → at < length chunks → chunk_at (parted chunks at place) (suc at) ≡ drop place (chunk_at chunks at)
second_half [] at place within = absurd (omega arith)
second_half (chunk ∷ chunks) zero place within = refl
second_half (chunk ∷ chunks) (suc at) place within = second_half chunks at place (omega arith)

before_both : (chunks : Chunks) (at place : ℕ) → at < length chunks → rows_of (take at (parted chunks at place)) ≡ rows_of (take at chunks)
before_both [] at place within = absurd (omega arith)
before_both (chunk ∷ chunks) zero place within = refl
before_both (chunk ∷ chunks) (suc at) place within = ap (λ rows. chunk ++ rows) (before_both chunks at place (omega arith))

before_second : (chunks : Chunks) (at place : ℕ) → at < length chunks → rows_of (take (suc at) (parted chunks at place)) ≡ rows_of (take at chunks) ++ take place (chunk_at chunks at)
before_second [] at place within = absurd (omega arith)
before_second (chunk ∷ chunks) zero place within = append-nil (take place chunk)
before_second (chunk ∷ chunks) (suc at) place within = ap (λ rows. chunk ++ rows) (before_second chunks at place (omega arith)) ∙ sym (append_assoc chunk (rows_of (take at chunks)) (take place (chunk_at chunks at)))

behind_first : (chunks : Chunks) (at place : ℕ) → at < length chunks → rows_of (drop (suc at) (parted chunks at place)) ≡ drop place (chunk_at chunks at) ++ rows_of (drop (suc at) chunks)
behind_first [] at place within = absurd (omega arith)
behind_first (chunk ∷ chunks) zero place within = refl
behind_first (chunk ∷ chunks) (suc at) place within = behind_first chunks at place (omega arith)

behind_both : (chunks : Chunks) (at place : ℕ) → at < length chunks → rows_of (drop (suc (suc at)) (parted chunks at place)) ≡ rows_of (drop (suc at) chunks)
behind_both [] at place within = absurd (omega arith)
behind_both (chunk ∷ chunks) zero place within = refl
behind_both (chunk ∷ chunks) (suc at) place within = behind_both chunks at place (omega arith)

-- ---- a spot in the first of them, and in the second

module _ (chunks : Chunks) (spot : Spot) (place : ℕ) (within : spot.chunk < length chunks) where
  abbrev both : Chunks
  both = parted chunks spot.chunk place

  abbrev here : Rows
  here = chunk_at chunks spot.chunk

  abbrev lower : Rows
  lower = rows_of (take spot.chunk chunks)

  abbrev upper : Rows
  upper = rows_of (drop (suc spot.chunk) chunks)

  pub before_stays : spot.at ≤ place → before (parted chunks spot.chunk place) spot ≡ before chunks spot
  before_stays le =
      ap (λ rows. rows ++ take spot.at (chunk_at both spot.chunk)) (before_both chunks spot.chunk place within)
      ∙ ap (λ chunk. lower ++ take spot.at chunk) (first_half chunks spot.chunk place within)
      ∙ ap (λ rows. lower ++ rows) (take_less here spot.at place le)

  pub from_stays : spot.at ≤ place → from (parted chunks spot.chunk place) spot ≡ from chunks spot
  from_stays le =
      ap (λ chunk. drop spot.at chunk ++ rows_of (drop (suc spot.chunk) both)) (first_half chunks spot.chunk place within)
      ∙ ap (λ rows. drop spot.at (take place here) ++ rows) (behind_first chunks spot.chunk place within)
      ∙ sym (append_assoc (drop spot.at (take place here)) (drop place here) upper)
      ∙ ap (λ rows. rows ++ upper) (drop_less here spot.at place le)

  module _ (other : Spot) (next : other.chunk ≡ suc spot.chunk) (is : spot.at ≡ place + other.at) where
    pub before_moves : before (parted chunks spot.chunk place) other ≡ before chunks spot
    before_moves =
        ap (λ n. rows_of (take n both) ++ take other.at (chunk_at both n)) next
        ∙ ap (λ rows. rows ++ take other.at (chunk_at both (suc spot.chunk))) (before_second chunks spot.chunk place within)
        ∙ ap (λ chunk. (lower ++ take place here) ++ take other.at chunk) (second_half chunks spot.chunk place within)
        ∙ append_assoc lower (take place here) (take other.at (drop place here))
        ∙ ap (λ rows. lower ++ rows) (take_more here spot.at place other.at is)

    pub from_moves : from (parted chunks spot.chunk place) other ≡ from chunks spot
    from_moves =
        ap (λ n. drop other.at (chunk_at both n) ++ rows_of (drop (suc n) both)) next
        ∙ ap (λ chunk. drop other.at chunk ++ rows_of (drop (suc (suc spot.chunk)) both)) (second_half chunks spot.chunk place within)
        ∙ ap (λ rows. drop other.at (drop place here) ++ rows) (behind_both chunks spot.chunk place within)
        ∙ ap (λ rows. rows ++ upper) (drop_more here spot.at place other.at is)

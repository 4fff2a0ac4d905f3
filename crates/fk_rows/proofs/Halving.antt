-- The chunk in which a ticket would stand, found by halves, and the place that a walk comes to.
use Rattle.std.proofs.Common.{◌≡◌, ℕ, zero, suc, ◌<◌, ◌≤◌, List, [], ◌∷◌, ◌++◌, ◌+◌, ◌-◌, length, take, drop, true, false, Option, Some, None, slice_get, refl, sym, subst, ap, arith, ◌∙◌}
use Rattle.std.specs.Prelude.{nat_lt, option_map}
use Rattle.std.specs.Option.{option_map_or}
use Rattle.std.proofs.lemmas.Bool.Decides.{nat_tests}
use Rattle.fk_model.specs.declared.row.Row.{Row}
use Rattle.fk_model.specs.Rows.{ticket_of}
use Rattle.fk_rows.specs.declared.spot.Span.{Span}
use Rattle.fk_rows.specs.declared.spot.Spot.{Spot}
use Rattle.fk_rows.specs.Chunks.{Filed, rows_of, chunk_at, IsFilled}
use Rattle.fk_rows.specs.Order.{AreAbove, AreBelow, AreRising}
use Rattle.fk_rows.specs.Searches.{IsGapIn}
use Rattle.fk_rows.specs.Spots.{IsAt, IsBetween, IsGap, IsChunkOf}
use Rattle.fk_rows.proofs.Parts.{all_append}
use Rattle.fk_rows.proofs.Rising.{rising_left, rising_right, rising_before, above_less, below_more}
use Rattle.fk_rows.proofs.Chunking.{Chunks, split_at, split_before, all_at}

none_left : (chunks : Chunks) → rows_of (drop (length chunks) chunks) ≡ []
none_left [] = refl
none_left (chunk ∷ chunks) = none_left chunks

pub between_all : (chunks : Chunks) (ticket count : ℕ) → count ≡ length chunks → IsBetween chunks ticket (record { low = 0; high = count })
between_all chunks ticket count is = record {
  order = omega arith;
  within = omega (arith, is);
  apart = λ some. omega (arith, is, some);
  below = tt;
  above = rw (is, none_left chunks) tt;
}

-- the first row of a chunk
first_of : (chunks : Chunks) (at : ℕ) (first : Filed) → slice_get (chunk_at chunks at) 0 ≡ Some first → rows_of (drop at chunks) ≡ first ∷ drop 1 (rows_of (drop at chunks))
first_of [] zero first is =
    let none : None ≡ Some first = is in
    absurd (cc)
first_of [] (suc at) first is =
    let none : None ≡ Some first = is in
    absurd (cc)
first_of ([] ∷ chunks) zero first is =
    let none : None ≡ Some first = is in
    absurd (cc)
first_of ((x ∷ chunk) ∷ chunks) zero first is =
    let got : Some x ≡ Some first = is in
    let same : x ≡ first = cc in
    ap (λ (y : Filed). y ∷ (chunk ++ rows_of chunks)) same
first_of (chunk ∷ chunks) (suc at) first is = first_of chunks at first is

some_first : (chunk : List Filed) → 0 < length chunk → slice_get chunk 0 ≡ None → ⊥
some_first [] some none = absurd (omega arith)
some_first (x ∷ chunk) some none =
    let got : Some x ≡ None = none in
    absurd (cc)

module _ (chunks : Chunks) (rising : AreRising (rows_of chunks)) (at ticket : ℕ) where
  parted : AreRising (rows_of (take at chunks) ++ rows_of (drop at chunks))
  parted = subst AreRising (split_before chunks at) rising

  above_first : (first : Filed) → slice_get (chunk_at chunks at) 0 ≡ Some first → ticket < first.0 → AreAbove ticket (rows_of (drop at chunks))
  above_first first is less =
      let rest : AreRising (first ∷ drop 1 (rows_of (drop at chunks))) = subst AreRising (first_of chunks at first is) (rising_right (rows_of (take at chunks)) (rows_of (drop at chunks)) parted) in
      let above : AreAbove ticket (first ∷ drop 1 (rows_of (drop at chunks))) = (less, above_less ticket first.0 (omega (arith, less)) (drop 1 (rows_of (drop at chunks))) rest.0) in
      subst (AreAbove ticket) (sym (first_of chunks at first is)) above

  below_first : (first : Filed) → slice_get (chunk_at chunks at) 0 ≡ Some first → first.0 ≤ ticket → AreBelow ticket (rows_of (take at chunks))
  below_first first is le =
      let all : AreRising (rows_of (take at chunks) ++ first ∷ drop 1 (rows_of (drop at chunks))) = subst (λ rows. AreRising (rows_of (take at chunks) ++ rows)) (first_of chunks at first is) parted in
      below_more first.0 ticket le (rows_of (take at chunks)) (rising_before (rows_of (take at chunks)) (drop 1 (rows_of (drop at chunks))) first all)

  begins : (first : Option Filed) → slice_get (chunk_at chunks at) 0 ≡ first → option_map_or (λ filed. nat_lt ticket (ticket_of filed)) first false ≡ true → AreAbove ticket (rows_of (drop at chunks))
  begins None is test = absurd (cc)
  begins (Some first) is test = above_first first is (grind (arith, nat_tests, test))

  begins_not : 0 < length (chunk_at chunks at) → (first : Option Filed) → slice_get (chunk_at chunks at) 0 ≡ first → option_map_or (λ filed. nat_lt ticket (ticket_of filed)) first false ≡ false → AreBelow ticket (rows_of (take at chunks))
  begins_not some None is test = absurd (some_first (chunk_at chunks at) some is)
  begins_not some (Some first) is test = below_first first is (grind (arith, nat_tests, test))

pub halved_above : (chunks : Chunks) (ticket at : ℕ) (span : Span) → AreRising (rows_of chunks) → IsBetween chunks ticket span → span.low < at → at < span.high
    → option_map_or (λ filed. nat_lt ticket (ticket_of filed)) (slice_get (chunk_at chunks at) 0) false ≡ true → IsBetween chunks ticket (record { low = span.low; high = at })
halved_above chunks ticket at span rising between more less test = record {
  order = omega (arith, more);
  within = omega (arith, between.within, less);
  apart = λ some. more;
  below = between.below;
  above = begins chunks rising at ticket (slice_get (chunk_at chunks at) 0) refl test;
}

pub halved_below : (chunks : Chunks) (ticket at : ℕ) (span : Span) → AreRising (rows_of chunks) → IsFilled chunks → IsBetween chunks ticket span → span.low < at → at < span.high
    → option_map_or (λ filed. nat_lt ticket (ticket_of filed)) (slice_get (chunk_at chunks at) 0) false ≡ false → IsBetween chunks ticket (record { low = at; high = span.high })
halved_below chunks ticket at span rising filled between more less test =
    let within : at < length chunks = omega (arith, between.within, less) in
    let some : 0 < length (chunk_at chunks at) = all_at (λ chunk. 0 < length chunk) chunks at (filled (omega (arith, within, more))) within in
    record {
      order = omega (arith, less);
      within = between.within;
      apart = λ any. less;
      below = begins_not chunks rising at ticket some (slice_get (chunk_at chunks at) 0) refl test;
      above = between.above;
    }

none_above : (ticket at : ℕ) → AreAbove {X = Row} ticket (rows_of (drop at []))
none_above ticket zero = tt
none_above ticket (suc at) = tt

pub between_one : (chunks : Chunks) (ticket : ℕ) (span : Span) → IsBetween chunks ticket span → span.high ≤ span.low + 1 → IsChunkOf chunks ticket span.low
between_one [] ticket span between near = record {
  within = omega (arith, between.order, between.within);
  below = between.below;
  above = none_above ticket (suc span.low);
}
between_one (chunk ∷ chunks) ticket span between near =
    let next : span.high ≡ suc span.low = omega (arith, near, between.apart (omega arith)) in
    record {
      within = omega (arith, next, between.within);
      below = between.below;
      above = subst (λ at. AreAbove ticket (rows_of (drop at (chunk ∷ chunks)))) next between.above;
    }

-- ---- in the chunk

pub place_within : (rows : List Filed) (ticket at : ℕ) → option_map ticket_of (slice_get rows at) ≡ Some ticket → at < length rows
place_within [] ticket zero is =
    let none : None ≡ Some ticket = is in
    absurd (cc)
place_within [] ticket (suc at) is =
    let none : None ≡ Some ticket = is in
    absurd (cc)
place_within (x ∷ rows) ticket zero is = omega arith
place_within (x ∷ rows) ticket (suc at) is = omega (arith, place_within rows ticket at is)

chunk_within : (chunks : Chunks) (at place : ℕ) → place < length (chunk_at chunks at) → at < length chunks
chunk_within [] zero place within = absurd (omega arith)
chunk_within [] (suc at) place within = absurd (omega arith)
chunk_within (chunk ∷ chunks) zero place within = omega arith
chunk_within (chunk ∷ chunks) (suc at) place within = omega (arith, chunk_within chunks at place within)

pub gap_in_none : (rows : List Filed) (ticket : ℕ) → rows ≡ [] → IsGapIn rows ticket 0
gap_in_none [] ticket none = record { within = omega arith; below = tt; above = tt }
gap_in_none (x ∷ rows) ticket none = absurd (omega (arith, ap length none))

pub place_in_chunk : (chunks : Chunks) (ticket : ℕ) (spot : Spot) → option_map ticket_of (slice_get (chunk_at chunks spot.chunk) spot.at) ≡ Some ticket → IsAt chunks ticket spot
place_in_chunk chunks ticket spot is = record {
  chunk = chunk_within chunks spot.chunk spot.at (place_within (chunk_at chunks spot.chunk) ticket spot.at is);
  at = place_within (chunk_at chunks spot.chunk) ticket spot.at is;
  here = is;
}

pub rising_in_chunk : (chunks : Chunks) (at : ℕ) → AreRising (rows_of chunks) → AreRising (chunk_at chunks at)
rising_in_chunk chunks at rising =
    let all : AreRising (rows_of (take at chunks) ++ (chunk_at chunks at ++ rows_of (drop (suc at) chunks))) = subst AreRising (split_at chunks at) rising in
    rising_left (chunk_at chunks at) (rows_of (drop (suc at) chunks)) (rising_right (rows_of (take at chunks)) (chunk_at chunks at ++ rows_of (drop (suc at) chunks)) all)

pub gap_in_chunk : (chunks : Chunks) (ticket : ℕ) (spot : Spot) → IsChunkOf chunks ticket spot.chunk → IsGapIn (chunk_at chunks spot.chunk) ticket spot.at → IsGap chunks ticket spot
gap_in_chunk chunks ticket spot found gap = record {
  chunk = found.within;
  at = gap.within;
  below = all_append (λ row. row.0 < ticket) (rows_of (take spot.chunk chunks)) (take spot.at (chunk_at chunks spot.chunk)) found.below gap.below;
  above = all_append (λ row. ticket < row.0) (drop spot.at (chunk_at chunks spot.chunk)) (rows_of (drop (suc spot.chunk) chunks)) gap.above found.above;
}

-- ---- a walk over the chunks

pub got_left : (xs ys : List Filed) (k : ℕ) → k < length xs → slice_get (xs ++ ys) k ≡ slice_get xs k
got_left [] ys k within = absurd (omega arith)
got_left (x ∷ xs) ys zero within = refl
got_left (x ∷ xs) ys (suc k) within = got_left xs ys k (omega arith)

got_right : (xs ys : List Filed) (k left : ℕ) → k ≡ length xs + left → slice_get (xs ++ ys) k ≡ slice_get ys left
got_right [] ys k left is =
    let same : k ≡ left = omega (arith, is) in
    ap (slice_get ys) same
got_right (x ∷ xs) ys zero left is = absurd (omega (arith, is))
got_right (x ∷ xs) ys (suc k) left is = got_right xs ys k left (omega (arith, is))

got_drop : (chunks : Chunks) (at : ℕ) → rows_of (drop at chunks) ≡ chunk_at chunks at ++ rows_of (drop (suc at) chunks)
got_drop [] zero = refl
got_drop [] (suc at) = refl
got_drop (chunk ∷ chunks) zero = refl
got_drop (chunk ∷ chunks) (suc at) = got_drop chunks at

pub walk_here : (chunks : Chunks) (at left place : ℕ) → slice_get (rows_of (drop at chunks)) left ≡ slice_get (rows_of chunks) place → left < length (chunk_at chunks at)
    → slice_get (chunk_at chunks at) left ≡ slice_get (rows_of chunks) place
walk_here chunks at left place so_far within =
    sym (got_left (chunk_at chunks at) (rows_of (drop (suc at) chunks)) left within) ∙ ap (λ rows. slice_get rows left) (sym (got_drop chunks at)) ∙ so_far

pub walk_on : (chunks : Chunks) (at left place : ℕ) → slice_get (rows_of (drop at chunks)) left ≡ slice_get (rows_of chunks) place → length (chunk_at chunks at) ≤ left
    → slice_get (rows_of (drop (suc at) chunks)) (left - length (chunk_at chunks at)) ≡ slice_get (rows_of chunks) place
walk_on chunks at left place so_far past =
    sym (got_right (chunk_at chunks at) (rows_of (drop (suc at) chunks)) left (left - length (chunk_at chunks at)) (omega (arith, past))) ∙ ap (λ rows. slice_get rows left) (sym (got_drop chunks at)) ∙ so_far

none_past : (chunks : Chunks) (at : ℕ) → at ≡ length chunks → chunk_at chunks at ≡ []
none_past [] zero past = refl
none_past [] (suc at) past = refl
none_past (chunk ∷ chunks) zero past = absurd (omega (arith, past))
none_past (chunk ∷ chunks) (suc at) past = none_past chunks at (omega (arith, past))

pub walk_past : (chunks : Chunks) (end at left place : ℕ) → slice_get (rows_of (drop at chunks)) left ≡ slice_get (rows_of chunks) place → end ≡ length chunks → at ≡ length chunks
    → slice_get (chunk_at chunks end) 0 ≡ slice_get (rows_of chunks) place
walk_past chunks end at left place so_far ends past =
    let none : rows_of (drop at chunks) ≡ [] = ap (λ n. rows_of (drop n chunks)) past ∙ none_left chunks in
    ap (λ chunk. slice_get chunk 0) (none_past chunks end ends) ∙ ap (λ rows. slice_get rows left) (sym none) ∙ so_far

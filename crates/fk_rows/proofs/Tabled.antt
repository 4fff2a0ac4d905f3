-- The steps on a table of rows, by the spot of a ticket.
use Rattle.std.proofs.Common.{◌≡◌, ℕ, suc, List, [], ◌∷◌, ◌++◌, length, Option, Some, None, option_map, slice_get, refl, sym, ap, subst, ◌∙◌}
use Rattle.fk_model.specs.declared.row.Row.{Row}
use Rattle.fk_model.specs.Rows.{ticket_of, row_of, filed_at, row_at, with_row, with_changed, without_row}
use Rattle.fk_rows.specs.declared.spot.Spot.{Spot}
use Rattle.fk_rows.specs.Chunks.{Filed, chunk_at, rows_of}
use Rattle.fk_rows.specs.Order.{AreAbove, AreBelow, AreRising}
use Rattle.fk_rows.specs.Spots.{before, behind, from, IsAt, IsGap}
use Rattle.fk_rows.proofs.Chunking.{Chunks}
use Rattle.fk_rows.proofs.Rising.{rising_in, rising_out, rising_changed, rising_before, rising_after}
use Rattle.fk_rows.proofs.Spotted.{stands, gap_parts}
use Rattle.fk_rows.proofs.Views.{with_row_between, without_same, without_absent, filed_same, filed_absent, changed_same}

-- how many rows there are with another one, with one more, and with one less
same_count : (some others : List Filed) (x y : Filed) → length (some ++ x ∷ others) ≡ length (some ++ y ∷ others)
same_count [] others x y = refl
same_count (z ∷ some) others x y = ap suc (same_count some others x y)

one_more : (some others : List Filed) (x : Filed) → length (some ++ x ∷ others) ≡ suc (length (some ++ others))
one_more [] others x = refl
one_more (z ∷ some) others x = ap suc (one_more some others x)

-- what stands at the spot of a ticket
pub record Stands (chunks : List (List Filed)) (ticket : ℕ) (spot : Spot) : Type 0 where
  pub filed : Filed
  pub is : slice_get (chunk_at chunks spot.chunk) spot.at ≡ Some filed
  pub same : filed.0 ≡ ticket

stand_of : (held : Option Filed) (ticket : ℕ) → option_map ticket_of held ≡ Some ticket → record { filed : Filed; is : held ≡ Some filed; same : filed.0 ≡ ticket }
stand_of None ticket is =
    let none : None ≡ Some ticket = is in
    absurd (cc)
stand_of (Some filed) ticket is =
    let got : Some filed.0 ≡ Some ticket = is in
    record { filed = filed; is = refl; same = cc }

module _ (chunks : Chunks) (ticket : ℕ) (spot : Spot) (rising : AreRising (rows_of chunks)) (found : IsAt chunks ticket spot) where
  pub standing : Stands chunks ticket spot
  standing =
      let one = stand_of (slice_get (chunk_at chunks spot.chunk) spot.at) ticket found.here in
      record { filed = one.filed; is = one.is; same = one.same }

  whole : rows_of chunks ≡ before chunks spot ++ standing.filed ∷ behind chunks spot
  whole = stands chunks spot standing.filed standing.is

  ordered : AreRising (before chunks spot ++ standing.filed ∷ behind chunks spot)
  ordered = subst AreRising whole rising

  below : AreBelow ticket (before chunks spot)
  below = subst (λ t. AreBelow t (before chunks spot)) standing.same (rising_before (before chunks spot) (behind chunks spot) standing.filed ordered)

  above : AreAbove ticket (behind chunks spot)
  above = subst (λ t. AreAbove t (behind chunks spot)) standing.same (rising_after (before chunks spot) (behind chunks spot) standing.filed ordered)

  pub found_filed : filed_at (rows_of chunks) ticket ≡ slice_get (chunk_at chunks spot.chunk) spot.at
  found_filed = ap (λ rows. filed_at rows ticket) whole ∙ filed_same (before chunks spot) (behind chunks spot) standing.filed ticket standing.same below ∙ sym standing.is

  pub found_row : option_map row_of (slice_get (chunk_at chunks spot.chunk) spot.at) ≡ row_at (rows_of chunks) ticket
  found_row = ap (option_map row_of) (sym found_filed)

  pub found_without : without_row (rows_of chunks) ticket ≡ before chunks spot ++ behind chunks spot
  found_without = ap (λ rows. without_row rows ticket) whole ∙ without_same (before chunks spot) (behind chunks spot) standing.filed ticket standing.same below above

  pub rising_without : AreRising (before chunks spot ++ behind chunks spot)
  rising_without = rising_out (before chunks spot) (behind chunks spot) standing.filed ordered

  pub found_changed : (change : Row → Row) → with_changed (rows_of chunks) ticket change ≡ before chunks spot ++ (ticket_of standing.filed, change (row_of standing.filed)) ∷ behind chunks spot
  found_changed change = ap (λ rows. with_changed rows ticket change) whole ∙ changed_same (before chunks spot) (behind chunks spot) standing.filed change ticket standing.same below above
      ∙ ap (λ t. before chunks spot ++ (t, change (row_of standing.filed)) ∷ behind chunks spot) (sym standing.same)

  pub rising_with : (change : Row → Row) → AreRising (before chunks spot ++ (ticket_of standing.filed, change (row_of standing.filed)) ∷ behind chunks spot)
  rising_with change = rising_changed (before chunks spot) (behind chunks spot) standing.filed (ticket_of standing.filed, change (row_of standing.filed)) refl ordered

  pub count_changed : (change : Row → Row) → length (before chunks spot ++ (ticket_of standing.filed, change (row_of standing.filed)) ∷ behind chunks spot) ≡ length (rows_of chunks)
  count_changed change = same_count (before chunks spot) (behind chunks spot) (ticket_of standing.filed, change (row_of standing.filed)) standing.filed ∙ ap length (sym whole)

  pub count_without : length (rows_of chunks) ≡ suc (length (before chunks spot ++ behind chunks spot))
  count_without = ap length whole ∙ one_more (before chunks spot) (behind chunks spot) standing.filed

  pub found_present : filed_at (rows_of chunks) ticket ≡ None → ⊥
  found_present none =
      let wrong : Some standing.filed ≡ None = sym standing.is ∙ sym found_filed ∙ none in
      absurd (cc)

module _ (chunks : Chunks) (ticket : ℕ) (spot : Spot) (rising : AreRising (rows_of chunks)) (gap : IsGap chunks ticket spot) where
  parts : rows_of chunks ≡ before chunks spot ++ from chunks spot
  parts = gap_parts chunks spot

  pub gap_filed : filed_at (rows_of chunks) ticket ≡ None
  gap_filed = ap (λ rows. filed_at rows ticket) parts ∙ filed_absent (before chunks spot) (from chunks spot) ticket gap.below gap.above

  pub gap_row : row_at (rows_of chunks) ticket ≡ None
  gap_row = ap (option_map row_of) gap_filed

  pub gap_without : without_row (rows_of chunks) ticket ≡ rows_of chunks
  gap_without = ap (λ rows. without_row rows ticket) parts ∙ without_absent (before chunks spot) (from chunks spot) ticket gap.below gap.above ∙ sym parts

  pub gap_with : (row : Row) → with_row (rows_of chunks) ticket row ≡ before chunks spot ++ (ticket, row) ∷ from chunks spot
  gap_with row = ap (λ rows. with_row rows ticket row) parts ∙ with_row_between (before chunks spot) (from chunks spot) ticket row gap.below gap.above

  pub rising_put : (row : Row) → AreRising (before chunks spot ++ (ticket, row) ∷ from chunks spot)
  rising_put row = rising_in (before chunks spot) (from chunks spot) (ticket, row) (subst AreRising parts rising) gap.below gap.above

  pub count_put : (row : Row) → length (before chunks spot ++ (ticket, row) ∷ from chunks spot) ≡ suc (length (rows_of chunks))
  count_put row = one_more (before chunks spot) (from chunks spot) (ticket, row) ∙ ap suc (ap length (sym parts))

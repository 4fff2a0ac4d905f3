-- Rows in order of ticket: their parts, one more, one less, and what a search finds.
use Rattle.std.proofs.Common.{◌≡◌, ℕ, zero, suc, ◌<◌, ◌≤◌, List, [], ◌∷◌, ◌++◌, ◌+◌, length, map, take, drop, get_or, Result, Ok, Err, IfOk, IfErr, Some, option_map, sym, ap, arith, ◌∙◌}
use Rattle.std.specs.List.Sorted.{IsSearchInRange, IsBinarySearchResult, IsNonDecreasingBy}
use Rattle.std.specs.Ordering.{nat_cmp, ordering_index}
use Rattle.std.proofs.lemmas.Cmp.{ranked}
use Rattle.std.proofs.lemmas.List.Sorted.{IsNonDecreasingBy-from_default}
use Rattle.std.proofs.lemmas.Option.{slice_get-get_or}
use Rattle.std.proofs.lemmas.Bool.Decides.{nat_tests}
use Rattle.fk_model.specs.declared.row.Row.{Row}
use Rattle.fk_model.specs.Rows.{ticket_of, IsByTicket}
use Rattle.fk_rows.specs.Chunks.{Filed}
use Rattle.fk_rows.specs.Order.{AreAbove, AreBelow, AreRising}
use Rattle.fk_rows.specs.Searches.{IsPlaceIn, IsGapIn}
use Rattle.fk_rows.proofs.Parts.{all_append, all_left, all_right, all_weaker}

-- one more, between the lesser and the greater
pub rising_in : (before after : List Filed) (filed : Filed) → AreRising (before ++ after) → AreBelow filed.0 before → AreAbove filed.0 after → AreRising (before ++ filed ∷ after)
rising_in [] after filed rising below above = (above, rising)
rising_in (x ∷ before) after filed rising below above = (all_append _ before (filed ∷ after) (all_left _ before after rising.0) (below.0, all_right _ before after rising.0), rising_in before after filed rising.1 below.1 above)

-- one less
pub rising_out : (before after : List Filed) (filed : Filed) → AreRising (before ++ filed ∷ after) → AreRising (before ++ after)
rising_out [] after filed rising = rising.1
rising_out (x ∷ before) after filed rising =
    let rest : AreAbove x.0 (filed ∷ after) = all_right _ before (filed ∷ after) rising.0 in
    (all_append _ before after (all_left _ before (filed ∷ after) rising.0) rest.1, rising_out before after filed rising.1)

-- another row under the same ticket
pub rising_changed : (before after : List Filed) (filed other : Filed) → filed.0 ≡ other.0 → AreRising (before ++ filed ∷ after) → AreRising (before ++ other ∷ after)
rising_changed [] after filed other same rising = (rw (← same) rising.0, rising.1)
rising_changed (x ∷ before) after filed other same rising =
    let rest : AreAbove x.0 (filed ∷ after) = all_right _ before (filed ∷ after) rising.0 in
    (all_append _ before (other ∷ after) (all_left _ before (filed ∷ after) rising.0) (rw (← same) rest.0, rest.1), rising_changed before after filed other same rising.1)

pub rising_before : (before after : List Filed) (filed : Filed) → AreRising (before ++ filed ∷ after) → AreBelow filed.0 before
rising_before [] after filed rising = tt
rising_before (x ∷ before) after filed rising =
    let rest : AreAbove x.0 (filed ∷ after) = all_right _ before (filed ∷ after) rising.0 in
    (rest.0, rising_before before after filed rising.1)

pub rising_after : (before after : List Filed) (filed : Filed) → AreRising (before ++ filed ∷ after) → AreAbove filed.0 after
rising_after [] after filed rising = rising.0
rising_after (x ∷ before) after filed rising = rising_after before after filed rising.1

-- parts
pub rising_left : (before after : List Filed) → AreRising (before ++ after) → AreRising before
rising_left [] after rising = tt
rising_left (x ∷ before) after rising = (all_left _ before after rising.0, rising_left before after rising.1)

pub rising_right : (before after : List Filed) → AreRising (before ++ after) → AreRising after
rising_right [] after rising = rising
rising_right (x ∷ before) after rising = rising_right before after rising.1

-- what is above a ticket is above a lesser one, and what is below it below a greater one
pub above_less : (lesser ticket : ℕ) → lesser ≤ ticket → (rows : List Filed) → AreAbove ticket rows → AreAbove lesser rows
above_less lesser ticket le rows above = all_weaker (λ row. ticket < row.0) (λ row. lesser < row.0) (λ row more. omega (arith, le, more)) rows above

pub below_more : (ticket greater : ℕ) → ticket ≤ greater → (rows : List Filed) → AreBelow ticket rows → AreBelow greater rows
below_more ticket greater le rows below = all_weaker (λ row. row.0 < ticket) (λ row. row.0 < greater) (λ row less. omega (arith, le, less)) rows below

-- ---- by place

above_in : (ticket : ℕ) (rows : List Filed) → AreAbove ticket rows → (j : ℕ) → j < length (map ticket_of rows) → ticket < get_or (map ticket_of rows) j 0
above_in ticket [] above j within = absurd (omega arith)
above_in ticket (x ∷ rows) above zero within = above.0
above_in ticket (x ∷ rows) above (suc j) within = above_in ticket rows above.1 j (omega arith)

rises_in : (rows : List Filed) → AreRising rows → (i j : ℕ) → i < j → j < length (map ticket_of rows) → get_or (map ticket_of rows) i 0 < get_or (map ticket_of rows) j 0
rises_in [] rising i j less within = absurd (omega arith)
rises_in (x ∷ rows) rising i zero less within = absurd (omega arith)
rises_in (x ∷ rows) rising zero (suc j) less within = above_in x.0 rows rising.0 j (omega arith)
rises_in (x ∷ rows) rising (suc i) (suc j) less within = rises_in rows rising.1 i j (omega arith) (omega arith)

pub by_ticket : (rows : List Filed) → AreRising rows → IsByTicket rows
by_ticket rows rising k within = rises_in rows rising k (k + 1) (omega arith) within

-- the ticket at a place
abbrev ticket_at : List Filed → ℕ → Filed → ℕ
ticket_at rows at other = let filed = get_or rows at other in filed.0

above_at : (ticket : ℕ) (rows : List Filed) (other : Filed) → AreAbove ticket rows → (j : ℕ) → j < length rows → ticket < ticket_at rows j other
above_at ticket [] other above j within = absurd (omega arith)
above_at ticket (x ∷ rows) other above zero within = above.0
above_at ticket (x ∷ rows) other above (suc j) within = above_at ticket rows other above.1 j (omega arith)

rises : (rows : List Filed) (other : Filed) → AreRising rows → (i j : ℕ) → i < j → j < length rows → ticket_at rows i other < ticket_at rows j other
rises [] other rising i j less within = absurd (omega arith)
rises (x ∷ rows) other rising i zero less within = absurd (omega arith)
rises (x ∷ rows) other rising zero (suc j) less within = above_at x.0 rows other rising.0 j (omega arith)
rises (x ∷ rows) other rising (suc i) (suc j) less within = rises rows other rising.1 i j (omega arith) (omega arith)

below_take : (rows : List Filed) (other : Filed) (ticket at : ℕ) → at ≤ length rows → ((j : ℕ) → j < at → ticket_at rows j other < ticket) → AreBelow ticket (take at rows)
below_take [] other ticket zero within less = tt
below_take [] other ticket (suc at) within less = tt
below_take (x ∷ rows) other ticket zero within less = tt
below_take (x ∷ rows) other ticket (suc at) within less = (less 0 (omega arith), below_take rows other ticket at (omega arith) (λ j lt. less (suc j) (omega arith)))

above_drop : (rows : List Filed) (other : Filed) (ticket at : ℕ) → ((j : ℕ) → at ≤ j → j < length rows → ticket < ticket_at rows j other) → AreAbove ticket (drop at rows)
above_drop [] other ticket zero more = tt
above_drop [] other ticket (suc at) more = tt
above_drop (x ∷ rows) other ticket zero more = (more 0 (omega arith) (omega arith), above_drop rows other ticket zero (λ j le lt. more (suc j) (omega arith) (omega arith)))
above_drop (x ∷ rows) other ticket (suc at) more = above_drop rows other ticket at (λ j le lt. more (suc j) (omega arith) (omega arith))

module _ (rows : List Filed) (other : Filed) (rising : AreRising rows) (ticket : ℕ) where
  comparisons_rise : IsNonDecreasingBy (λ filed. ordering_index (nat_cmp (ticket_of filed) ticket)) rows
  comparisons_rise = IsNonDecreasingBy-from_default (λ filed. ordering_index (nat_cmp (ticket_of filed) ticket)) rows other (λ i j le within.
      let tickets_rise : ticket_at rows i other ≤ ticket_at rows j other = grind (arith, rises rows other rising i j, λ (same : i ≡ j). ap (λ k. ticket_at rows k other) same) in
      grind (arith, nat_tests))

  searched_by : (r : Result ℕ ℕ) → IsSearchInRange r (length rows) → IsBinarySearchResult (λ filed. nat_cmp (ticket_of filed) ticket) rows r → record { found : IfOk r (IsPlaceIn rows ticket); absent : IfErr r (IsGapIn rows ticket) }
  searched_by (Ok at) within equal =
      let here : ticket_at rows at other ≡ ticket = ranked _ ticket _ (sym (equal other)) in
      record { found = ap (option_map ticket_of) (slice_get-get_or rows at other within) ∙ ap Some here; absent = tt }
  searched_by (Err at) within parted = record {
    found = tt;
    absent = record {
      within = within;
      below = below_take rows other ticket at within (λ j lt. ranked _ ticket _ (sym ((parted comparisons_rise).0 j other (omega arith) lt)));
      above = above_drop rows other ticket at (λ j le lt. ranked _ ticket _ (sym ((parted comparisons_rise).1 j other le lt)));
    };
  }

none_below : (ticket at : ℕ) → AreBelow {X = Row} ticket (take at [])
none_below ticket zero = tt
none_below ticket (suc at) = tt

none_above : (ticket at : ℕ) → AreAbove {X = Row} ticket (drop at [])
none_above ticket zero = tt
none_above ticket (suc at) = tt

-- what a search by halves finds
pub searched : (rows : List Filed) → AreRising rows → (ticket : ℕ) → (r : Result ℕ ℕ) → IsSearchInRange r (length rows) → IsBinarySearchResult (λ filed. nat_cmp (ticket_of filed) ticket) rows r → record { found : IfOk r (IsPlaceIn rows ticket); absent : IfErr r (IsGapIn rows ticket) }
searched [] rising ticket (Ok at) within equal = absurd (omega arith)
searched [] rising ticket (Err at) within parted = record { found = tt; absent = record { within = within; below = none_below ticket at; above = none_above ticket at } }
searched (x ∷ rows) rising ticket r within result = searched_by (x ∷ rows) x rising ticket r within result

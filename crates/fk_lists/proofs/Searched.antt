-- What a search by halves finds in a list of pairs by first numbers.
use Rattle.std.proofs.Common.{◌≡◌, ◌∙◌, ◌+◌, ◌<◌, ◌≤◌, ℕ, List, length, take, drop, map, sym, ap, arith}
use Rattle.std.proofs.Common.{Result, Ok, Err, IfOk, IfErr, Some}
use Rattle.std.specs.Prelude.{option_map, slice_index_or, All}
use Rattle.std.specs.List.Sorted.{IsStrictlyIncreasing, IsSearchInRange, IsBinarySearchResult, IsNonDecreasingBy}
use Rattle.std.specs.Ordering.{nat_cmp, ordering_index}
use Rattle.std.specs.declared.cmp.Ordering.{Ordering}
use Rattle.std.proofs.lemmas.Bool.Decides.{nat_tests}
use Rattle.std.proofs.lemmas.Cmp.{ranked}
use Rattle.std.proofs.lemmas.Grind.{common_steps}
use Rattle.std.proofs.lemmas.List.{get_or-map}
use Rattle.std.proofs.lemmas.List.Elements.{All-from_get_or}
use Rattle.std.proofs.lemmas.List.Sorted.{IsNonDecreasingBy-from_default}
use Rattle.std.proofs.lemmas.Map.Keys.{sorted_from_strictly_increasing, below_from_sorted}
use Rattle.std.proofs.lemmas.Option.{slice_get-get_or}
use Rattle.fk_model.specs.Orders.{number_in}
use Rattle.fk_lists.specs.Places.{IsGap, IsPlace}

-- the first number at a place
abbrev number_at : List (ℕ × ℕ) → ℕ → ℕ
number_at pairs at = number_in (slice_index_or pairs at (0, 0))

rises : (pairs : List (ℕ × ℕ)) → IsStrictlyIncreasing (map number_in pairs)
    → (i j : ℕ) → i < j → j < length (map number_in pairs) → j < length pairs → number_at pairs i < number_at pairs j
rises pairs rising i j less among within =
    rw (← get_or-map number_in pairs i (0, 0) 0 (omega arith), ← get_or-map number_in pairs j (0, 0) 0 within)
    (below_from_sorted (map number_in pairs) i j 0 (sorted_from_strictly_increasing _ rising) less among)

below_take : (pairs : List (ℕ × ℕ)) (number at : ℕ) → ((j : ℕ) → j < at → number_at pairs j < number)
    → All (λ pair. number_in pair < number) (take at pairs)
below_take pairs number at less =
    All-from_get_or (λ pair. number_in pair < number) (take at pairs) (0, 0)
    (λ j within. grind (arith, common_steps, less j))

above_drop : (pairs : List (ℕ × ℕ)) (number at : ℕ)
    → ((j : ℕ) → at ≤ j → j < length pairs → number < number_at pairs j)
    → All (λ pair. number < number_in pair) (drop at pairs)
above_drop pairs number at more =
    All-from_get_or (λ pair. number < number_in pair) (drop at pairs) (0, 0)
    (λ j within. grind (arith, common_steps, more (at + j)))

-- how a pair's first number compares to a number
abbrev compared : ℕ → ℕ × ℕ → Ordering
compared number pair = nat_cmp (number_in pair) number

module _ (pairs : List (ℕ × ℕ)) (rising : IsStrictlyIncreasing (map number_in pairs)) (number : ℕ) where
  comparisons_rise : IsNonDecreasingBy (λ pair. ordering_index (compared number pair)) pairs
  comparisons_rise =
      IsNonDecreasingBy-from_default (λ pair. ordering_index (compared number pair)) pairs (0, 0) (λ i j le within.
      let numbers_rise : number_at pairs i ≤ number_at pairs j =
      grind (arith, common_steps, rises pairs rising i j, λ (same : i ≡ j). ap (number_at pairs) same) in
      grind (arith, nat_tests))

  pub searched : (r : Result ℕ ℕ) → IsSearchInRange r (length pairs) → IsBinarySearchResult (compared number) pairs r
      → record { found : IfOk r (λ at. IsPlace pairs number at); absent : IfErr r (λ at. IsGap pairs number at) }
  searched (Ok at) within equal =
      let here : number_at pairs at ≡ number = ranked _ number _ (sym (equal (0, 0))) in
      record { found = ap (option_map number_in) (slice_get-get_or pairs at (0, 0) within) ∙ ap Some here; absent = tt }
  searched (Err at) within parted =
      let point = parted comparisons_rise in
      record {
        found = tt;
        absent = record {
          within = within;
          below = below_take pairs number at (λ j lt. ranked _ number _ (sym (point.0 j (0, 0) (omega arith) lt)));
          above = above_drop pairs number at (λ j le lt. ranked _ number _ (sym (point.1 j (0, 0) le lt)));
        };
      }

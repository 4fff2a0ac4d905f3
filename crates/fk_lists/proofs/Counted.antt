-- The pairs of all held, and their number.
use Rattle.std.proofs.Common.{◌≡◌, ℕ, ◌+◌, ◌≤◌, min, Bool, true, false, List, [], ◌∷◌, ◌++◌, filter, length}
use Rattle.std.proofs.Common.{nat_lt, refl, ap, sym, append-nil, ◌∙◌, arith}
use Rattle.std.specs.Prelude.{flat_map}
use Rattle.std.specs.Map.{values_of}
use Rattle.std.proofs.lemmas.List.{length-append}
use Rattle.std.proofs.lemmas.Bool.{ltb-false}
use Rattle.fk_lists.specs.Room.{all_pairs}
use Rattle.fk_lists.specs.PairLists.{PairList, is_filled, items_of}

-- the pairs of all held, one list after the other
abbrev pub pairs_in : List PairList → List (ℕ × ℕ)
pairs_in held = flat_map (λ list. list.items) held

-- ---- empty held add nothing

first_only : (entry : List ℕ × PairList) (entries : List (List ℕ × PairList)) (items : List (ℕ × ℕ)) (filled : Bool)
    → entry.1.items ≡ items → nat_lt 0 (length items) ≡ filled → is_filled entry ≡ filled
    → all_pairs (items_of (entry ∷ entries)) ≡ items ++ all_pairs (items_of entries)
first_only entry entries items true is longer test = rw (test, is) refl
first_only entry entries [] false is longer test = rw test refl
first_only entry entries (pair ∷ items) false is longer test =
    absurd (omega (arith, ltb-false 0 (length (pair ∷ items)) longer))

pub all_pairs_is : (entries : List (List ℕ × PairList)) → all_pairs (items_of entries) ≡ pairs_in (values_of entries)
all_pairs_is [] = refl
all_pairs_is (entry ∷ entries) =
    first_only entry entries entry.1.items (is_filled entry) refl refl refl
    ∙ ap (λ (pairs : List (ℕ × ℕ)). entry.1.items ++ pairs) (all_pairs_is entries)

-- ---- their number, which stands still at the end of its type

pub record IsCounted (count : ℕ) (left whole : List PairList) : Type 0 where
  pub within : count ≤ 18446744073709551615
  pub is : min (count + length (pairs_in left)) 18446744073709551615
      ≡ min (length (pairs_in whole)) 18446744073709551615

pub counted_start : (whole : List PairList) → IsCounted 0 whole whole
counted_start whole = record { within = omega arith; is = omega arith }

pub counted_on : (count : ℕ) (list : PairList) (left whole : List PairList) → IsCounted count (list ∷ left) whole
    → IsCounted (min (count + length list.items) 18446744073709551615) left whole
counted_on count list left whole counted =
    let parts = length-append list.items (pairs_in left) in
    record { within = omega arith; is = omega (arith, counted.is, parts) }

pub counted_end : (count : ℕ) (whole : List PairList) → IsCounted count [] whole
    → count ≡ min (length (pairs_in whole)) 18446744073709551615
counted_end count whole counted = omega (arith, counted.is, counted.within)

-- ---- those that pass a test

pub gathered : (test : ℕ × ℕ → Bool) (found : List (ℕ × ℕ)) (left whole : List PairList) (entries : List (List ℕ × PairList))
    → left ≡ [] → whole ≡ values_of entries → found ++ filter test (pairs_in left) ≡ filter test (pairs_in whole)
    → found ≡ filter test (all_pairs (items_of entries))
gathered test found left whole entries none all so_far =
    sym (append-nil found) ∙ ap (λ (held : List PairList). found ++ filter test (pairs_in held)) (sym none) ∙ so_far
    ∙ ap (λ (held : List PairList). filter test (pairs_in held)) all ∙ ap (filter test) (sym (all_pairs_is entries))

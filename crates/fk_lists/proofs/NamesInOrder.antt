-- The names that have a pair are in order.
use Rattle.std.proofs.Common.{◌≡◌, ◌≢◌, ℕ, Bool, true, false, List, [], ◌∷◌, length, nat_lt, refl, arith}
use Rattle.std.specs.Prelude.{All, AllPairs}
use Rattle.std.specs.List.{AllByRecursion}
use Rattle.std.specs.List.Sorted.{IsStrictlySortedBy}
use Rattle.std.specs.Map.{keys_of}
use Rattle.std.specs.Ordering.{nat_cmp}
use Rattle.std.specs.Cmp.Lexicographic.{slice_cmp}
use Rattle.std.specs.declared.cmp.Ordering.TheVariants as ordering
use Rattle.std.proofs.lemmas.List.Elements.{All-nil, All-cons, All-from_recursion}
use Rattle.std.proofs.lemmas.List.Kept.{AllPairs-cons}
use Rattle.fk_lists.specs.Room.{Named, AreNamed}
use Rattle.fk_lists.specs.PairLists.{PairList, is_filled, items_of, AreByName}

-- one name comes before another
abbrev IsBefore : List ℕ × List (ℕ × ℕ) → List ℕ × List (ℕ × ℕ) → Type 0
IsBefore one other = slice_cmp nat_cmp one.0 other.0 ≡ ordering.Less

-- ---- the first entry counts only if its list holds a pair

longer : (items : List (ℕ × ℕ)) → nat_lt 0 (length items) ≡ true → items ≢ []
longer [] test = absurd (cc test)
longer (pair ∷ items) test = λ none. absurd (cc none)

items_cases : (P : Named → Type 0) (entry : List ℕ × PairList) (entries : List (List ℕ × PairList)) (filled : Bool)
    → is_filled entry ≡ filled → (filled ≡ true → P ((entry.0, entry.1.items) ∷ items_of entries))
    → P (items_of entries) → P (items_of (entry ∷ entries))
items_cases P entry entries true test more less = rw test (more refl)
items_cases P entry entries false test more less = rw test less

all_behind : (name : List ℕ) (entries : List (List ℕ × PairList))
    → AllByRecursion (λ other. slice_cmp nat_cmp name other ≡ ordering.Less) (keys_of entries)
    → AllByRecursion (λ entry. slice_cmp nat_cmp name entry.0 ≡ ordering.Less) (items_of entries)
all_behind name [] behind = tt
all_behind name (entry ∷ entries) behind =
    items_cases (AllByRecursion (λ one. slice_cmp nat_cmp name one.0 ≡ ordering.Less)) entry entries
    (is_filled entry) refl
    (λ filled. (behind.0, all_behind name entries behind.1)) (all_behind name entries behind.1)

by_name : (entries : List (List ℕ × PairList)) → IsStrictlySortedBy (slice_cmp nat_cmp) (keys_of entries)
    → AllPairs IsBefore (items_of entries)
unfolding IsStrictlySortedBy
by_name [] sorted = λ i j d less within. absurd (omega (arith, within))
by_name (entry ∷ entries) sorted =
    items_cases (AllPairs IsBefore) entry entries (is_filled entry) refl
    (λ filled. AllPairs-cons IsBefore (entry.0, entry.1.items) (items_of entries)
    (All-from_recursion (IsBefore (entry.0, entry.1.items)) (items_of entries) (all_behind entry.0 entries sorted.0))
    (by_name entries sorted.1)) (by_name entries sorted.1)

all_filled : (entries : List (List ℕ × PairList)) → All (λ entry. entry.1 ≢ []) (items_of entries)
all_filled [] = All-nil (λ entry. entry.1 ≢ [])
all_filled (entry ∷ entries) =
    items_cases (All (λ one. one.1 ≢ [])) entry entries (is_filled entry) refl
    (λ filled. All-cons (λ one. one.1 ≢ []) (entry.0, entry.1.items) (items_of entries) (longer entry.1.items filled)
    (all_filled entries)) (all_filled entries)

pub are_named : (entries : List (List ℕ × PairList)) → AreByName entries → AreNamed (items_of entries)
are_named entries sorted = record { by_name = by_name entries sorted; filled = all_filled entries }

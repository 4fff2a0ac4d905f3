-- What is under a name among the held is what callers see under it.
use Rattle.std.proofs.Common.{◌≡◌, ℕ, Bool, true, false, List, [], ◌∷◌, length, Option, Some, None, refl, subst, arith}
use Rattle.std.specs.Prelude.{nat_lt, bytes_eq, cond, unwrap_or, option_map}
use Rattle.std.specs.BTreeMap.{is_at}
use Rattle.std.specs.Cmp.Lexicographic.{slice_cmp, nat_list_eq_equiv}
use Rattle.std.specs.List.{IsDistinct}
use Rattle.std.specs.Map.{keys_of, lookup}
use Rattle.std.specs.Ordering.{nat_cmp, eq_by_cmp}
use Rattle.std.proofs.lemmas.Bool.Decides.{nat_tests}
use Rattle.std.proofs.lemmas.Map.Entries.{option_filter, lookup-filter-values}
use Rattle.std.proofs.lemmas.Map.Keys.{IsDistinct-from_sorted}
use Rattle.std.proofs.lemmas.Map.Made.{lookup-map_values}
use Rattle.std.proofs.lemmas.Map.Text.{is_eq-slice_cmp}
use Rattle.fk_lists.specs.Room.{list_at, mark_at, spare_at}
use Rattle.fk_lists.specs.PairLists.{PairList, items_of, list_under, marks_of, spares_of, AreByName}

abbrev pub Entries : Type 0
Entries = List (List ℕ × PairList)

-- the list on a list that may be there
abbrev pub list_on : Option PairList → List (ℕ × ℕ)
list_on None = []
list_on (Some list) = list.items

-- the room of a list that may be there
abbrev pub room_on : Option PairList → ℕ
room_on None = 0
room_on (Some list) = list.spare

-- how much of its room is marked
abbrev pub mark_on : Option PairList → ℕ
mark_on None = 0
mark_on (Some list) = list.mark

-- whether this name is the one that is looked for
abbrev pub is_named : List ℕ → List ℕ → Bool
is_named name = is_at (slice_cmp nat_cmp name)

abbrev pairs_on : PairList → List (ℕ × ℕ)
pairs_on list = list.items

abbrev spare_on : PairList → ℕ
spare_on list = list.spare

abbrev marked_on : PairList → ℕ
marked_on list = list.mark

abbrev is_full : PairList → Bool
is_full list = nat_lt 0 (length list.items)

pub same_test : (name : List ℕ) → is_named name ≡ bytes_eq name
same_test name = λ i key. is_eq-slice_cmp name key i

same_tests : eq_by_cmp (slice_cmp nat_cmp) ≡ bytes_eq
same_tests = λ i name. same_test name i

-- the names are distinct
pub distinct : (entries : Entries) → AreByName entries → IsDistinct bytes_eq (keys_of entries)
distinct entries by_name =
    let once = IsDistinct-from_sorted (slice_cmp nat_cmp) (keys_of entries) by_name in
    subst (λ test. IsDistinct test (keys_of entries)) same_tests once

-- a list with no pair has the empty list
pairs_or_none : (list : PairList) (pairs : List (ℕ × ℕ)) (full : Bool)
    → pairs ≡ list.items → full ≡ nat_lt 0 (length pairs)
    → unwrap_or (option_map pairs_on (cond full (Some list) None)) [] ≡ list.items
pairs_or_none list pairs true same is_full = refl
pairs_or_none list [] false same is_full = same
pairs_or_none list (pair ∷ pairs) false same is_full = grind (arith, nat_tests)

filled_list : (list : Option PairList) → unwrap_or (option_map pairs_on (option_filter is_full list)) [] ≡ list_on list
filled_list None = refl
filled_list (Some list) = pairs_or_none list list.items (is_full list) refl refl

any_room : (list : Option PairList) → unwrap_or (option_map spare_on list) 0 ≡ room_on list
any_room None = refl
any_room (Some list) = refl

any_mark : (list : Option PairList) → unwrap_or (option_map marked_on list) 0 ≡ mark_on list
any_mark None = refl
any_mark (Some list) = refl

pub listed : (entries : Entries) → AreByName entries → (name : List ℕ)
    → list_at (items_of entries) name ≡ list_on (list_under entries name)
unfolding list_at
listed entries by_name name =
    let found = lookup-filter-values nat_list_eq_equiv is_full name entries (distinct entries by_name) in
    rw (lookup-map_values pairs_on (bytes_eq name), found, same_test name)
    (filled_list (lookup (bytes_eq name) entries))

pub spared : (entries : Entries) (name : List ℕ) → spare_at (spares_of entries) name ≡ room_on (list_under entries name)
unfolding spare_at
spared entries name =
    rw (lookup-map_values spare_on (bytes_eq name), same_test name) (any_room (lookup (bytes_eq name) entries))

pub marked : (entries : Entries) (name : List ℕ) → mark_at (marks_of entries) name ≡ mark_on (list_under entries name)
unfolding mark_at
marked entries name =
    rw (lookup-map_values marked_on (bytes_eq name), same_test name) (any_mark (lookup (bytes_eq name) entries))

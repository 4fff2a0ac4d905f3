-- How the lists are held: under each name a list and its room.
use Rattle.std.specs.Prelude.{ℕ, ◌≡◌, ◌<◌, nat_lt, Bool, List, [], Option, None, Some, length, map, filter, All}
use Rattle.std.specs.List.Sorted.{IsStrictlySortedBy}
use Rattle.std.specs.Ordering.{nat_cmp}
use Rattle.std.specs.Cmp.Lexicographic.{slice_cmp}
use Rattle.std.specs.BTreeMap.{is_at}
use Rattle.std.specs.Map.{keys_of, lookup}
use Rattle.fk_lists.specs.Room.{Named, Spares}

-- a list, how many pairs more it takes without memory, and how many of these are marked
pub record PairList : Type 0 where
  pub items : List (ℕ × ℕ)
  pub spare : ℕ
  pub mark : ℕ

-- the list of a name, if it has one
abbrev pub list_under : List (List ℕ × PairList) → List ℕ → Option PairList
list_under entries name = lookup (is_at (slice_cmp nat_cmp name)) entries

-- a list holds a pair
abbrev pub is_filled : List ℕ × PairList → Bool
is_filled entry = nat_lt 0 (length entry.1.items)

-- the names that have a pair, each with its list
abbrev pub items_of : List (List ℕ × PairList) → Named
items_of entries = map (λ entry. (entry.0, entry.1.items)) (filter is_filled entries)

-- the room of each name
abbrev pub spares_of : List (List ℕ × PairList) → Spares
spares_of entries = map (λ entry. (entry.0, entry.1.spare)) entries

-- how much of the room of each name is marked
abbrev pub marks_of : List (List ℕ × PairList) → Spares
marks_of entries = map (λ entry. (entry.0, entry.1.mark)) entries

-- the names are in order of their bytes
abbrev pub AreByName : List (List ℕ × PairList) → Type 0
AreByName entries = IsStrictlySortedBy (slice_cmp nat_cmp) (keys_of entries)

-- a list that may be there has neither a pair nor room for one
abbrev pub IsIdle : Option PairList → Type 0
IsIdle None = Unit {0}
IsIdle (Some list) = (list.items ≡ []) × (list.spare ≡ 0)

-- a list isn't held for nothing: it has a pair, or room for one
abbrev pub IsUsed : PairList → Type 0
IsUsed list = list.items ≡ [] → 0 < list.spare

-- no name is held for nothing
abbrev pub AreInUse : List (List ℕ × PairList) → Type 0
AreInUse entries = All (λ entry. IsUsed entry.1) entries

-- what holds of all lists
pub record IsSound (entries : List (List ℕ × PairList)) : Type 0 where
  pub by_name : AreByName entries
  pub in_use : AreInUse entries

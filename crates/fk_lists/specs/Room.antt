-- Lists of pairs of numbers under names, and how many pairs more each takes without memory.
use Rattle.std.specs.Prelude.{ℕ, ◌≡◌, ◌≢◌, ◌<◌, List, [], unwrap_or, bytes_eq, flat_map, All, AllPairs}
use Rattle.std.specs.Map.{lookup}
use Rattle.std.specs.Ordering.{nat_cmp}
use Rattle.std.specs.Cmp.Lexicographic.{slice_cmp}
use Rattle.std.specs.declared.cmp.Ordering.TheVariants as ordering

-- the names that have a pair, in order of their bytes, each with its list
abbrev pub Named : Type 0
Named = List (List ℕ × List (ℕ × ℕ))

-- by name, how many pairs more it takes without memory
abbrev pub Spares : Type 0
Spares = List (List ℕ × ℕ)

-- the lists, the room of each name, and how much of it is marked
pub record Room : Type 0 where
  pub items : Named
  pub spares : Spares
  pub marks : Spares

-- no name has a pair, or room for one
abbrev pub no_lists : Room
no_lists = record { items = []; spares = []; marks = [] }

-- the list of a name; it is empty where the name has none
unfoldable pub list_at : Named → List ℕ → List (ℕ × ℕ)
list_at items name = unwrap_or (lookup (bytes_eq name) items) []

-- the room of a name
unfoldable pub spare_at : Spares → List ℕ → ℕ
spare_at spares name = unwrap_or (lookup (bytes_eq name) spares) 0

-- how much of the room of a name is marked
unfoldable pub mark_at : Spares → List ℕ → ℕ
mark_at marks name = unwrap_or (lookup (bytes_eq name) marks) 0

-- the pairs of all names, name by name
abbrev pub all_pairs : Named → List (ℕ × ℕ)
all_pairs items = flat_map (λ entry. entry.1) items

-- what holds of the names: they are in order of their bytes, and each has a pair
pub record AreNamed (items : Named) : Type 0 where
  pub by_name : AllPairs (λ one other. slice_cmp nat_cmp one.0 other.0 ≡ ordering.Less) items
  pub filled : All (λ entry. entry.1 ≢ []) items

-- every other name has the list and the room that it had
pub record OthersStay (name : List ℕ) (before after : Room) : Type 0 where
  pub items : (other : List ℕ) → other ≢ name → list_at after.items other ≡ list_at before.items other
  pub spares : (other : List ℕ) → other ≢ name → spare_at after.spares other ≡ spare_at before.spares other

-- no name is held for nothing: each one that is held has a pair, or room for one
abbrev pub IsLean : Room → Type 0
IsLean room = All (λ held. list_at room.items held.0 ≡ [] → 0 < held.1) room.spares

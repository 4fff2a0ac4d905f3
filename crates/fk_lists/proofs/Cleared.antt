-- What is left where each list was emptied and those with no room were let go.
use Rattle.std.proofs.Common.{◌≡◌, ◌∙◌, ℕ, Bool, true, false, List, [], ◌∷◌, Option, Some, None, refl, ap, arith}
use Rattle.std.specs.Prelude.{bytes_eq, cond, filter, nat_lt, unwrap_or}
use Rattle.std.specs.Cmp.Lexicographic.{nat_list_eq_equiv}
use Rattle.std.specs.List.{IsDistinct}
use Rattle.std.specs.Map.{keys_of, lookup}
use Rattle.std.specs.Map.Calls.{RetainsPairs}
use Rattle.std.proofs.lemmas.Bool.Decides.{nat_tests}
use Rattle.std.proofs.lemmas.Map.Entries.{option_filter, lookup-filter-values, All-from_retain_pairs}
use Rattle.std.proofs.lemmas.Simd.{map-map}
use Rattle.fk_lists.specs.Room.{spare_at, Spares}
use Rattle.fk_lists.specs.PairLists.{PairList, items_of, spares_of, AreByName, IsSound, IsUsed}
use Rattle.fk_lists.proofs.Lookups.{Entries, distinct}
use Rattle.fk_lists.proofs.Unseen.{unseen}

abbrev is_room : ℕ → Bool
is_room spare = nat_lt 0 spare

-- a name that has no room counts for nothing among the rooms
some_room : (spare : ℕ) (more : Bool) → more ≡ nat_lt 0 spare → unwrap_or (cond more (Some spare) None) 0 ≡ spare
some_room spare true same = refl
some_room spare false same = grind (arith, nat_tests)

any_room : (found : Option ℕ) → unwrap_or (option_filter is_room found) 0 ≡ unwrap_or found 0
any_room None = refl
any_room (Some spare) = some_room spare (is_room spare) refl

rooms_kept : (spares : Spares) → IsDistinct bytes_eq (keys_of spares) → (name : List ℕ)
    → spare_at (filter (λ entry. is_room entry.1) spares) name ≡ spare_at spares name
unfolding spare_at
rooms_kept spares once name =
    rw (lookup-filter-values nat_list_eq_equiv is_room name spares once) (any_room (lookup (bytes_eq name) spares))

-- what a call does: it empties the list, leaves its room, and tells whether there is any
abbrev Empties : PairList → Bool → PairList → Type 0
Empties before more after = (after.items ≡ []) × (after.spare ≡ before.spare) × (more ≡ nat_lt 0 before.spare)

has_room : (before : PairList) (more : Bool) (after : PairList) → Empties before more after → more ≡ true → IsUsed after
has_room before more after (empty, stays, is_more) is none = grind (arith, nat_tests, stays, is_more, is)

-- the rooms of those names that have one
abbrev with_room : Spares → Spares
with_room spares = filter (λ entry. is_room entry.1) spares

names_once : (entries : Entries) → IsDistinct bytes_eq (keys_of entries)
    → IsDistinct bytes_eq (keys_of (spares_of entries))
names_once entries once =
    rw (map-map (λ (e : List ℕ × ℕ). e.0) (λ (e : List ℕ × PairList). (e.0, e.1.spare)) entries) once

module _ {F : Type 0} (T : F → List ℕ → PairList → Bool → PairList → F → Type 0)
    (empties : (f : F) (name : List ℕ) (before : PairList) (more : Bool) (after : PairList) (g : F)
    → T f name before more after g → Empties before more after) where
  pub lists_gone : (f : F) (entries kept : Entries) → RetainsPairs T f entries kept → items_of kept ≡ []
  lists_gone f [] kept ran = ap items_of ran
  lists_gone f (e ∷ entries) kept (more, after, g, rest, called, ran, same) =
      ap items_of same ∙ by more (lists_gone g entries rest ran) (empties _ _ _ _ _ _ called).0
    where
      by : (more : Bool) → items_of rest ≡ [] → after.items ≡ [] → items_of (cond more ((e.0, after) ∷ rest) rest) ≡ []
      by true gone empty = unseen e.0 after rest empty ∙ gone
      by false gone empty = gone

  -- what is left has room
  pub sound_left : (f : F) (entries kept : Entries) → AreByName kept → RetainsPairs T f entries kept → IsSound kept
  sound_left f entries kept by_name ran = record {
    by_name = by_name;
    in_use = All-from_retain_pairs T (λ g. Unit {0}) (λ entry. IsUsed entry.1)
        (λ g name before more after h held called. (has_room before more after (empties _ _ _ _ _ _ called), tt)) f
        entries kept tt ran;
  }

  rooms_left : (f : F) (entries kept : Entries) → RetainsPairs T f entries kept
      → spares_of kept ≡ with_room (spares_of entries)
  rooms_left f [] kept ran = ap spares_of ran
  rooms_left f (e ∷ entries) kept (more, after, g, rest, called, ran, same) =
      ap spares_of same ∙ by more (rooms_left g entries rest ran) (empties _ _ _ _ _ _ called)
    where
      by : (more : Bool) → spares_of rest ≡ with_room (spares_of entries) → Empties e.1 more after
          → spares_of (cond more ((e.0, after) ∷ rest) rest) ≡ with_room (spares_of (e ∷ entries))
      by true left (empty, stays, is_more) = rw (← is_more) (λ i. (e.0, stays i) ∷ left i)
      by false left (empty, stays, is_more) = rw (← is_more) left

  -- the rooms stay, name by name
  pub rooms_same : (f : F) (entries kept : Entries) → AreByName entries → RetainsPairs T f entries kept
      → (name : List ℕ) → spare_at (spares_of kept) name ≡ spare_at (spares_of entries) name
  rooms_same f entries kept by_name ran name =
      ap (λ spares. spare_at spares name) (rooms_left f entries kept ran)
      ∙ rooms_kept (spares_of entries) (names_once entries (distinct entries by_name)) name

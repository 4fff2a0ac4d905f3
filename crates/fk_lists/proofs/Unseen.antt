-- Changes of the held that leave the lists as a whole.
use Rattle.std.proofs.Common.{◌≡◌, ◌∙◌, ℕ, Bool, true, false, List, [], ◌∷◌, length, map, Some, refl, sym, ap}
use Rattle.std.specs.Prelude.{cond, filter, nat_lt}
use Rattle.std.specs.BTreeMap.{insert_entry}
use Rattle.std.specs.Cmp.Lexicographic.{slice_cmp}
use Rattle.std.specs.declared.cmp.Ordering.{Ordering}
use Rattle.std.specs.declared.cmp.Ordering.TheVariants.{Less, Equal, Greater}
use Rattle.std.specs.Map.{set_value}
use Rattle.std.specs.Ordering.{is_eq, match_ordering, nat_cmp}
use Rattle.fk_lists.specs.Room.{Named}
use Rattle.fk_lists.specs.PairLists.{PairList, is_filled, items_of, list_under}
use Rattle.fk_lists.proofs.Lookups.{Entries, is_named, list_on}

-- the lists with that of one more name before them, if it has a pair
abbrev with_list : List ℕ → List (ℕ × ℕ) → Named → Named
with_list name pairs lists = cond (nat_lt 0 (length pairs)) ((name, pairs) ∷ lists) lists

items_of-cons : (entry : List ℕ × PairList) (entries : Entries)
    → items_of (entry ∷ entries) ≡ with_list entry.0 entry.1.items (items_of entries)
items_of-cons entry entries = by (is_filled entry)
  where
    by : (full : Bool)
        → map (λ e. (e.0, e.1.items)) (cond full (entry ∷ filter is_filled entries) (filter is_filled entries))
        ≡ cond full ((entry.0, entry.1.items) ∷ items_of entries) (items_of entries)
    by true = refl
    by false = refl

-- a list with an equal list
alike : (name : List ℕ) (one other : PairList) (entries : Entries) → one.items ≡ other.items
    → items_of ((name, one) ∷ entries) ≡ items_of ((name, other) ∷ entries)
alike name one other entries same =
    items_of-cons (name, one) entries
    ∙ ap (λ pairs. with_list name pairs (items_of entries)) same
    ∙ sym (items_of-cons (name, other) entries)

-- a list with no pair
pub unseen : (name : List ℕ) (list : PairList) (entries : Entries) → list.items ≡ []
    → items_of ((name, list) ∷ entries) ≡ items_of entries
unseen name list entries empty =
    items_of-cons (name, list) entries ∙ ap (λ pairs. with_list name pairs (items_of entries)) empty

-- a change behind an entry
behind : (entry : List ℕ × PairList) (one other : Entries) → items_of one ≡ items_of other
    → items_of (entry ∷ one) ≡ items_of (entry ∷ other)
behind entry one other same =
    items_of-cons entry one ∙ ap (with_list entry.0 entry.1.items) same ∙ sym (items_of-cons entry other)

-- a list that was there takes another with an equal list in its place
pub replaced : (name : List ℕ) (list put : PairList) (entries : Entries)
    → Some list ≡ list_under entries name → put.items ≡ list.items
    → items_of (set_value (is_named name) entries put) ≡ items_of entries
replaced name list put [] found same = refl
replaced name list put (e ∷ entries) found same =
    by (is_named name e.0) (λ among. replaced name list put entries among same) found
  where
    by : (here : Bool)
        → (Some list ≡ list_under entries name → items_of (set_value (is_named name) entries put) ≡ items_of entries)
        → Some list ≡ cond here (Some e.1) (list_under entries name)
        → items_of (cond here ((e.0, put) ∷ entries) (e ∷ set_value (is_named name) entries put))
        ≡ items_of (e ∷ entries)
    by true others found = alike e.0 put e.1 entries (same ∙ ap list_on found)
    by false others found = behind e (set_value (is_named name) entries put) entries (others found)

-- the held with one more
abbrev put_list : List ℕ → PairList → Entries → Entries
put_list name put entries = insert_entry (slice_cmp nat_cmp) entries name put

-- a list with no pair comes under a name with no pair
pub entered : (name : List ℕ) (put : PairList) (entries : Entries) → put.items ≡ [] → list_on (list_under entries name) ≡ []
    → items_of (put_list name put entries) ≡ items_of entries
entered name put [] empty bare = unseen name put [] empty
entered name put (e ∷ entries) empty bare = by (slice_cmp nat_cmp name e.0) (entered name put entries empty) bare
  where
    by : (order : Ordering)
        → (list_on (list_under entries name) ≡ [] → items_of (put_list name put entries) ≡ items_of entries)
        → list_on (cond (is_eq order) (Some e.1) (list_under entries name)) ≡ []
        → items_of (match_ordering order
        ((name, put) ∷ e ∷ entries) ((e.0, put) ∷ entries) (e ∷ put_list name put entries))
        ≡ items_of (e ∷ entries)
    by Less others bare = unseen name put (e ∷ entries) empty
    by Equal others bare = alike e.0 put e.1 entries (empty ∙ sym bare)
    by Greater others bare = behind e (put_list name put entries) entries (others bare)

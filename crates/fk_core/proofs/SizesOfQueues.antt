-- The sizes of the lists by name are the sizes of the queues that these lists are.
use Rattle.std.proofs.Common.{◌≡◌, ◌≢◌, ◌<◌, ◌∙◌, ℕ, List, [], ◌∷◌, true, length, map, refl, sym, ap, arith}
use Rattle.std.specs.Prelude.{AllPairs, Contains, Option, None, Some, IsSome, bytes_eq, unwrap_or}
use Rattle.std.specs.Ordering.{nat_cmp}
use Rattle.std.specs.Cmp.Lexicographic.{slice_cmp, nat_list_eq_equiv}
use Rattle.std.specs.List.{IsDistinct}
use Rattle.std.specs.Map.{keys_of, lookup}
use Rattle.std.specs.declared.cmp.Ordering.TheVariants as ordering
use Rattle.std.proofs.lemmas.List.Elements.{All-map, All-weaker, All-contains_itself}
use Rattle.std.proofs.lemmas.List.Kept.{AllPairs-cons}
use Rattle.std.proofs.lemmas.Map.Made.{IsDistinct-from_AllPairs}
use Rattle.std.proofs.lemmas.Map.Text.{is_eq-slice_cmp}
use Rattle.std.proofs.lemmas.Map.Views.{lookup-from_Contains, Contains-keys_from_lookup}
use Rattle.std.proofs.lemmas.Slice.Eq.{bytes_eq-Decides}
use Rattle.fk_model.specs.declared.row.Row.{Row}
use Rattle.fk_model.specs.Orders.{queue}
use Rattle.fk_model.proofs.Sorting.{head_of_all, tail_of_all}
use Rattle.fk_lists.specs.Room.{Named, list_at, AreNamed}
use Rattle.fk_lists.specs.Sizes.{sizes_of, size_of}
use Rattle.fk_core.specs.Sizes.{AreSizesOf}

-- ---- lists of which something is taken of each element

mapped_pairs : {X Y : Type 0} (R : Y → Y → Type 0) (f : X → Y) (xs : List X)
    → AllPairs (λ one other. R (f one) (f other)) xs → AllPairs R (map f xs)
mapped_pairs R f [] pairs = λ i j d ahead within. absurd (omega (arith, within))
mapped_pairs R f (x ∷ xs) pairs =
    AllPairs-cons R (f x) (map f xs)
    (All-map (R (f x)) f xs (head_of_all (λ one other. R (f one) (f other)) x xs pairs))
    (mapped_pairs R f xs (tail_of_all (λ one other. R (f one) (f other)) x xs pairs))

weaker_pairs : {X : Type 0} (R S : X → X → Type 0) (xs : List X)
    → ((one other : X) → R one other → S one other) → AllPairs R xs → AllPairs S xs
weaker_pairs R S xs step pairs i j d ahead within = step _ _ (pairs i j d ahead within)

-- ---- each name stands there once, with its own list

-- one name comes before another
abbrev IsBefore : List ℕ → List ℕ → Type 0
IsBefore one other = slice_cmp nat_cmp one other ≡ ordering.Less

differ : (one other : List ℕ) → IsBefore one other → one ≢ other
differ one other before same =
    let test = is_eq-slice_cmp one other in
    let equal : bytes_eq one other ≡ true = (bytes_eq-Decides one other).1 same in
    absurd (cc (rw before at test))

pub distinct : (items : Named) → AreNamed items → IsDistinct bytes_eq (keys_of items)
distinct items named =
    IsDistinct-from_AllPairs bytes_eq-Decides (keys_of items)
    (weaker_pairs IsBefore (λ one other. one ≢ other) (keys_of items) differ
    (mapped_pairs IsBefore (λ entry. entry.0) items named.by_name))

pub own_list : (items : Named) → AreNamed items → (entry : List ℕ × List (ℕ × ℕ)) → Contains items entry
    → list_at items entry.0 ≡ entry.1
unfolding list_at
own_list items named entry held =
    ap (λ (found : Option (List (ℕ × ℕ))). unwrap_or found [])
    (lookup-from_Contains nat_list_eq_equiv entry.0 entry.1 items (distinct items named) held)

-- ---- a name that has pairs stands there

some_found : (found : Option (List (ℕ × ℕ))) → unwrap_or found [] ≢ [] → IsSome found
some_found None some = absurd (some refl)
some_found (Some pairs) some = refl

pub name_found : (items : Named) (name : List ℕ) → list_at items name ≢ [] → Contains (keys_of items) name
unfolding list_at
name_found items name some =
    Contains-keys_from_lookup (λ one other. (bytes_eq-Decides one other).0) name items
    (some_found (lookup (bytes_eq name) items) some)

pub longer : (pairs : List (ℕ × ℕ)) → pairs ≢ [] → 0 < length pairs
longer [] some = absurd (some refl)
longer (pair ∷ pairs) some = omega arith

pub same_names : (items : Named) → map (λ size. size.name) (sizes_of items) ≡ keys_of items
same_names [] = refl
same_names (entry ∷ items) = ap (λ names. entry.0 ∷ names) (same_names items)

-- ---- the sizes

pub are_sizes : (rows : List (ℕ × Row)) (items : Named) → AreNamed items
    → ((name : List ℕ) → list_at items name ≡ queue rows name) → AreSizesOf rows (sizes_of items)
are_sizes rows items named are = record {
  by_name = mapped_pairs (λ one other. IsBefore one.name other.name) size_of items named.by_name;
  count = All-map (λ size. size.count ≡ length (queue rows size.name)) size_of items
      (All-weaker (Contains items) (λ entry. length entry.1 ≡ length (queue rows entry.0))
      (λ entry held. ap length (sym (own_list items named entry held) ∙ are entry.0)) items
      (All-contains_itself items));
  filled = All-map (λ size. 0 < size.count) size_of items
      (All-weaker (λ entry. entry.1 ≢ []) (λ entry. 0 < length entry.1)
      (λ entry. longer entry.1) items named.filled);
  whole = λ name some. rw (same_names items) (name_found items name (rw (are name) some));
}

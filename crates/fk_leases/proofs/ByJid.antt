-- The ends of all leases, where the list of one jid changed.
use Rattle.std.proofs.Common.{◌≡◌, ◌≢◌, ◌∙◌, ℕ, zero, suc, ◌+◌, ◌<◌, ◌≤◌, Bool, true, false, cond, List, [], ◌∷◌, ◌++◌}
use Rattle.std.proofs.Common.{Option, Some, None, option_map, slice_get, get_or, length, map, refl, sym, ap, arith}
use Rattle.std.specs.Prelude.{bytes_eq, count_by, sum_by, unwrap_or, AllPairs}
use Rattle.std.specs.Cmp.Lexicographic.{slice_cmp, nat_list_eq_equiv}
use Rattle.std.specs.List.{AllByRecursion, IsDistinct, insert, remove}
use Rattle.std.specs.Map.{keys_of, lookup, remove_entry, values_of}
use Rattle.std.specs.Ordering.{nat_cmp}
use Rattle.std.specs.declared.cmp.Ordering.TheVariants as ordering
use Rattle.std.proofs.lemmas.Bool.Decides.{nat_tests}
use Rattle.std.proofs.lemmas.List.{map-append}
use Rattle.std.proofs.lemmas.List.Sums.{sum_by-append, sum_by-cons, sum_by-insert, sum_by-remove}
use Rattle.std.proofs.lemmas.Map.{lookup-remove_entry}
use Rattle.std.proofs.lemmas.Map.Entries.{sum_by-remove_entry}
use Rattle.std.proofs.lemmas.Map.Made.{IsDistinct-from_AllPairs}
use Rattle.std.proofs.lemmas.Map.Text.{is_eq-slice_cmp}
use Rattle.std.proofs.lemmas.List.Elements.{All-map, recursion_from_All}
use Rattle.std.proofs.lemmas.List.Kept.{AllPairs-cons}
use Rattle.std.proofs.lemmas.Slice.Eq.{bytes_eq-Decides}
use Rattle.fk_model.proofs.Sorting.{head_of_all, tail_of_all}
use Rattle.fk_lists.specs.Room.{Named, list_at, all_pairs, AreNamed}
use Rattle.fk_tree.specs.Order.{AreOthers}
use Rattle.fk_leases.specs.Leases.{leased_ticket, IsUnleased}
use Rattle.fk_leases.specs.Ends.{end_of, ends_of, is_pair, HaveSame}
use Rattle.fk_leases.proofs.Alike.{are_others, count_map, count_first, one_if}

-- ---- each jid stands there once

abbrev IsBefore : List ℕ × List (ℕ × ℕ) → List ℕ × List (ℕ × ℕ) → Type 0
IsBefore one other = slice_cmp nat_cmp one.0 other.0 ≡ ordering.Less

differ : (one other : List ℕ) → slice_cmp nat_cmp one other ≡ ordering.Less → one ≢ other
differ one other before same =
    let test = is_eq-slice_cmp one other in
    let equal : bytes_eq one other ≡ true = (bytes_eq-Decides one other).1 same in
    absurd (cc (rw before at test))

keys_differ : (items : Named) → AllPairs IsBefore items → AllPairs (λ one other. one ≢ other) (keys_of items)
keys_differ [] pairs = λ i j d ahead within. absurd (omega (arith, within))
keys_differ (entry ∷ items) pairs =
    AllPairs-cons (λ one other. one ≢ other) entry.0 (keys_of items)
    (All-map (λ other. entry.0 ≢ other) (λ one. one.0) items
    (λ k d within. differ _ _ (head_of_all IsBefore entry items pairs k d within)))
    (keys_differ items (tail_of_all IsBefore entry items pairs))

pub distinct : (items : Named) → AreNamed items → IsDistinct bytes_eq (keys_of items)
distinct items named = IsDistinct-from_AllPairs bytes_eq-Decides (keys_of items) (keys_differ items named.by_name)

-- ---- without the list of one jid

abbrev without : List ℕ → Named → Named
without jid items = remove_entry (bytes_eq jid) items

all_removed : (P : List ℕ → Type 0) (jid : List ℕ) (items : Named) → AllByRecursion P (keys_of items)
    → AllByRecursion P (keys_of (without jid items))
all_removed P jid [] all = tt
all_removed P jid (entry ∷ items) all = by (bytes_eq jid entry.0) (all_removed P jid items all.1)
  where
    by : (here : Bool) → AllByRecursion P (keys_of (without jid items))
        → AllByRecursion P (keys_of (cond here items (entry ∷ without jid items)))
    by true rest = all.1
    by false rest = (all.0, rest)

distinct_removed : (jid : List ℕ) (items : Named) → IsDistinct bytes_eq (keys_of items)
    → IsDistinct bytes_eq (keys_of (without jid items))
unfolding IsDistinct
distinct_removed jid [] once = tt
distinct_removed jid (entry ∷ items) once = by (bytes_eq jid entry.0) (distinct_removed jid items once.1)
  where
    by : (here : Bool) → IsDistinct bytes_eq (keys_of (without jid items))
        → IsDistinct bytes_eq (keys_of (cond here items (entry ∷ without jid items)))
    by true rest = once.1
    by false rest = (all_removed _ jid items once.0, rest)

same_name : (jid one other : List ℕ) → bytes_eq jid one ≡ true → bytes_eq jid other ≡ bytes_eq one other
same_name jid one other same = ap (λ name. bytes_eq name other) ((bytes_eq-Decides jid one).0 same)

at_removed : (jid other : List ℕ) (items : Named) → IsDistinct bytes_eq (keys_of items)
    → list_at (without jid items) other ≡ cond (bytes_eq jid other) [] (list_at items other)
unfolding list_at
at_removed jid other items once =
    rw (lookup-remove_entry nat_list_eq_equiv (bytes_eq jid) (same_name jid) other items once) (by (bytes_eq jid other))
  where
    by : (here : Bool) → unwrap_or (cond here None (lookup (bytes_eq other) items)) []
        ≡ cond here [] (unwrap_or (lookup (bytes_eq other) items) [])
    by true = refl
    by false = refl

flipped : (one other : List ℕ) → bytes_eq one other ≡ false → bytes_eq other one ≡ false
flipped one other differs = by (bytes_eq other one) refl
  where
    by : (same : Bool) → bytes_eq other one ≡ same → same ≡ false
    by true same =
        absurd (cc (differs, (bytes_eq-Decides one other).1 (sym ((bytes_eq-Decides other one).0 same))))
    by false same = refl

-- ---- the ends counted jid by jid

module _ (test : ℕ × ℕ → Bool) where
  abbrev weight : List (ℕ × ℕ) → ℕ
  weight leases = count_by test (map end_of leases)

  abbrev total : Named → ℕ
  total items = sum_by weight (values_of items)

  all_is : (items : Named) → count_by test (ends_of items) ≡ total items
  all_is [] = refl
  all_is (entry ∷ items) =
      let parts : count_by test (map end_of (entry.1 ++ all_pairs items)) ≡ weight entry.1 + count_by test (ends_of items) =
      ap (count_by test) (map-append end_of entry.1 (all_pairs items))
      ∙ sum_by-append (λ pair. one_if (test pair)) (map end_of entry.1) (ends_of items) in
      let first : total (entry ∷ items) ≡ weight entry.1 + total items = sum_by-cons weight entry.1 (values_of items) in
      omega (arith, parts, first, all_is items)

  weighed : (list : Option (List (ℕ × ℕ))) → unwrap_or (option_map weight list) 0 ≡ weight (unwrap_or list [])
  weighed None = refl
  weighed (Some leases) = refl

  split : (jid : List ℕ) (items : Named) → total (without jid items) + weight (list_at items jid) ≡ total items
  unfolding list_at
  split jid items =
      let whole = sum_by-remove_entry weight (bytes_eq jid) items in
      omega (arith, whole, weighed (lookup (bytes_eq jid) items))

  first_at : (entry : List ℕ × List (ℕ × ℕ)) (items : Named) → list_at (entry ∷ items) entry.0 ≡ entry.1
  unfolding list_at
  first_at entry items =
      ap (λ here. unwrap_or (cond here (Some entry.1) (lookup (bytes_eq entry.0) items)) [])
      ((bytes_eq-Decides entry.0 entry.0).1 refl)

  later_at : (entry : List ℕ × List (ℕ × ℕ)) (items : Named) (other : List ℕ) → bytes_eq other entry.0 ≡ false
      → list_at (entry ∷ items) other ≡ list_at items other
  unfolding list_at
  later_at entry items other differs =
      ap (λ here. unwrap_or (cond here (Some entry.1) (lookup (bytes_eq other) items)) []) differs

  not_at : (jid : List ℕ) (items : Named) → AllByRecursion (λ other. bytes_eq jid other ≡ false) (keys_of items)
      → list_at items jid ≡ []
  unfolding list_at
  not_at jid [] differs = refl
  not_at jid (entry ∷ items) differs = later_at entry items jid differs.0 ∙ not_at jid items differs.1

  -- where no jid has more, all together have no more
  no_more : (ones others : Named) → IsDistinct bytes_eq (keys_of ones) → IsDistinct bytes_eq (keys_of others)
      → ((jid : List ℕ) → weight (list_at ones jid) ≤ weight (list_at others jid)) → total ones ≤ total others
  unfolding IsDistinct
  no_more [] others once apart less = omega arith
  no_more (entry ∷ ones) others once apart less =
      let rest =
      no_more ones (without entry.0 others) once.1 (distinct_removed entry.0 others apart) each in
      let first : total (entry ∷ ones) ≡ weight entry.1 + total ones = sum_by-cons weight entry.1 (values_of ones) in
      let here = ap weight (first_at entry ones) in
      omega (arith, rest, first, here, less entry.0, split entry.0 others)
    where
      by : (jid : List ℕ) (here : Bool) → bytes_eq entry.0 jid ≡ here
          → weight (list_at ones jid) ≤ weight (cond here [] (list_at others jid))
      by jid true same =
          let none : list_at ones jid ≡ [] =
          ap (list_at ones) (sym ((bytes_eq-Decides entry.0 jid).0 same)) ∙ not_at entry.0 ones once.0 in
          let nothing = ap weight none in omega (arith, nothing)
      by jid false differs =
          let now = ap weight (later_at entry ones jid (flipped entry.0 jid differs)) in omega (arith, now, less jid)

      each : (jid : List ℕ) → weight (list_at ones jid) ≤ weight (list_at (without entry.0 others) jid)
      each jid =
          let now = ap weight (at_removed entry.0 jid others apart) in
          omega (arith, now, by jid (bytes_eq entry.0 jid) refl)

  -- where no jid has one that passes, none of all passes
  none_of_all : (items : Named) → AreNamed items → ((jid : List ℕ) → weight (list_at items jid) ≡ 0)
      → count_by test (ends_of items) ≡ 0
  unfolding IsDistinct
  none_of_all items named none =
      let less = no_more items [] (distinct items named) tt (λ jid. omega (arith, none jid)) in
      omega (arith, less, all_is items)

  -- the lists of all jids but one are as before
  pub changed : (jid : List ℕ) (before after : Named) → AreNamed before → AreNamed after
      → ((other : List ℕ) → other ≢ jid → list_at after other ≡ list_at before other)
      → count_by test (ends_of after) + weight (list_at before jid)
      ≡ count_by test (ends_of before) + weight (list_at after jid)
  changed jid before after was is others =
      let once = distinct before was in
      let now = distinct after is in
      let less = no_more (without jid before) (without jid after) (distinct_removed jid before once)
      (distinct_removed jid after now) (λ other. let same = ap weight (alike other) in omega (arith, same)) in
      let more = no_more (without jid after) (without jid before) (distinct_removed jid after now)
      (distinct_removed jid before once) (λ other. let same = ap weight (alike other) in omega (arith, same)) in
      omega (arith, less, more, split jid before, split jid after, all_is before, all_is after)
    where
      by : (other : List ℕ) (here : Bool) → bytes_eq jid other ≡ here
          → cond here [] (list_at after other) ≡ cond here [] (list_at before other)
      by other true same = refl
      by other false differs =
          others other (λ same. absurd (cc (differs, (bytes_eq-Decides jid other).1 (sym same))))

      alike : (other : List ℕ) → list_at (without jid after) other ≡ list_at (without jid before) other
      alike other =
          at_removed jid other after (distinct after is) ∙ by other (bytes_eq jid other) refl
          ∙ sym (at_removed jid other before (distinct before was))

-- ---- the end of a ticket that has no lease

no_end : (until ticket : ℕ) (leases : List (ℕ × ℕ)) → AllByRecursion (λ lease. leased_ticket lease ≢ ticket) leases
    → count_by (is_pair (until, ticket)) (map end_of leases) ≡ 0
no_end until ticket [] absent = refl
no_end until ticket (lease ∷ leases) absent =
    let first = count_first (is_pair (until, ticket)) (end_of lease) (map end_of leases) in
    let no = ap one_if (other_end lease absent.0) in
    omega (arith, first, no, no_end until ticket leases absent.1)
  where
    other_end : (lease : ℕ × ℕ) → leased_ticket lease ≢ ticket → is_pair (until, ticket) (end_of lease) ≡ false
    other_end lease differs = grind (arith, nat_tests, differs)

pub no_end_there : (until ticket : ℕ) (ends : List (ℕ × ℕ)) (leases : Named) → AreNamed leases
    → IsUnleased ticket leases → HaveSame ends (ends_of leases) → AreOthers (until, ticket) ends
no_end_there until ticket ends leases named unleased same =
    are_others (until, ticket) ends
    (same (is_pair (until, ticket))
    ∙ none_of_all (is_pair (until, ticket)) leases named
    (λ jid. no_end until ticket (list_at leases jid) (recursion_from_All _ (list_at leases jid) (unleased jid))))

-- ---- one lease more, one less

pub one_more : (jid : List ℕ) (lease : ℕ × ℕ) (at : ℕ) (before after : Named) → AreNamed before → AreNamed after
    → list_at after jid ≡ insert (list_at before jid) at lease
    → ((other : List ℕ) → other ≢ jid → list_at after other ≡ list_at before other)
    → HaveSame (ends_of after) (end_of lease ∷ ends_of before)
one_more jid lease at before after was is here others test =
    let whole = changed test jid before after was is others in
    let one = count_first test (end_of lease) (ends_of before) in
    let now = ap (λ list. count_by test (map end_of list)) here in
    let turned = count_map test end_of (insert (list_at before jid) at lease) in
    let put = sum_by-insert (λ pair. one_if (test (end_of pair))) (list_at before jid) at lease in
    let old = count_map test end_of (list_at before jid) in
    omega (arith, whole, one, now, turned, put, old)

-- the lease at a place
pub standing : (leases : List (ℕ × ℕ)) (at : ℕ) (lease : ℕ × ℕ) → slice_get leases at ≡ Some lease
    → (at < length leases) × (get_or leases at lease ≡ lease)
standing [] zero lease stands = absurd (cc stands)
standing [] (suc at) lease stands = absurd (cc stands)
standing (first ∷ leases) zero lease stands = (omega arith, cc stands)
standing (first ∷ leases) (suc at) lease stands =
    let later = standing leases at lease stands in (omega (arith, later.0), later.1)

pub one_less : (jid : List ℕ) (lease : ℕ × ℕ) (at : ℕ) (before after : Named) → AreNamed before → AreNamed after
    → slice_get (list_at before jid) at ≡ Some lease → list_at after jid ≡ remove (list_at before jid) at
    → ((other : List ℕ) → other ≢ jid → list_at after other ≡ list_at before other)
    → HaveSame (ends_of before) (end_of lease ∷ ends_of after)
one_less jid lease at before after was is stands here others test =
    let whole = changed test jid before after was is others in
    let one = count_first test (end_of lease) (ends_of after) in
    let now = ap (λ list. count_by test (map end_of list)) here in
    let turned = count_map test end_of (remove (list_at before jid) at) in
    let there = standing (list_at before jid) at lease stands in
    let taken = sum_by-remove (λ pair. one_if (test (end_of pair))) (list_at before jid) at lease there.0 in
    let it = ap (λ pair. one_if (test (end_of pair))) there.1 in
    let old = count_map test end_of (list_at before jid) in
    omega (arith, whole, one, now, turned, taken, it, old)

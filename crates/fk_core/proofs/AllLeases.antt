-- The leases of all jids are those of all rows.
use Rattle.std.proofs.Common.{◌≡◌, ◌∙◌, ℕ, ◌+◌, ◌<◌, Bool, true, false, List, [], ◌∷◌, Option, None, Some}
use Rattle.std.proofs.Common.{◌&&◌, option_map, filter, length, not, nat_lt, refl, sym, ap, subst, arith}
use Rattle.std.specs.Prelude.{AllPairs, Contains, IsSome, if◌then◌else◌, bytes_eq, count_by, sum_by, unwrap_or}
use Rattle.std.specs.List.{AllByRecursion, IsDistinct}
use Rattle.std.specs.Map.{keys_of, lookup}
use Rattle.std.proofs.lemmas.Bool.Decides.{nat_tests}
use Rattle.std.proofs.lemmas.List.Elements.{All-weaker, All-contains_itself, recursion_from_All}
use Rattle.std.proofs.lemmas.List.Kept.{AllPairs-filter}
use Rattle.std.proofs.lemmas.List.Sums.{sum_by-append, sum_by-cons}
use Rattle.std.proofs.lemmas.Slice.Eq.{bytes_eq-Decides}
use Rattle.fk_model.specs.declared.row.Row.{Row}
use Rattle.fk_model.specs.Due.{has_come, expired}
use Rattle.fk_model.specs.Orders.{number_in, leased_until, leases}
use Rattle.fk_model.specs.Rows.{ticket_of, row_of, IsByTicket}
use Rattle.fk_model.specs.State.{KeptState}
use Rattle.fk_model.proofs.Ordered.{already_in_order}
use Rattle.fk_model.proofs.Rising.{rising_pairs}
use Rattle.fk_model.proofs.Sieves.{filter_mapped}
use Rattle.fk_model.proofs.Sorting.{IsAhead}
use Rattle.fk_model.proofs.Ticketed.{ticketed_rise}
use Rattle.fk_lists.specs.Room.{Named, all_pairs, list_at, AreNamed}
use Rattle.fk_lists.proofs.Sorted.{HaveSame, in_order_alike}
use Rattle.fk_leases.specs.Leases.{run_out, until_in}
use Rattle.fk_leases.proofs.Alike.{count_first, count_kept}
use Rattle.fk_core.specs.Lookups.{leases_of}
use Rattle.fk_core.proofs.SizesOfQueues.{distinct, own_list}

abbrev Entry : Type 0
Entry = List ℕ × List (ℕ × ℕ)

-- so many, where a test passes
abbrev share : Bool → ℕ → ℕ
share test count = if test then count else 0

-- ---- sums over the names that have a list

module _ (jid : List ℕ) (more : ℕ) (now before : List ℕ → ℕ)
    (is : (name : List ℕ) → now name ≡ share (bytes_eq jid name) more + before name) where
  -- a jid that isn't there adds none
  none_among : (items : Named) → AllByRecursion (λ other. bytes_eq jid other ≡ false) (keys_of items)
      → sum_by (λ (entry : Entry). now entry.0) items ≡ sum_by (λ (entry : Entry). before entry.0) items
  none_among [] none = refl
  none_among (entry ∷ items) none =
      let one = sum_by-cons (λ (e : Entry). now e.0) entry items in
      let other = sum_by-cons (λ (e : Entry). before e.0) entry items in
      let here = is entry.0 in
      let no = ap (λ same. share same more) none.0 in
      omega (arith, one, other, here, no, none_among items none.1)

  among_step : (entry : Entry) (items : Named) (same : Bool) → bytes_eq jid entry.0 ≡ same
      → AllByRecursion (λ other. bytes_eq entry.0 other ≡ false) (keys_of items)
      → IsSome (if same then Some entry.1 else lookup (bytes_eq jid) items)
      → (IsSome (lookup (bytes_eq jid) items)
      → sum_by (λ (e : Entry). now e.0) items ≡ more + sum_by (λ (e : Entry). before e.0) items)
      → sum_by (λ (e : Entry). now e.0) (entry ∷ items)
      ≡ more + sum_by (λ (e : Entry). before e.0) (entry ∷ items)
  among_step entry items true same others found later =
      let one = sum_by-cons (λ (e : Entry). now e.0) entry items in
      let other = sum_by-cons (λ (e : Entry). before e.0) entry items in
      let here = is entry.0 in
      let all = ap (λ test. share test more) same in
      let rest = none_among items
      (subst (λ (name : List ℕ). AllByRecursion (λ other. bytes_eq name other ≡ false) (keys_of items))
      (sym ((bytes_eq-Decides jid entry.0).0 same)) others) in
      omega (arith, one, other, here, all, rest)
  among_step entry items false differs others found later =
      let one = sum_by-cons (λ (e : Entry). now e.0) entry items in
      let other = sum_by-cons (λ (e : Entry). before e.0) entry items in
      let here = is entry.0 in
      let no = ap (λ test. share test more) differs in
      let rest = later found in
      omega (arith, one, other, here, no, rest)

  -- one that is there adds as many as it has
  one_among : (items : Named) → IsDistinct bytes_eq (keys_of items) → IsSome (lookup (bytes_eq jid) items)
      → sum_by (λ (entry : Entry). now entry.0) items ≡ more + sum_by (λ (entry : Entry). before entry.0) items
  unfolding IsDistinct
  one_among [] once found = absurd (cc found)
  one_among (entry ∷ items) once found =
      among_step entry items (bytes_eq jid entry.0) refl once.0 found (one_among items once.1)

-- ---- one row more

first_leased : (filed : ℕ × Row) (rows : List (ℕ × Row)) (jid : List ℕ) (until : ℕ) (same : Bool)
    → leased_until (row_of filed).place ≡ Some until → bytes_eq (row_of filed).job.jid jid ≡ same
    → leases (filed ∷ rows) jid ≡ (if same then (ticket_of filed, until) ∷ leases rows jid else leases rows jid)
first_leased filed rows jid until true at same = rw (same, at) refl
first_leased filed rows jid until false at differs = rw differs refl

not_leased : (filed : ℕ × Row) (rows : List (ℕ × Row)) (jid : List ℕ) (same : Bool)
    → leased_until (row_of filed).place ≡ None → bytes_eq (row_of filed).job.jid jid ≡ same
    → leases (filed ∷ rows) jid ≡ leases rows jid
not_leased filed rows jid true at same = rw (same, at) refl
not_leased filed rows jid false at differs = rw differs refl

still_some : (filed : ℕ × Row) (rows : List (ℕ × Row)) (given : Option ℕ)
    → leased_until (row_of filed).place ≡ given → (jid : List ℕ) (same : Bool)
    → bytes_eq (row_of filed).job.jid jid ≡ same → 0 < length (leases rows jid)
    → 0 < length (leases (filed ∷ rows) jid)
still_some filed rows None at jid same e some = rw (not_leased filed rows jid same at e) some
still_some filed rows (Some until) at jid true e some =
    rw (first_leased filed rows jid until true at e) (omega arith)
still_some filed rows (Some until) at jid false e some =
    rw (first_leased filed rows jid until false at e) some

module _ (test : ℕ × ℕ → Bool) where
  count_if : (pair : ℕ × ℕ) (pairs list : List (ℕ × ℕ)) (same : Bool)
      → list ≡ (if same then pair ∷ pairs else pairs)
      → count_by test list ≡ share same (count_by test (pair ∷ [])) + count_by test pairs
  count_if pair pairs list true is =
      let here = count_first test pair pairs in
      let alone = count_first test pair [] in
      let now = ap (count_by test) is in
      omega (arith, here, alone, now)
  count_if pair pairs list false is = let now = ap (count_by test) is in omega (arith, now)

  none_more : (filed : ℕ × Row) (rows : List (ℕ × Row)) (items : Named)
      → leased_until (row_of filed).place ≡ None
      → sum_by (λ (entry : Entry). count_by test (leases (filed ∷ rows) entry.0)) items
      ≡ sum_by (λ (entry : Entry). count_by test (leases rows entry.0)) items
  none_more filed rows [] at = refl
  none_more filed rows (entry ∷ items) at =
      let one = sum_by-cons (λ (e : Entry). count_by test (leases (filed ∷ rows) e.0)) entry items in
      let other = sum_by-cons (λ (e : Entry). count_by test (leases rows e.0)) entry items in
      let here = ap (count_by test)
      (not_leased filed rows entry.0 (bytes_eq (row_of filed).job.jid entry.0) at refl) in
      omega (arith, one, other, here, none_more filed rows items at)

  summed_step : (items : Named) (filed : ℕ × Row) (rows : List (ℕ × Row)) (given : Option ℕ)
      → leased_until (row_of filed).place ≡ given → IsDistinct bytes_eq (keys_of items)
      → ((jid : List ℕ) → 0 < length (leases (filed ∷ rows) jid) → IsSome (lookup (bytes_eq jid) items))
      → sum_by (λ (entry : Entry). count_by test (leases rows entry.0)) items ≡ count_by test (leases_of rows)
      → sum_by (λ (entry : Entry). count_by test (leases (filed ∷ rows) entry.0)) items
      ≡ count_by test (leases_of (filed ∷ rows))
  summed_step items filed rows None at once found rest =
      let whole : count_by test (leases_of (filed ∷ rows)) ≡ count_by test (leases_of rows) = rw at refl in
      none_more filed rows items at ∙ rest ∙ sym whole
  summed_step items filed rows (Some until) at once found rest =
      let own = (row_of filed).job.jid in
      let pair : ℕ × ℕ = (ticket_of filed, until) in
      let more = count_by test (pair ∷ []) in
      let itself : bytes_eq own own ≡ true = (bytes_eq-Decides own own).1 refl in
      let there : IsSome (lookup (bytes_eq own) items) =
      found own (rw (first_leased filed rows own until true at itself) (omega arith)) in
      let all = one_among own more (λ name. count_by test (leases (filed ∷ rows) name))
      (λ name. count_by test (leases rows name))
      (λ name. count_if pair (leases rows name) (leases (filed ∷ rows) name) (bytes_eq own name)
      (first_leased filed rows name until (bytes_eq own name) at refl)) items once there in
      let here = count_first test pair (leases_of rows) in
      let alone = count_first test pair [] in
      let whole : count_by test (leases_of (filed ∷ rows)) ≡ count_by test (pair ∷ leases_of rows) = rw at refl in
      omega (arith, all, rest, here, alone, whole)

  none_summed : (items : Named) → sum_by (λ (entry : Entry). count_by test (leases [] entry.0)) items ≡ 0
  none_summed [] = refl
  none_summed (entry ∷ items) =
      let sum = sum_by-cons (λ (e : Entry). count_by test (leases [] e.0)) entry items in
      omega (arith, sum, none_summed items)

  -- the leases of each jid that has one, summed up, are those of all rows
  summed : (items : Named) (rows : List (ℕ × Row)) → IsDistinct bytes_eq (keys_of items)
      → ((jid : List ℕ) → 0 < length (leases rows jid) → IsSome (lookup (bytes_eq jid) items))
      → sum_by (λ (entry : Entry). count_by test (leases rows entry.0)) items ≡ count_by test (leases_of rows)
  summed items [] once found = none_summed items
  summed items (filed ∷ rows) once found =
      summed_step items filed rows (leased_until (row_of filed).place) refl once found
      (summed items rows once
      (λ jid some. found jid
      (still_some filed rows (leased_until (row_of filed).place) refl jid (bytes_eq (row_of filed).job.jid jid) refl some)))

  by_entry : (rows : List (ℕ × Row)) (items : Named)
      → AllByRecursion (λ (entry : Entry). entry.1 ≡ leases rows entry.0) items
      → count_by test (all_pairs items) ≡ sum_by (λ (entry : Entry). count_by test (leases rows entry.0)) items
  by_entry rows [] own = refl
  by_entry rows (entry ∷ items) own =
      let parts = sum_by-append (λ pair. if test pair then 1 else 0) entry.1 (all_pairs items) in
      let sum = sum_by-cons (λ (e : Entry). count_by test (leases rows e.0)) entry items in
      let here = ap (count_by test) own.0 in
      omega (arith, parts, sum, here, by_entry rows items own.1)

found_some : (found : Option (List (ℕ × ℕ))) → 0 < length (unwrap_or found []) → IsSome found
found_some None some = absurd (omega (arith, some))
found_some (Some pairs) some = refl

-- the leases of all jids are those of all rows
pub same_leases : (items : Named) (rows : List (ℕ × Row)) → AreNamed items
    → ((jid : List ℕ) → list_at items jid ≡ leases rows jid) → HaveSame (all_pairs items) (leases_of rows)
unfolding list_at
same_leases items rows named are test =
    by_entry test rows items
    (recursion_from_All (λ (entry : Entry). entry.1 ≡ leases rows entry.0) items
    (All-weaker (Contains items) (λ entry. entry.1 ≡ leases rows entry.0)
    (λ entry held. sym (own_list items named entry held) ∙ are entry.0) items (All-contains_itself items)))
    ∙ summed test items rows (distinct items named)
    (λ jid some. found_some (lookup (bytes_eq jid) items) (rw (are jid) some))

-- ---- those that have run out

lower_ahead : (one other : ℕ × ℕ) → number_in one < number_in other → IsAhead one other
lower_ahead one other less = grind (arith, nat_tests, less)

-- they stand in order
leases_ordered : (rows : List (ℕ × Row)) → IsByTicket rows → AllPairs IsAhead (leases_of rows)
leases_ordered rows by_ticket i j d ahead within =
    lower_ahead _ _
    (rising_pairs number_in (leases_of rows) (ticketed_rise (λ row. leased_until row.place) rows by_ticket) i j d ahead within)

abbrev is_over : ℕ → ℕ × ℕ → Bool
is_over moment lease = not (nat_lt moment (until_in lease))

over_alike : (moment : ℕ) (filed : ℕ × Row) (given : Option ℕ) (lease : ℕ × ℕ)
    → option_map (λ until. (ticket_of filed, until)) given ≡ Some lease → is_over moment lease ≡ has_come moment given
over_alike moment filed None lease is = absurd (cc)
over_alike moment filed (Some until) lease is =
    ap (λ (found : Option (ℕ × ℕ)). is_over moment (unwrap_or found lease)) (sym is)

kept_alike : (moment : ℕ) (ones others : List (ℕ × ℕ)) → HaveSame ones others
    → HaveSame (filter (is_over moment) ones) (filter (is_over moment) others)
kept_alike moment ones others same test =
    count_kept test (is_over moment) ones ∙ same (λ lease. is_over moment lease && test lease)
    ∙ sym (count_kept test (is_over moment) others)

pub run_out_is : (items : Named) (kept : KeptState) (rows : List (ℕ × Row)) (moment : ℕ) → AreNamed items
    → ((jid : List ℕ) → list_at items jid ≡ leases rows jid) → IsByTicket rows → rows ≡ kept.rows
    → run_out moment items ≡ leases_of (expired kept moment)
run_out_is items kept rows moment named are by_ticket same =
    in_order_alike (filter (is_over moment) (all_pairs items)) (filter (is_over moment) (leases_of rows))
    (kept_alike moment (all_pairs items) (leases_of rows) (same_leases items rows named are))
    ∙ already_in_order (filter (is_over moment) (leases_of rows))
    (AllPairs-filter IsAhead (is_over moment) (leases_of rows) (leases_ordered rows by_ticket))
    ∙ filter_mapped (λ filed. option_map (λ until. (ticket_of filed, until)) (leased_until (row_of filed).place))
    (is_over moment) (λ filed. has_come moment (leased_until (row_of filed).place))
    (λ filed lease is. over_alike moment filed (leased_until (row_of filed).place) lease is) rows
    ∙ ap (λ (all : List (ℕ × Row)). leases_of (filter (λ filed. has_come moment (leased_until (row_of filed).place)) all))
    same

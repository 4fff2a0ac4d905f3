-- From the ends in order: the first moment, and the leases that have run out.
use Rattle.std.proofs.Common.{◌≡◌, ◌==◌, ◌&&◌, ◌∙◌, ℕ, ◌+◌, ◌<◌, ◌≤◌, Bool, true, false, not, nat_lt, min, List, []}
use Rattle.std.proofs.Common.{◌∷◌, ◌++◌, filter, take, Option, Some, None, option_map, slice_get, length, map, refl, sym, ap, arith}
use Rattle.std.specs.Prelude.{count_by}
use Rattle.std.specs.List.{AllByRecursion}
use Rattle.std.specs.Option.{option_map_or}
use Rattle.std.proofs.lemmas.Bool.Decides.{nat_tests}
use Rattle.std.proofs.lemmas.List.{length-map, map_more}
use Rattle.std.proofs.lemmas.Simd.{map-map}
use Rattle.fk_model.specs.Orders.{in_order, number_in}
use Rattle.fk_json.specs.PairOrder.{comes_before}
use Rattle.fk_tree.specs.Order.{up_to, IsRising}
use Rattle.fk_lists.specs.Least.{least}
use Rattle.fk_lists.specs.Room.{Named, all_pairs}
use Rattle.fk_lists.proofs.Sorted.{in_order_alike}
use Rattle.fk_leases.specs.Leases.{first_until, run_out, until_in}
use Rattle.fk_leases.specs.Ends.{end_of, ends_of, HaveSame}
use Rattle.fk_leases.proofs.ByJid.{standing}
use Rattle.fk_leases.proofs.Alike.{count_all, count_first, count_kept, count_map, one_if}

-- ---- the least

abbrev is_below : ℕ → ℕ × ℕ → Bool
is_below moment pair = nat_lt pair.0 moment

abbrev is_at : ℕ → ℕ × ℕ → Bool
is_at moment pair = pair.0 == moment

above_or_not : (moment : ℕ) (pair : ℕ × ℕ) (rest : ℕ) → one_if (is_below moment pair) + rest ≡ 0
    → (moment ≤ pair.0) × (rest ≡ 0)
above_or_not moment pair rest none = by (is_below moment pair) refl none
  where
    by : (below : Bool) → is_below moment pair ≡ below → one_if below + rest ≡ 0 → (moment ≤ pair.0) × (rest ≡ 0)
    by true below nothing = absurd (omega (arith, nothing))
    by false above nothing = (grind (arith, nat_tests, above), omega (arith, nothing))

-- where none is below a moment, it stays the least
still_least : (moment number : ℕ) (rest : Option ℕ) → moment ≤ number → option_map_or (min moment) rest moment ≡ moment
    → min moment (option_map_or (min number) rest number) ≡ moment
still_least moment number None above so_far = omega (arith, above)
still_least moment number (Some later) above so_far = omega (arith, above, so_far)

not_below : (moment : ℕ) (pairs : List (ℕ × ℕ)) → count_by (is_below moment) pairs ≡ 0
    → option_map_or (min moment) (least (map number_in pairs)) moment ≡ moment
unfolding least
not_below moment [] none = refl
not_below moment (pair ∷ pairs) none =
    let first = count_first (is_below moment) pair pairs in
    let above = above_or_not moment pair (count_by (is_below moment) pairs) (omega (arith, first, none)) in
    still_least moment pair.0 (least (map number_in pairs)) above.0 (not_below moment pairs above.1)

-- a moment that is there, and below which none is, is the least
least_is : (moment : ℕ) (pairs : List (ℕ × ℕ)) → count_by (is_below moment) pairs ≡ 0
    → 0 < count_by (is_at moment) pairs → least (map number_in pairs) ≡ Some moment
unfolding least
least_is moment [] none some = absurd (omega (arith, some))
least_is moment (pair ∷ pairs) none some =
    let first = count_first (is_below moment) pair pairs in
    let above = above_or_not moment pair (count_by (is_below moment) pairs) (omega (arith, first, none)) in
    by (is_at moment pair) refl above.0 (not_below moment pairs above.1)
    (count_first (is_at moment) pair pairs) (least_is moment pairs above.1)
  where
    by : (same : Bool) → is_at moment pair ≡ same → moment ≤ pair.0
        → option_map_or (min moment) (least (map number_in pairs)) moment ≡ moment
        → count_by (is_at moment) (pair ∷ pairs) ≡ one_if (is_at moment pair) + count_by (is_at moment) pairs
        → (0 < count_by (is_at moment) pairs → least (map number_in pairs) ≡ Some moment)
        → Some (option_map_or (min pair.0) (least (map number_in pairs)) pair.0) ≡ Some moment
    by true same above stays here later =
        let is : pair.0 ≡ moment = grind (arith, nat_tests, same) in
        ap (λ number. Some (option_map_or (min number) (least (map number_in pairs)) number)) is ∙ ap Some stays
    by false differs above stays here later =
        let one = ap one_if differs in
        let rest = later (omega (arith, here, some, one)) in
        let lesser : min pair.0 moment ≡ moment = omega (arith, above) in
        ap (λ found. Some (option_map_or (min pair.0) found pair.0)) rest ∙ ap Some lesser

none_below : (pair : ℕ × ℕ) (pairs : List (ℕ × ℕ)) → AllByRecursion (λ other. comes_before pair other ≡ true) pairs
    → count_by (is_below pair.0) pairs ≡ 0
none_below pair [] behind = refl
none_below pair (other ∷ pairs) behind =
    let first = count_first (is_below pair.0) other pairs in
    let no = ap one_if (not_less pair other behind.0) in
    omega (arith, first, no, none_below pair pairs behind.1)
  where
    not_less : (one other : ℕ × ℕ) → comes_before one other ≡ true → nat_lt other.0 one.0 ≡ false
    not_less one other before = grind (arith, nat_tests, before)

first_is : (ends others : List (ℕ × ℕ)) → IsRising ends → HaveSame ends others
    → option_map number_in (slice_get ends 0) ≡ least (map number_in others)
unfolding least
first_is [] [] rising same = refl
first_is [] (other ∷ others) rising same =
    let whole = count_all (other ∷ others) in absurd (omega (arith, same (λ pair. true), whole))
first_is (pair ∷ ends) others rising same =
    let below = count_first (is_below pair.0) pair ends in
    let itself : one_if (is_below pair.0 pair) ≡ 0 = not_itself pair.0 in
    let here = count_first (is_at pair.0) pair ends in
    let is : one_if (is_at pair.0 pair) ≡ 1 = at_itself pair.0 in
    sym (least_is pair.0 others
    (omega (arith, same (is_below pair.0), below, itself, none_below pair ends rising.0))
    (omega (arith, same (is_at pair.0), here, is)))
  where
    not_itself : (moment : ℕ) → one_if (nat_lt moment moment) ≡ 0
    not_itself moment = grind (arith, nat_tests)

    at_itself : (moment : ℕ) → one_if (moment == moment) ≡ 1
    at_itself moment = grind (arith, nat_tests)

pub first_end : (ends : List (ℕ × ℕ)) (leases : Named) → IsRising ends → HaveSame ends (ends_of leases)
    → option_map number_in (slice_get ends 0) ≡ first_until leases
first_end ends leases rising same =
    first_is ends (ends_of leases) rising same ∙ ap least (map-map number_in end_of (all_pairs leases))

-- ---- those that have run out

turned_back : (lease : ℕ × ℕ) → end_of (end_of lease) ≡ lease
turned_back (ticket, until) = refl

count_alike : (ones others : ℕ × ℕ → Bool) → ((pair : ℕ × ℕ) → ones pair ≡ others pair) → (pairs : List (ℕ × ℕ))
    → count_by ones pairs ≡ count_by others pairs
count_alike ones others same [] = refl
count_alike ones others same (pair ∷ pairs) =
    let one = count_first ones pair pairs in
    let other = count_first others pair pairs in
    let first = ap one_if (same pair) in omega (arith, one, other, first, count_alike ones others same pairs)

abbrev is_over : ℕ → ℕ × ℕ → Bool
is_over moment lease = not (nat_lt moment (until_in lease))

kept_alike : (moment : ℕ) (ends : List (ℕ × ℕ)) (leases : List (ℕ × ℕ)) → HaveSame ends (map end_of leases)
    → HaveSame (map end_of (up_to moment ends)) (filter (is_over moment) leases)
kept_alike moment ends leases same test =
    let over = λ (pair : ℕ × ℕ). not (nat_lt moment pair.0) && test (end_of pair) in
    count_map test end_of (up_to moment ends)
    ∙ count_kept (λ pair. test (end_of pair)) (λ pair. not (nat_lt moment pair.0)) ends
    ∙ same over ∙ count_map over end_of leases
    ∙ count_alike (λ lease. over (end_of lease)) (λ lease. is_over moment lease && test lease)
    (λ lease. ap (λ (pair : ℕ × ℕ). is_over moment lease && test pair) (turned_back lease)) leases
    ∙ sym (count_kept test (is_over moment) leases)

pub due_is : (moment : ℕ) (ends : List (ℕ × ℕ)) (leases : Named) → HaveSame ends (ends_of leases)
    → in_order (map end_of (up_to moment ends)) ≡ run_out moment leases
due_is moment ends leases same =
    in_order_alike (map end_of (up_to moment ends)) (filter (is_over moment) (all_pairs leases))
    (kept_alike moment ends (all_pairs leases) same)

pub due_from : (moment : ℕ) (ends : List (ℕ × ℕ)) (leases : Named) (none ended found : List (ℕ × ℕ))
    → HaveSame ends (ends_of leases) → none ≡ [] → ended ≡ none ++ up_to moment ends
    → found ≡ in_order (map end_of ended) → found ≡ run_out moment leases
due_from moment ends leases none ended found same nothing listed sorted =
    sorted ∙ ap (λ (list : List (ℕ × ℕ)). in_order (map end_of list)) listed
    ∙ ap (λ (list : List (ℕ × ℕ)). in_order (map end_of (list ++ up_to moment ends))) nothing
    ∙ due_is moment ends leases same

-- one end more is turned
pub turned_more : (pairs leases : List (ℕ × ℕ)) (at : ℕ) (lease : ℕ × ℕ) → leases ≡ map end_of (take at pairs)
    → Some lease ≡ option_map end_of (slice_get pairs at) → leases ++ lease ∷ [] ≡ map end_of (take (at + 1) pairs)
turned_more pairs leases at lease so_far is = by (slice_get pairs at) refl is
  where
    by : (found : Option (ℕ × ℕ)) → slice_get pairs at ≡ found → Some lease ≡ option_map end_of found
        → leases ++ lease ∷ [] ≡ map end_of (take (at + 1) pairs)
    by None there is = absurd (cc is)
    by (Some pair) there is =
        let stands = standing pairs at pair there in
        let same : lease ≡ end_of pair = cc is in
        ap (λ (xs : List (ℕ × ℕ)). xs ++ lease ∷ []) so_far
        ∙ ap (λ one. map end_of (take at pairs) ++ one ∷ []) (same ∙ ap end_of (sym stands.1))
        ∙ sym (map_more end_of pairs at pair stands.0)

-- ---- their number

pub count_is : (ends : List (ℕ × ℕ)) (leases : Named) → HaveSame ends (ends_of leases)
    → length ends ≡ length (all_pairs leases)
count_is ends leases same =
    sym (count_all ends) ∙ same (λ pair. true) ∙ count_all (ends_of leases) ∙ length-map (all_pairs leases) end_of

pub counted : (count : ℕ) (ends : List (ℕ × ℕ)) (leases : Named) → HaveSame ends (ends_of leases)
    → count ≡ length ends → count < 18446744073709551616 → count ≡ min (length (all_pairs leases)) 18446744073709551615
counted count ends leases same is fits = omega (arith, is, count_is ends leases same, fits)

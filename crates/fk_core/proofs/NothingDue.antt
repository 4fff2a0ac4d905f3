-- Nothing is due where the moments of the sets and the ends of the leases are still to come, and only there.
use Rattle.std.proofs.Common.{◌≡◌, ◌∙◌, ℕ, ◌<◌, Bool, true, false, List, [], ◌∷◌, Option, None, Some}
use Rattle.std.proofs.Common.{min, map, not, nat_lt, option_map, refl, sym, subst, arith}
use Rattle.std.specs.Prelude.{◌↔◌, IfSome, IsTrue, if◌then◌else◌, count_by, filter_map}
use Rattle.std.specs.List.{AllByRecursion}
use Rattle.std.specs.Option.{option_map_or}
use Rattle.std.proofs.lemmas.Bool.Decides.{nat_tests}
use Rattle.std.proofs.lemmas.List.Elements.{All-from_recursion, recursion_from_All}
use Rattle.fk_model.specs.declared.row.Row.{Row}
use Rattle.fk_model.specs.declared.place.Place.{Place}
use Rattle.fk_model.specs.declared.place.Place.TheVariants.{Queued, Scheduled, Retry, Dead, Working}
use Rattle.fk_model.specs.declared.mutation.Target.{Target}
use Rattle.fk_model.specs.declared.mutation.Target.TheVariants as target
use Rattle.fk_model.specs.Due.{leaves_at, IsUpToDate}
use Rattle.fk_model.specs.Orders.{number_in, leased_until, leases, moment_in, timed, with_ticket}
use Rattle.fk_model.specs.Rows.{ticket_of, row_of}
use Rattle.fk_model.specs.State.{KeptState}
use Rattle.fk_model.proofs.Sorting.{are_the_same}
use Rattle.fk_model.proofs.Timed.{row_moment}
use Rattle.fk_lists.specs.Least.{least}
use Rattle.fk_lists.specs.Room.{Named, all_pairs, list_at, AreNamed}
use Rattle.fk_lists.proofs.Sorted.{HaveSame}
use Rattle.fk_leases.specs.Leases.{first_until, until_in}
use Rattle.fk_leases.proofs.Alike.{count_first}
use Rattle.fk_core.specs.Index.{Index}
use Rattle.fk_core.specs.Lookups.{leases_of, AreLater}
use Rattle.fk_core.specs.Sets.{pairs_in}
use Rattle.fk_core.specs.Tied.{AreTied}
use Rattle.fk_core.specs.declared.tables.Tables.TheInside.{Inside}
use Rattle.fk_core.proofs.AllLeases.{same_leases}
use Rattle.fk_core.proofs.SetsLater.{AllLater}

-- ---- what holds of each pair, and of each row that has one

given_if : (P : ℕ → Type 0) (pair : ℕ → ℕ × ℕ) (number : ℕ × ℕ → ℕ) → ((n : ℕ) → number (pair n) ≡ n)
    → (given : Option ℕ) → IfSome (option_map pair given) (λ one. P (number one)) ↔ IfSome given P
given_if P pair number back None = (λ holds. tt, λ holds. tt)
given_if P pair number back (Some n) = (λ holds. subst P (back n) holds, λ holds. subst P (sym (back n)) holds)

module _ (P : ℕ × ℕ → Type 0) (chosen : ℕ × Row → Option (ℕ × ℕ)) where
  first_chosen : (filed : ℕ × Row) (rows : List (ℕ × Row)) (given : Option (ℕ × ℕ)) → chosen filed ≡ given
      → AllByRecursion P (filter_map chosen (filed ∷ rows))
      ↔ (IfSome given P × AllByRecursion P (filter_map chosen rows))
  first_chosen filed rows None is = rw is (λ all. (tt, all), λ both. both.1)
  first_chosen filed rows (Some pair) is = rw is (λ all. all, λ both. both)

  -- each chosen pair is one of a row
  each_chosen : (rows : List (ℕ × Row)) → AllByRecursion P (filter_map chosen rows)
      ↔ AllByRecursion (λ filed. IfSome (chosen filed) P) rows
  each_chosen [] = (λ all. tt, λ all. tt)
  each_chosen (filed ∷ rows) =
      let one = first_chosen filed rows (chosen filed) refl in
      let rest = each_chosen rows in (
        λ all. ((one.0 all).0, rest.0 (one.0 all).1),
        λ all. one.1 (all.0, rest.1 all.1),
      )

-- ---- where the same pairs are counted

abbrev one_if : Bool → ℕ
one_if test = if test then 1 else 0

module _ (number : ℕ × ℕ → ℕ) (moment : ℕ) where
  has_come : ℕ × ℕ → Bool
  has_come pair = not (nat_lt moment (number pair))

  come_or_not : (pair : ℕ × ℕ) → (moment < number pair) ↔ (one_if (has_come pair) ≡ 0)
  unfolding has_come
  come_or_not pair = (λ less. grind (arith, nat_tests, less), λ none. by (nat_lt moment (number pair)) refl none)
    where
      by : (later : Bool) → nat_lt moment (number pair) ≡ later → one_if (not later) ≡ 0 → moment < number pair
      by true less none = grind (arith, nat_tests, less)
      by false not_less none = absurd (omega (arith, none))

  -- each is later where none is counted that has come
  none_come : (pairs : List (ℕ × ℕ))
      → AllByRecursion (λ pair. moment < number pair) pairs ↔ (count_by has_come pairs ≡ 0)
  none_come [] = (λ all. refl, λ none. tt)
  none_come (pair ∷ pairs) =
      let first = count_first has_come pair pairs in
      let one = come_or_not pair in
      let rest = none_come pairs in (
        λ all. let here = one.0 all.0 in let later = rest.0 all.1 in omega (arith, first, here, later),
        λ none. (one.1 (omega (arith, first, none)), rest.1 (omega (arith, first, none))),
      )

  -- of the same pairs
  all_alike : (ones others : List (ℕ × ℕ)) → HaveSame ones others
      → AllByRecursion (λ pair. moment < number pair) ones → AllByRecursion (λ pair. moment < number pair) others
  all_alike ones others same all =
      let before = (none_come ones).0 all in
      (none_come others).1 (sym (same has_come) ∙ before)

-- ---- what holds of each row

module _ (P Q : ℕ × Row → Type 0) where
  each_weaker : ((filed : ℕ × Row) → P filed → Q filed) → (rows : List (ℕ × Row)) → AllByRecursion P rows
      → AllByRecursion Q rows
  each_weaker step [] all = tt
  each_weaker step (filed ∷ rows) all = (step filed all.0, each_weaker step rows all.1)

-- each row whose place has a moment leaves it later
abbrev EachLater : ℕ → (Place → Option ℕ) → List (ℕ × Row) → Type 0
EachLater moment number rows =
    AllByRecursion (λ filed. IfSome (number (row_of filed).place) (λ at. moment < at)) rows

-- ---- a set

set_later : (one : Target) (rows : List (ℕ × Row)) (moment : ℕ)
    → AreLater moment (timed one rows) ↔ EachLater moment (moment_in one) rows
set_later one rows moment =
    let P = λ (pair : ℕ × ℕ). moment < number_in pair in
    let chosen = with_ticket (row_moment one) in
    let pairs = filter_map chosen rows in
    let given = λ (filed : ℕ × Row). given_if (λ at. moment < at) (λ at. (at, ticket_of filed)) number_in (λ n. refl)
    (moment_in one (row_of filed).place) in
    let Row_is = λ (filed : ℕ × Row). IfSome (moment_in one (row_of filed).place) (λ at. moment < at) in
    let Pair_is = λ (filed : ℕ × Row). IfSome (chosen filed) P in (
      λ all. each_weaker Pair_is Row_is (λ filed. (given filed).0) rows
          ((each_chosen P chosen rows).0
          (all_alike number_in moment (timed one rows) pairs (λ test. are_the_same test pairs)
          (recursion_from_All P (timed one rows) all))),
      λ each. All-from_recursion P (timed one rows)
          (all_alike number_in moment pairs (timed one rows) (λ test. sym (are_the_same test pairs))
          ((each_chosen P chosen rows).1 (each_weaker Row_is Pair_is (λ filed. (given filed).1) rows each))),
    )

-- ---- the leases

least_later : (moment : ℕ) (numbers : List ℕ)
    → IfSome (least numbers) (λ number. moment < number) ↔ AllByRecursion (λ number. moment < number) numbers
unfolding least
least_later moment [] = (λ all. tt, λ all. tt)
least_later moment (number ∷ numbers) = first_later moment number numbers (least numbers) (least_later moment numbers)
  where
    first_later : (moment number : ℕ) (numbers : List ℕ) (rest : Option ℕ)
        → (IfSome rest (λ number. moment < number) ↔ AllByRecursion (λ number. moment < number) numbers)
        → (moment < option_map_or (min number) rest number)
        ↔ ((moment < number) × AllByRecursion (λ number. moment < number) numbers)
    first_later moment number numbers None is = (λ less. (less, is.0 tt), λ all. all.0)
    first_later moment number numbers (Some other) is = (
      λ less. (omega (arith, less), is.0 (omega (arith, less))),
      λ all. let rest : moment < other = is.1 all.1 in let here = all.0 in omega (arith, rest, here),
    )

mapped_later : (moment : ℕ) (leases : List (ℕ × ℕ))
    → AllByRecursion (λ number. moment < number) (map until_in leases)
    ↔ AllByRecursion (λ lease. moment < until_in lease) leases
mapped_later moment [] = (λ all. tt, λ all. tt)
mapped_later moment (lease ∷ leases) =
    let rest = mapped_later moment leases in (λ all. (all.0, rest.0 all.1), λ all. (all.0, rest.1 all.1))

lease_later : (items : Named) (rows : List (ℕ × Row)) (moment : ℕ) → AreNamed items
    → ((jid : List ℕ) → list_at items jid ≡ leases rows jid)
    → IfSome (first_until items) (λ until. moment < until) ↔ EachLater moment leased_until rows
lease_later items rows moment named are =
    let P = λ (lease : ℕ × ℕ). moment < until_in lease in
    let chosen = λ (filed : ℕ × Row). option_map (λ until. (ticket_of filed, until)) (leased_until (row_of filed).place) in
    let given = λ (filed : ℕ × Row). given_if (λ until. moment < until) (λ until. (ticket_of filed, until)) until_in
    (λ n. refl) (leased_until (row_of filed).place) in
    let Row_is = λ (filed : ℕ × Row). IfSome (leased_until (row_of filed).place) (λ until. moment < until) in
    let Pair_is = λ (filed : ℕ × Row). IfSome (chosen filed) P in
    let same = same_leases items rows named are in
    let first = least_later moment (map until_in (all_pairs items)) in
    let mapped = mapped_later moment (all_pairs items) in (
      λ later. each_weaker Pair_is Row_is (λ filed. (given filed).0) rows
          ((each_chosen P chosen rows).0
          (all_alike until_in moment (all_pairs items) (leases_of rows) same (mapped.0 (first.0 later)))),
      λ each. first.1 (mapped.1
          (all_alike until_in moment (leases_of rows) (all_pairs items) (λ test. sym (same test))
          ((each_chosen P chosen rows).1 (each_weaker Row_is Pair_is (λ filed. (given filed).1) rows each)))),
    )

-- ---- a place

module _ (P : ℕ → Type 0) where
  to_set : (one : Target) (place : Place) → IfSome (leaves_at place) P → IfSome (moment_in one place) P
  to_set target.Scheduled (Scheduled at) holds = holds
  to_set target.Retries (Retry at) holds = holds
  to_set target.Dead (Dead until) holds = holds
  to_set one place holds = tt

  to_lease : (place : Place) → IfSome (leaves_at place) P → IfSome (leased_until place) P
  to_lease (Working wid since until) holds = holds
  to_lease place holds = tt

  from_both : (place : Place) → ((one : Target) → IfSome (moment_in one place) P) → IfSome (leased_until place) P
      → IfSome (leaves_at place) P
  from_both (Queued rank) sets lease = tt
  from_both (Scheduled at) sets lease = sets target.Scheduled
  from_both (Retry at) sets lease = sets target.Retries
  from_both (Dead until) sets lease = sets target.Dead
  from_both (Working wid since until) sets lease = lease

from_all : (moment : ℕ) (rows : List (ℕ × Row)) → ((one : Target) → EachLater moment (moment_in one) rows)
    → EachLater moment leased_until rows → EachLater moment leaves_at rows
from_all moment [] sets leases = tt
from_all moment (filed ∷ rows) sets leases = (
  from_both (λ at. moment < at) (row_of filed).place (λ one. (sets one).0) leases.0,
  from_all moment rows (λ one. (sets one).1) leases.1,
)

-- ---- nothing is due

module _ (kept : KeptState) (rows : List (ℕ × Row)) (index : Index) (next moment : ℕ)
    (tied : AreTied rows index next) (same : rows ≡ kept.rows) where
  each_leaves : IsUpToDate moment kept → EachLater moment leaves_at rows
  each_leaves up =
      recursion_from_All (λ filed. IfSome (leaves_at (row_of filed).place) (λ at. moment < at)) rows (rw same up)

  -- then the moments of each set are to come
  pub sets_to_come : IsUpToDate moment kept → (one : Target) → AreLater moment (pairs_in one index.sets.items)
  sets_to_come up one =
      rw (tied.sets one)
      ((set_later one rows moment).1
      (each_weaker (λ filed. IfSome (leaves_at (row_of filed).place) (λ at. moment < at))
      (λ filed. IfSome (moment_in one (row_of filed).place) (λ at. moment < at))
      (λ filed. to_set (λ at. moment < at) one (row_of filed).place) rows (each_leaves up)))

  -- and where they are, nothing is due where the ends of the leases are, too
  pub rest_to_come : AreNamed index.leases.items
      → ((one : Target) → AreLater moment (pairs_in one index.sets.items))
      → IfSome (first_until index.leases.items) (λ until. moment < until) ↔ IsUpToDate moment kept
  rest_to_come named sets =
      let leases = lease_later index.leases.items rows moment named tied.leases in (
        λ later. rw (← same)
            (All-from_recursion (λ filed. IfSome (leaves_at (row_of filed).place) (λ at. moment < at)) rows
            (from_all moment rows (λ one. (set_later one rows moment).0 (rw (← tied.sets one) (sets one)))
            (leases.0 later))),
        λ up. leases.1
            (each_weaker (λ filed. IfSome (leaves_at (row_of filed).place) (λ at. moment < at))
            (λ filed. IfSome (leased_until (row_of filed).place) (λ at. moment < at))
            (λ filed. to_lease (λ at. moment < at) (row_of filed).place) rows (each_leaves up)),
      )

-- ---- by the two answers

module _ (kept : KeptState) (opened inside : Inside) (moment : ℕ) (sets_last : Bool) (view : opened ≡ inside)
    (tied : AreTied inside.rows.items inside.index inside.next) (same : inside.rows.items ≡ kept.rows)
    (sets : IsTrue sets_last ↔ AllLater moment opened.index.sets.items) where
  by_sets : IsTrue sets_last ↔ AllLater moment inside.index.sets.items
  by_sets = subst (λ (held : Inside). IsTrue sets_last ↔ AllLater moment held.index.sets.items) view sets

  -- the sets say that nothing is due: the leases decide
  pub said_by_leases : (last : Bool) → AreNamed opened.index.leases.items
      → (IsTrue last ↔ IfSome (first_until opened.index.leases.items) (λ until. moment < until))
      → sets_last ≡ true → IsTrue last ↔ IsUpToDate moment kept
  said_by_leases last named leases later =
      let decide = subst (λ (held : Inside). IsTrue last
      ↔ IfSome (first_until held.index.leases.items) (λ until. moment < until)) view leases in
      let rest = rest_to_come kept inside.rows.items inside.index inside.next moment tied same
      (subst (λ (held : Inside). AreNamed held.index.leases.items) view named) (by_sets.0 later) in
      (λ passes. rest.0 (decide.0 passes), λ up. decide.1 (rest.1 up))

  -- they say that something is
  pub said_by_sets : sets_last ≡ false → IsTrue sets_last ↔ IsUpToDate moment kept
  said_by_sets due = (
    λ wrong. absurd (cc (wrong, due)),
    λ up. by_sets.1 (sets_to_come kept inside.rows.items inside.index inside.next moment tied same up),
  )

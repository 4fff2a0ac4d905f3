-- Rows whose tickets and ranks are below a number, one by one and all of them; and the last of a queue.
use Rattle.std.proofs.Common.{◌≡◌, ◌∙◌, ap, refl, subst, ℕ, zero, suc, ◌<◌, ◌≤◌, ◌+◌, ◌-◌, List, [], ◌∷◌, true, false, length, map, take, add-one, inl, inr, arith}
use Rattle.std.specs.Prelude.{◌↔◌, ◌⊎◌, nat_lt, All, Option, None, Some, IfSome, IsTrue, slice_get, slice_index_or, option_map}
use Rattle.std.specs.List.Sorted.{IsStrictlyIncreasing}
use Rattle.std.proofs.lemmas.List.Elements.{All-cons, All-head, All-nil, All-tail}
use Rattle.std.proofs.lemmas.List.{take_all}
use Rattle.std.proofs.lemmas.Option.{get_or_from_slice_get, slice_get-get_or, slice_get_within}
use Rattle.std.proofs.lemmas.Bool.Decides.{nat_tests}
use borrow.Author.Tests.{ltb-true}
use Rattle.fk_model.specs.declared.row.Row.{Row}
use Rattle.fk_model.specs.Orders.{number_in, queue}
use Rattle.fk_model.specs.Between.{IsAboveAll}
use Rattle.fk_model.proofs.Rising.{rising_pairs}
use Rattle.fk_model.specs.State.{KeptState}
use Rattle.fk_model.specs.Changes.{IsBehindQueue}
use Rattle.fk_lists.specs.Room.{list_at}
use Rattle.fk_core.specs.Index.{Index, last_number}
use Rattle.fk_core.specs.Tied.{IsBelow, AreTied}

-- ---- one by one

one_below : (next : ℕ) (rows : List (ℕ × Row)) (at : ℕ) → All (IsBelow next) (take at rows)
    → IfSome (slice_get rows at) (IsBelow next) → All (IsBelow next) (take (suc at) rows)
one_below next [] zero below here = below
one_below next [] (suc at) below here = below
one_below next (row ∷ rows) zero below here = All-cons (IsBelow next) row [] here (All-nil (IsBelow next))
one_below next (row ∷ rows) (suc at) below here =
    All-cons (IsBelow next) row (take (suc at) rows) (All-head (IsBelow next) row (take at rows) below)
    (one_below next rows at (All-tail (IsBelow next) row (take at rows) below) here)

-- one row more
pub more_below : (next : ℕ) (rows : List (ℕ × Row)) (at : ℕ) → All (IsBelow next) (take at rows)
    → IfSome (slice_get rows at) (IsBelow next) → All (IsBelow next) (take (at + 1) rows)
more_below next rows at below here = rw add-one (one_below next rows at below here)

pub none_yet : (next : ℕ) → All (IsBelow next) []
none_yet next = All-nil (IsBelow next)

pub above_from : (next : ℕ) (rows : List (ℕ × Row)) → All (IsBelow next) rows → IsAboveAll next rows
above_from next rows below = record {
  tickets = λ k d within. (below k d within).ticket;
  ranks = λ k d within. (below k d within).rank;
}

pub below_from : (next : ℕ) (rows : List (ℕ × Row)) → IsAboveAll next rows → All (IsBelow next) rows
below_from next rows above k d within = record {
  ticket = above.tickets k d within;
  rank = above.ranks k d within;
}

-- where a number is above all, it is above the row at each place
pub below_at : (next : ℕ) (rows : List (ℕ × Row)) (at : ℕ) → All (IsBelow next) rows
    → IfSome (slice_get rows at) (IsBelow next)
below_at next [] at below = tt
below_at next (row ∷ rows) zero below = All-head (IsBelow next) row rows below
below_at next (row ∷ rows) (suc at) below = below_at next rows at (All-tail (IsBelow next) row rows below)

-- where the rows up to the end are below a number, it is above all
pub all_below : (next : ℕ) (rows now_rows : List (ℕ × Row)) (at : ℕ) → rows ≡ now_rows → length rows ≤ at
    → All (IsBelow next) (take at rows) → IsTrue true ↔ IsAboveAll next now_rows
all_below next rows now_rows at same past below =
    let all : All (IsBelow next) now_rows = rw (← same, ← take_all at rows past) below in
    (λ yes. above_from next now_rows all, λ above. refl)

-- where one row isn't below a number, it isn't above all
pub not_below : (next : ℕ) (rows now_rows : List (ℕ × Row)) (at : ℕ) → rows ≡ now_rows
    → (IfSome (slice_get rows at) (IsBelow next) → IsTrue false) → IsTrue false ↔ IsAboveAll next now_rows
not_below next rows now_rows at same fails = (
  λ yes. absurd (cc yes),
  λ above. fails (below_at next rows at (below_from next rows (rw same above))),
)

-- ---- the last of a queue

at_last : (pairs : List (ℕ × ℕ)) (last : ℕ × ℕ) (rank k : ℕ) (d : ℕ × ℕ)
    → IsStrictlyIncreasing (map number_in pairs) → slice_get pairs (length pairs - 1) ≡ Some last
    → number_in last < rank → k < length pairs → (k < length pairs - 1) ⊎ (k ≡ length pairs - 1)
    → number_in (slice_index_or pairs k d) < rank
at_last pairs last rank k d rising at less here (inl before) =
    let within : length pairs - 1 < length pairs = omega arith in
    let under : number_in (slice_index_or pairs k d) < number_in (slice_index_or pairs (length pairs - 1) d) =
    rising_pairs number_in pairs rising k (length pairs - 1) d before within in
    let same : slice_index_or pairs (length pairs - 1) d ≡ last =
    get_or_from_slice_get pairs (length pairs - 1) last d at in
    let most : number_in (slice_index_or pairs (length pairs - 1) d) ≡ number_in last = ap number_in same in
    omega arith
at_last pairs last rank k d rising at less here (inr equal) =
    let same : slice_index_or pairs k d ≡ last =
    rw equal (get_or_from_slice_get pairs (length pairs - 1) last d at) in
    rw same less

last_above : (pairs : List (ℕ × ℕ)) (last : ℕ × ℕ) (rank : ℕ) → IsStrictlyIncreasing (map number_in pairs)
    → slice_get pairs (length pairs - 1) ≡ Some last → number_in last < rank
    → All (λ pair. number_in pair < rank) pairs
last_above pairs last rank rising at less k d here =
    at_last pairs last rank k d rising at less here (before_end k (length pairs) here)
  where
    before_end : (k n : ℕ) → k < n → (k < n - 1) ⊎ (k ≡ n - 1)
    before_end k n less = grind arith

last_within : (pairs : List (ℕ × ℕ)) (last : ℕ × ℕ) (rank : ℕ)
    → slice_get pairs (length pairs - 1) ≡ Some last → All (λ pair. number_in pair < rank) pairs
    → number_in last < rank
last_within pairs last rank at below =
    let within : length pairs - 1 < length pairs = slice_get_within pairs (length pairs - 1) last at in
    subst (λ pair. number_in pair < rank) (get_or_from_slice_get pairs (length pairs - 1) last last at)
    (below (length pairs - 1) last within)

none_last : (pairs : List (ℕ × ℕ)) (rank : ℕ) → slice_get pairs (length pairs - 1) ≡ None
    → All (λ pair. number_in pair < rank) pairs
none_last [] rank at = All-nil (λ pair. number_in pair < rank)
none_last (pair ∷ pairs) rank at = absurd (not_past (pair ∷ pairs) pair (omega arith) at)
  where
    not_past : (pairs : List (ℕ × ℕ)) (d : ℕ × ℕ) → 0 < length pairs
        → slice_get pairs (length pairs - 1) ≡ None → ⊥
    not_past pairs d some at =
        let here : slice_get pairs (length pairs - 1) ≡ Some (slice_index_or pairs (length pairs - 1) d) =
        slice_get-get_or pairs (length pairs - 1) d (omega arith) in
        absurd (cc)

one_last : (pairs : List (ℕ × ℕ)) (rank last : ℕ) (found : Option (ℕ × ℕ))
    → IsStrictlyIncreasing (map number_in pairs) → slice_get pairs (length pairs - 1) ≡ found
    → Some last ≡ option_map number_in found
    → IsTrue (nat_lt last rank) ↔ All (λ pair. number_in pair < rank) pairs
one_last pairs rank last None rising at is = absurd (cc is)
one_last pairs rank last (Some pair) rising at is =
    let same : last ≡ number_in pair = cc in
    rw same (
      λ less. last_above pairs pair rank rising at (ltb-true (number_in pair) rank less),
      λ below. less_true (number_in pair) rank (last_within pairs pair rank at below),
    )
  where
    less_true : (one other : ℕ) → one < other → IsTrue (nat_lt one other)
    less_true one other less = grind (arith, nat_tests, less)

no_last : (pairs : List (ℕ × ℕ)) (rank : ℕ) (found : Option (ℕ × ℕ))
    → slice_get pairs (length pairs - 1) ≡ found → None ≡ option_map number_in found
    → All (λ pair. number_in pair < rank) pairs
no_last pairs rank None at is = none_last pairs rank at
no_last pairs rank (Some pair) at is = absurd (cc is)

-- a rank is above all of a queue where it is above the last of them
pub behind_last : (kept : KeptState) (rows : List (ℕ × Row)) (index : Index) (next : ℕ) (name : List ℕ)
    (last rank : ℕ) → AreTied rows index next → rows ≡ kept.rows
    → Some last ≡ last_number (list_at index.queues.items name)
    → IsTrue (nat_lt last rank) ↔ IsBehindQueue kept name rank
behind_last kept rows index next name last rank tied same is =
    let here : list_at index.queues.items name ≡ queue kept.rows name = rw (← same) (tied.queues name) in
    one_last (queue kept.rows name) rank last
    (slice_get (queue kept.rows name) (length (queue kept.rows name) - 1))
    (rw (← same) (tied.distinct name)) refl (is ∙ ap last_number here)

-- and where there is none
pub behind_none : (kept : KeptState) (rows : List (ℕ × Row)) (index : Index) (next : ℕ) (name : List ℕ)
    (rank : ℕ) → AreTied rows index next → rows ≡ kept.rows
    → None ≡ last_number (list_at index.queues.items name) → IsBehindQueue kept name rank
behind_none kept rows index next name rank tied same is =
    let here : list_at index.queues.items name ≡ queue kept.rows name = rw (← same) (tied.queues name) in
    no_last (queue kept.rows name) rank
    (slice_get (queue kept.rows name) (length (queue kept.rows name) - 1)) refl (is ∙ ap last_number here)

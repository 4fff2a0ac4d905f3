-- The rows whose moment has come, in order of the moments: each stands under its ticket, comes once, and none
-- is forgotten.
use Rattle.std.proofs.Common.{◌≡◌, ◌≢◌, ◌⊎◌, sym, ap, refl, ℕ, ◌<◌, ◌≤◌, List, [], ◌∷◌, ◌++◌, Bool, true, false, not, filter, inl, inr, arith}
use Rattle.std.specs.Prelude.{All, AllPairs, Option, None, Some, IfSome, option_map, option_and_then, nat_lt, ◌==◌, filter_map, slice_index_or}
use Rattle.std.proofs.lemmas.Bool.Decides.{nat_tests}
use Rattle.std.proofs.lemmas.Option.{same_Some}
use Rattle.std.proofs.lemmas.List.Elements.{All-nil, All-cons, All-head, All-tail, All-weaker, All-filter, filter_passes}
use Rattle.std.proofs.lemmas.List.Kept.{AllPairs-cons, AllPairs-filter}
use Rattle.fk_model.specs.declared.row.Row.{Row}
use Rattle.fk_model.specs.Rows.{ticket_of, row_of, IsByTicket, filed_at, row_at}
use Rattle.fk_json.specs.PairOrder.{comes_before, with_pair}
use Rattle.fk_model.specs.Orders.{number_in, ticket_in, in_order, with_ticket}
use Rattle.fk_model.specs.Due.{up_to, rows_of}
use Rattle.fk_model.proofs.Sieves.{all_mapped}
use Rattle.fk_model.proofs.Sorting.{head_of_all, tail_of_all, joined}
use Rattle.fk_model.proofs.Insertion.{sorted_all}
use Rattle.fk_model.proofs.Finding.{find_passes}
use Rattle.fk_model.proofs.Cuts.{lower_pairs}
use Rattle.fk_model.proofs.Numbered.{numbered}
use Rattle.fk_model.proofs.Standing.{IsNumberOf, each_number}

-- the rows whose number has come by a moment, in order
abbrev pub chosen : (Row → Option ℕ) → ℕ → List (ℕ × Row) → List (ℕ × Row)
chosen number moment rows = rows_of rows (up_to moment (numbered number rows))

-- ---- each stands there, and its number has come

pub record IsChosen (number : Row → Option ℕ) (moment : ℕ) (rows : List (ℕ × Row)) (filed : ℕ × Row) : Type 0 where
  pub stands : row_at rows (ticket_of filed) ≡ Some (row_of filed)
  pub at : ℕ
  pub has : number (row_of filed) ≡ Some at
  pub come : at ≤ moment

pub found_ticket : (rows : List (ℕ × Row)) (ticket : ℕ) (filed : ℕ × Row) → filed_at rows ticket ≡ Some filed
    → ticket_of filed ≡ ticket
found_ticket rows ticket filed at =
    let passes : (ticket_of filed == ticket) ≡ true = find_passes (λ x. ticket_of x == ticket) rows filed at in
    grind (arith, nat_tests, passes)

chosen_of : (number : Row → Option ℕ) (moment : ℕ) (rows : List (ℕ × Row)) (pair : ℕ × ℕ)
    (found : Option (ℕ × Row)) → filed_at rows (ticket_in pair) ≡ found
    → option_and_then number (option_map row_of found) ≡ Some (number_in pair)
    → not (nat_lt moment (number_in pair)) ≡ true → IfSome found (IsChosen number moment rows)
chosen_of number moment rows pair None e has come = tt
chosen_of number moment rows pair (Some filed) e has come =
    let here = found_ticket rows (ticket_in pair) filed e in
    record {
      stands = rw here (ap (option_map row_of) e);
      at = number_in pair;
      has = has;
      come = grind (arith, nat_tests, come);
    }

pub each_chosen : (number : Row → Option ℕ) (moment : ℕ) (rows : List (ℕ × Row)) → IsByTicket rows
    → All (IsChosen number moment rows) (chosen number moment rows)
each_chosen number moment rows by_ticket =
    let pairs = numbered number rows in
    let has = All-filter (λ pair. not (nat_lt moment (number_in pair))) (IsNumberOf number rows) pairs
    (each_number number rows by_ticket) in
    let come = filter_passes (λ pair. not (nat_lt moment (number_in pair))) pairs in
    all_mapped (IsChosen number moment rows) (λ pair. filed_at rows (ticket_in pair)) (up_to moment pairs)
    (λ k d within. chosen_of number moment rows (slice_index_or (up_to moment pairs) k d)
    (filed_at rows (ticket_in (slice_index_or (up_to moment pairs) k d))) refl (has k d within)
    (come k d within))

-- ---- each comes once

-- what holds of two of a list holds of what they give
abbrev Carries : {X Y : Type 0} → (X → X → Type 0) → (Y → Y → Type 0) → (X → Option Y) → Type 0
Carries {X} {Y} R S h = (x other : X) (y given : Y) → h x ≡ Some y → h other ≡ Some given → R x other → S y given

one_carried : {X Y : Type 0} (R : X → X → Type 0) (S : Y → Y → Type 0) (h : X → Option Y)
    → Carries R S h → (x other : X) (y : Y) (given : Option Y) → h x ≡ Some y → h other ≡ given → R x other
    → IfSome given (S y)
one_carried R S h carries x other y None e f related = tt
one_carried R S h carries x other y (Some given) e f related = carries x other y given e f related

pairs_step : {X Y : Type 0} (R : X → X → Type 0) (S : Y → Y → Type 0) (h : X → Option Y)
    → Carries R S h → (x : X) (xs : List X) (given : Option Y) → h x ≡ given → All (R x) xs
    → AllPairs S (filter_map h xs) → AllPairs S (filter_map h (x ∷ xs))
pairs_step R S h carries x xs None e each rest = rw e rest
pairs_step R S h carries x xs (Some y) e each rest =
    rw e (AllPairs-cons S y (filter_map h xs)
    (all_mapped (S y) h xs
    (λ k d within. one_carried R S h carries x (slice_index_or xs k d) y (h (slice_index_or xs k d)) e refl
    (each k d within))) rest)

pairs_given : {X Y : Type 0} (R : X → X → Type 0) (S : Y → Y → Type 0) (h : X → Option Y)
    → Carries R S h → (xs : List X) → AllPairs R xs → AllPairs S (filter_map h xs)
pairs_given R S h carries [] all = λ i j d ahead within. absurd (omega (arith, within))
pairs_given R S h carries (x ∷ xs) all =
    pairs_step R S h carries x xs (h x) refl (head_of_all R x xs all)
    (pairs_given R S h carries xs (tail_of_all R x xs all))

-- two pairs are of different tickets
abbrev pub AreApart : ℕ × ℕ → ℕ × ℕ → Type 0
AreApart one other = ticket_in one ≢ ticket_in other

parted_step : (test : ℕ × ℕ → Bool) (pair : ℕ × ℕ) (pairs : List (ℕ × ℕ)) (passes : Bool)
    → test pair ≡ passes → All (AreApart pair) pairs
    → All (λ one. All (AreApart one) (filter (λ x. not (test x)) pairs)) (filter test pairs)
    → All (λ one. All (AreApart one) (filter (λ x. not (test x)) (pair ∷ pairs))) (filter test (pair ∷ pairs))
parted_step test pair pairs true e each rest =
    rw e (All-cons (λ one. All (AreApart one) (filter (λ x. not (test x)) pairs)) pair (filter test pairs)
    (All-filter (λ x. not (test x)) (AreApart pair) pairs each) rest)
parted_step test pair pairs false e each rest =
    rw e (λ k d within.
    All-cons (AreApart (slice_index_or (filter test pairs) k d)) pair (filter (λ x. not (test x)) pairs)
    (λ same. All-filter test (AreApart pair) pairs each k d within (sym same)) (rest k d within))

parted : (test : ℕ × ℕ → Bool) (pairs : List (ℕ × ℕ)) → AllPairs AreApart pairs
    → All (λ one. All (AreApart one) (filter (λ x. not (test x)) pairs)) (filter test pairs)
parted test [] all = All-nil (λ one. All (AreApart one) (filter (λ x. not (test x)) []))
parted test (pair ∷ pairs) all =
    parted_step test pair pairs (test pair) refl (head_of_all AreApart pair pairs all)
    (parted test pairs (tail_of_all AreApart pair pairs all))

one_apart : (pair : ℕ × ℕ) (pairs : List (ℕ × ℕ)) → All (AreApart pair) pairs → AllPairs AreApart pairs
    → AllPairs AreApart (with_pair pair pairs)
one_apart pair pairs each all =
    let ahead = λ (other : ℕ × ℕ). comes_before other pair in
    let back = filter (λ x. not (ahead x)) pairs in
    joined AreApart (filter ahead pairs) (pair ∷ back) (AllPairs-filter AreApart ahead pairs all)
    (AllPairs-cons AreApart pair back (All-filter (λ x. not (ahead x)) (AreApart pair) pairs each)
    (AllPairs-filter AreApart (λ x. not (ahead x)) pairs all))
    (λ k d within. All-cons (AreApart (slice_index_or (filter ahead pairs) k d)) pair back
    (λ same. All-filter ahead (AreApart pair) pairs each k d within (sym same))
    (parted ahead pairs all k d within))

sorted_apart : (pairs : List (ℕ × ℕ)) → AllPairs AreApart pairs → AllPairs AreApart (in_order pairs)
unfolding in_order
sorted_apart [] all = all
sorted_apart (pair ∷ pairs) all =
    one_apart pair (in_order pairs) (sorted_all (AreApart pair) pairs (head_of_all AreApart pair pairs all))
    (sorted_apart pairs (tail_of_all AreApart pair pairs all))

given_ticket : (number : Option ℕ) (ticket : ℕ) (pair : ℕ × ℕ)
    → option_map (λ n. (n, ticket)) number ≡ Some pair → ticket_in pair ≡ ticket
given_ticket None ticket pair e = absurd (cc)
given_ticket (Some n) ticket pair e = sym (ap ticket_in (same_Some (n, ticket) pair e))

-- rows are of different tickets
abbrev pub AreOfTwo : ℕ × Row → ℕ × Row → Type 0
AreOfTwo one other = ticket_of one ≢ ticket_of other

pub rows_apart : (rows : List (ℕ × Row)) → IsByTicket rows → AllPairs AreOfTwo rows
rows_apart rows by_ticket i j d ahead within =
    let lower = lower_pairs rows by_ticket i j d ahead within in omega (arith, lower)

pub numbered_apart : (number : Row → Option ℕ) (rows : List (ℕ × Row)) → IsByTicket rows
    → AllPairs AreApart (numbered number rows)
numbered_apart number rows by_ticket =
    sorted_apart (filter_map (with_ticket number) rows)
    (pairs_given AreOfTwo AreApart (with_ticket number)
    (λ x other y given e f apart. rw (
      given_ticket (number (row_of x)) (ticket_of x) y e,
      given_ticket (number (row_of other)) (ticket_of other) given f,
    ) apart)
    rows (rows_apart rows by_ticket))

-- pairs of different tickets name rows of different tickets
pub named_once : (rows : List (ℕ × Row)) (pairs : List (ℕ × ℕ)) → AllPairs AreApart pairs
    → AllPairs AreOfTwo (rows_of rows pairs)
named_once rows pairs apart =
    pairs_given AreApart AreOfTwo (λ pair. filed_at rows (ticket_in pair))
    (λ x other y given e f of_two. rw (
      found_ticket rows (ticket_in x) y e,
      found_ticket rows (ticket_in other) given f,
    ) of_two)
    pairs apart

pub chosen_once : (number : Row → Option ℕ) (moment : ℕ) (rows : List (ℕ × Row)) → IsByTicket rows
    → AllPairs AreOfTwo (chosen number moment rows)
chosen_once number moment rows by_ticket =
    named_once rows (up_to moment (numbered number rows))
    (AllPairs-filter AreApart (λ pair. not (nat_lt moment (number_in pair))) (numbered number rows)
    (numbered_apart number rows by_ticket))

-- ---- none is forgotten

-- the row of a ticket is one of them
abbrev pub IsIn : ℕ → List (ℕ × Row) → Type 0
IsIn ticket [] = ⊥
IsIn ticket (filed ∷ rows) = (ticket ≡ ticket_of filed) ⊎ IsIn ticket rows

-- a pair whose moment has come is that of one of these rows
abbrev IsTaken : ℕ → List (ℕ × Row) → ℕ × ℕ → Type 0
IsTaken moment rows pair = not (nat_lt moment (number_in pair)) ≡ true → IsIn (ticket_in pair) rows

taken_step : (number : Row → Option ℕ) (moment : ℕ) (rows : List (ℕ × Row)) (pair : ℕ × ℕ)
    (pairs : List (ℕ × ℕ)) (found : Option (ℕ × Row)) (come : Bool)
    → filed_at rows (ticket_in pair) ≡ found → not (nat_lt moment (number_in pair)) ≡ come
    → option_and_then number (option_map row_of found) ≡ Some (number_in pair)
    → All (IsTaken moment (rows_of rows (up_to moment pairs))) pairs
    → All (IsTaken moment (rows_of rows (up_to moment (pair ∷ pairs)))) (pair ∷ pairs)
taken_step number moment rows pair pairs None come e f has rest = absurd (cc)
taken_step number moment rows pair pairs (Some filed) true e f has rest =
    rw (f, e) (All-cons (IsTaken moment (filed ∷ rows_of rows (up_to moment pairs))) pair pairs
    (λ passes. inl (sym (found_ticket rows (ticket_in pair) filed e)))
    (λ k d within passes. inr (rest k d within passes)))
taken_step number moment rows pair pairs (Some filed) false e f has rest =
    rw f (All-cons (IsTaken moment (rows_of rows (up_to moment pairs))) pair pairs
    (λ passes. absurd (cc)) rest)

all_taken : (number : Row → Option ℕ) (moment : ℕ) (rows : List (ℕ × Row)) (pairs : List (ℕ × ℕ))
    → All (IsNumberOf number rows) pairs → All (IsTaken moment (rows_of rows (up_to moment pairs))) pairs
all_taken number moment rows [] has = All-nil (IsTaken moment [])
all_taken number moment rows (pair ∷ pairs) has =
    taken_step number moment rows pair pairs (filed_at rows (ticket_in pair))
    (not (nat_lt moment (number_in pair))) refl refl (All-head (IsNumberOf number rows) pair pairs has)
    (all_taken number moment rows pairs (All-tail (IsNumberOf number rows) pair pairs has))

joined_if : (P : ℕ × ℕ → Type 0) (test : ℕ × ℕ → Bool) (pair : ℕ × ℕ) (pairs : List (ℕ × ℕ)) (passes : Bool)
    → test pair ≡ passes
    → (All P (filter test pairs) → All P (filter (λ x. not (test x)) pairs) → All P pairs)
    → All P (filter test (pair ∷ pairs)) → All P (filter (λ x. not (test x)) (pair ∷ pairs))
    → All P (pair ∷ pairs)
joined_if P test pair pairs true e rest front back =
    let first : All P (pair ∷ filter test pairs) = rw e at front in
    let last : All P (filter (λ x. not (test x)) pairs) = rw e at back in
    All-cons P pair pairs (All-head P pair (filter test pairs) first)
    (rest (All-tail P pair (filter test pairs) first) last)
joined_if P test pair pairs false e rest front back =
    let first : All P (filter test pairs) = rw e at front in
    let last : All P (pair ∷ filter (λ x. not (test x)) pairs) = rw e at back in
    All-cons P pair pairs (All-head P pair (filter (λ x. not (test x)) pairs) last)
    (rest first (All-tail P pair (filter (λ x. not (test x)) pairs) last))

-- what holds of each of two parts of a list holds of each
all_joined : (P : ℕ × ℕ → Type 0) (test : ℕ × ℕ → Bool) (pairs : List (ℕ × ℕ)) → All P (filter test pairs)
    → All P (filter (λ x. not (test x)) pairs) → All P pairs
all_joined P test [] front back = All-nil P
all_joined P test (pair ∷ pairs) front back =
    joined_if P test pair pairs (test pair) refl (all_joined P test pairs) front back

all_parts : (P : ℕ × ℕ → Type 0) (front back : List (ℕ × ℕ)) → All P (front ++ back) → All P front × All P back
all_parts P [] back each = (All-nil P, each)
all_parts P (pair ∷ front) back each =
    let rest = all_parts P front back (All-tail P pair (front ++ back) each) in
    (All-cons P pair front (All-head P pair (front ++ back) each) rest.0, rest.1)

-- what holds of each of the sorted pairs holds of each
pub all_unsorted : (P : ℕ × ℕ → Type 0) (pairs : List (ℕ × ℕ)) → All P (in_order pairs) → All P pairs
unfolding in_order
all_unsorted P [] each = each
all_unsorted P (pair ∷ pairs) each =
    let sorted = in_order pairs in
    let ahead = filter (λ other. comes_before other pair) sorted in
    let back = filter (λ other. not (comes_before other pair)) sorted in
    let parts = all_parts P ahead (pair ∷ back) each in
    All-cons P pair pairs (All-head P pair back parts.1)
    (all_unsorted P pairs
    (all_joined P (λ other. comes_before other pair) sorted parts.0 (All-tail P pair back parts.1)))

given_step : (P : ℕ × ℕ → Type 0) (h : ℕ × Row → Option (ℕ × ℕ)) (x : ℕ × Row) (xs : List (ℕ × Row))
    (given : Option (ℕ × ℕ)) → h x ≡ given → (All P (filter_map h xs) → All (λ x. IfSome (h x) P) xs)
    → All P (filter_map h (x ∷ xs)) → All (λ x. IfSome (h x) P) (x ∷ xs)
given_step P h x xs None e rest each =
    let tail : All P (filter_map h xs) = rw e at each in
    All-cons (λ x. IfSome (h x) P) x xs (rw e tt) (rest tail)
given_step P h x xs (Some y) e rest each =
    let all : All P (y ∷ filter_map h xs) = rw e at each in
    All-cons (λ x. IfSome (h x) P) x xs (rw e (All-head P y (filter_map h xs) all))
    (rest (All-tail P y (filter_map h xs) all))

-- what holds of all that is given holds of what each element gives
pub all_given : (P : ℕ × ℕ → Type 0) (h : ℕ × Row → Option (ℕ × ℕ)) (xs : List (ℕ × Row))
    → All P (filter_map h xs) → All (λ x. IfSome (h x) P) xs
all_given P h [] each = All-nil (λ x. IfSome (h x) P)
all_given P h (x ∷ xs) each = given_step P h x xs (h x) refl (all_given P h xs) each

-- a row whose number has come is one of these
abbrev pub IsTakenBy : (Row → Option ℕ) → ℕ → List (ℕ × Row) → ℕ × Row → Type 0
IsTakenBy number moment rows filed =
    IfSome (number (row_of filed)) (λ at. moment < at ⊎ IsIn (ticket_of filed) rows)

pub come_or_later : (moment at : ℕ) (P : Type 0) (later : Bool) → nat_lt moment at ≡ later
    → (not later ≡ true → P) → moment < at ⊎ P
come_or_later moment at P true e taken = inl (grind (arith, nat_tests, e))
come_or_later moment at P false e taken = inr (taken refl)

taken_by : (number : Row → Option ℕ) (moment : ℕ) (rows : List (ℕ × Row)) (filed : ℕ × Row)
    (given : Option ℕ) → IfSome (option_map (λ n. (n, ticket_of filed)) given) (IsTaken moment rows)
    → IfSome given (λ at. moment < at ⊎ IsIn (ticket_of filed) rows)
taken_by number moment rows filed None taken = tt
taken_by number moment rows filed (Some at) taken =
    come_or_later moment at (IsIn (ticket_of filed) rows) (nat_lt moment at) refl taken

pub each_taken : (number : Row → Option ℕ) (moment : ℕ) (rows : List (ℕ × Row)) → IsByTicket rows
    → All (IsTakenBy number moment (chosen number moment rows)) rows
each_taken number moment rows by_ticket =
    let pairs = filter_map (with_ticket number) rows in
    let taken = chosen number moment rows in
    All-weaker (λ filed. IfSome (with_ticket number filed) (IsTaken moment taken)) (IsTakenBy number moment taken)
    (λ filed. taken_by number moment taken filed (number (row_of filed))) rows
    (all_given (IsTaken moment taken) (with_ticket number) rows
    (all_unsorted (IsTaken moment taken) pairs
    (all_taken number moment rows (in_order pairs) (each_number number rows by_ticket))))

-- Where the move of a ticket stands, move by move.
use Rattle.std.proofs.Common.{◌≡◌, ◌∙◌, sym, ap, refl, ℕ, zero, suc, ◌+◌, ◌<◌, ◌≤◌, List, [], ◌∷◌, ◌++◌, take, length, Bool, true, false, arith}
use Rattle.std.specs.Prelude.{Option, None, Some, IfSome, if◌then◌else◌, option_and_then, slice_get, find, ◌==◌}
use Rattle.std.specs.Option.{option_map_or}
use Rattle.std.specs.Ordering.{nat_cmp}
use Rattle.std.specs.BTreeMap.{BTreeMap, get}
use Rattle.std.proofs.lemmas.List.{take_more}
use Rattle.std.proofs.lemmas.Option.{slice_get_within, get_or_from_slice_get}
use Rattle.fk_model.specs.declared.move_.Move.{Move}
use Rattle.fk_plan.specs.Choosing.{is_move_of, move_of, ticket_told, ArePlacesOf}
use Rattle.fk_plan.proofs.Entries.{past_length}

-- ---- the items up to a place

up_to_place : {X : Type 0} (xs : List X) (at : ℕ) (x : X) → slice_get xs at ≡ Some x
    → take (at + 1) xs ≡ take at xs ++ x ∷ []
up_to_place xs at x here =
    take_more xs at x (slice_get_within xs at x here)
    ∙ ap (λ y. take at xs ++ y ∷ []) (get_or_from_slice_get xs at x x here)

length_up_to : {X : Type 0} (xs : List X) (at : ℕ) (x : X) → slice_get xs at ≡ Some x → length (take at xs) ≡ at
length_up_to [] zero x here = absurd (cc)
length_up_to [] (suc at) x here = absurd (cc)
length_up_to (y ∷ xs) zero x here = refl
length_up_to (y ∷ xs) (suc at) x here = let rest = length_up_to xs at x here in omega (arith, rest)

found_in_front : {X : Type 0} (xs : List X) (x : X) (at : ℕ) → at < length xs
    → slice_get (xs ++ x ∷ []) at ≡ slice_get xs at
found_in_front [] x at within = absurd (omega (arith, within))
found_in_front (y ∷ xs) x zero within = refl
found_in_front (y ∷ xs) x (suc at) within = found_in_front xs x at (omega (arith, within))

found_last : {X : Type 0} (xs : List X) (x : X) → slice_get (xs ++ x ∷ []) (length xs) ≡ Some x
found_last [] x = refl
found_last (y ∷ xs) x = found_last xs x

-- what is found of one more
find_one_more : {X : Type 0} (p : X → Bool) (xs : List X) (x : X)
    → find p (xs ++ x ∷ []) ≡ option_map_or Some (find p xs) (if p x then Some x else None)
find_one_more p [] x = refl
find_one_more p (y ∷ xs) x = by_test (p y) refl (find_one_more p xs x)
  where
    by_test : (test : Bool) → p y ≡ test
        → find p (xs ++ x ∷ []) ≡ option_map_or Some (find p xs) (if p x then Some x else None)
        → find p ((y ∷ xs) ++ x ∷ []) ≡ option_map_or Some (find p (y ∷ xs)) (if p x then Some x else None)
    by_test true e rest = rw e refl
    by_test false e rest = rw e rest

-- ---- one move more

there_anyway : {X : Type 0} (xs : List X) (at : ℕ) (other : Option X) → at < length xs
    → option_map_or Some (slice_get xs at) other ≡ slice_get xs at
there_anyway [] at other within = absurd (omega (arith, within))
there_anyway (x ∷ xs) zero other within = refl
there_anyway (x ∷ xs) (suc at) other within = there_anyway xs at other (omega (arith, within))

-- the place under a ticket, where one more move may be of it
abbrev with_place : Option ℕ → ℕ → Bool → Option ℕ
with_place known at is = option_map_or Some known (if is then Some at else None)

found_then : (front : List Move) (step : Move) (ticket : ℕ) (known : Option ℕ) (is : Bool)
    → is_move_of ticket step ≡ is → option_and_then (slice_get front) known ≡ move_of front ticket
    → IfSome known (λ at. at < length front)
    → option_and_then (slice_get (front ++ step ∷ [])) (with_place known (length front) is)
    ≡ move_of (front ++ step ∷ []) ticket
found_then front step ticket (Some at) is e found within =
    found_in_front front step at within
    ∙ sym (there_anyway front at (if is_move_of ticket step then Some step else None) within)
    ∙ ap (λ one. option_map_or Some one (if is_move_of ticket step then Some step else None)) found
    ∙ sym (find_one_more (is_move_of ticket) front step)
found_then front step ticket None true e found within =
    found_last front step
    ∙ sym (find_one_more (is_move_of ticket) front step ∙ rw (← found, e) refl)
found_then front step ticket None false e found within =
    sym (find_one_more (is_move_of ticket) front step ∙ rw (← found, e) refl)

length_one_more : (front : List Move) (step : Move) → length (front ++ step ∷ []) ≡ length front + 1
length_one_more [] step = refl
length_one_more (one ∷ front) step = let rest = length_one_more front step in omega (arith, rest)

within_then : (front : List Move) (step : Move) (known : Option ℕ) (is : Bool)
    → IfSome known (λ at. at < length front)
    → IfSome (with_place known (length front) is) (λ at. at < length (front ++ step ∷ []))
within_then front step (Some at) is within = let more = length_one_more front step in omega (arith, more, within)
within_then front step None true within = let more = length_one_more front step in omega (arith, more)
within_then front step None false within = tt

one_more : (front : List Move) (step : Move) (places after : BTreeMap ℕ ℕ) → ArePlacesOf front places
    → ((ticket : ℕ) → get nat_cmp after ticket
    ≡ with_place (get nat_cmp places ticket) (length front) (is_move_of ticket step))
    → ArePlacesOf (front ++ step ∷ []) after
one_more front step places after are updates = record {
  found = λ ticket. rw (updates ticket)
      (found_then front step ticket (get nat_cmp places ticket) (is_move_of ticket step) refl (are.found ticket)
      (are.within ticket));
  within = λ ticket. rw (updates ticket)
      (within_then front step (get nat_cmp places ticket) (is_move_of ticket step) (are.within ticket));
}

-- ---- in the loop

known_anyway : (known : Option ℕ) → known ≡ option_map_or Some known None
known_anyway None = refl
known_anyway (Some at) = refl

take_all : {X : Type 0} (xs : List X) (at : ℕ) → length xs ≤ at → take at xs ≡ xs
take_all [] zero past = refl
take_all [] (suc at) past = refl
take_all (x ∷ xs) zero past = absurd (omega (arith, past))
take_all (x ∷ xs) (suc at) past = ap (λ zs. x ∷ zs) (take_all xs at (omega (arith, past)))

all_before : {X : Type 0} (xs : List X) (at : ℕ) → slice_get xs at ≡ None → take (at + 1) xs ≡ take at xs
all_before xs at none =
    let past = past_length xs at none in
    take_all xs (at + 1) (omega (arith, past)) ∙ sym (take_all xs at past)

is_of_own : (step : Move) (ticket own : ℕ) → ticket_told step ≡ Some own
    → is_move_of ticket step ≡ (own == ticket)
is_of_own step ticket own e = rw e refl

is_of_none : (step : Move) (ticket : ℕ) → ticket_told step ≡ None → is_move_of ticket step ≡ false
is_of_none step ticket e = rw e refl

-- a move of a ticket is entered
placed_found : (moves : List Move) (at own : ℕ) (places after : BTreeMap ℕ ℕ) (found : Option Move)
    → slice_get moves at ≡ found → Some own ≡ option_and_then ticket_told found
    → ((ticket : ℕ) → get nat_cmp after ticket
    ≡ option_map_or Some (get nat_cmp places ticket) (if own == ticket then Some at else None))
    → ArePlacesOf (take at moves) places → ArePlacesOf (take (at + 1) moves) after
placed_found moves at own places after None here is updates are = absurd (cc)
placed_found moves at own places after (Some step) here is updates are =
    rw (up_to_place moves at step here)
    (one_more (take at moves) step places after are
    (λ ticket. updates ticket
    ∙ rw (is_of_own step ticket own (sym is), length_up_to moves at step here) refl))

pub placed : (moves : List Move) (at own : ℕ) (places after : BTreeMap ℕ ℕ)
    → Some own ≡ option_and_then ticket_told (slice_get moves at)
    → ((ticket : ℕ) → get nat_cmp after ticket
    ≡ option_map_or Some (get nat_cmp places ticket) (if own == ticket then Some at else None))
    → ArePlacesOf (take at moves) places → ArePlacesOf (take (at + 1) moves) after
placed moves at own places after is updates are =
    placed_found moves at own places after (slice_get moves at) refl is updates are

passed_found : (moves : List Move) (at : ℕ) (places : BTreeMap ℕ ℕ) (found : Option Move)
    → slice_get moves at ≡ found → None ≡ option_and_then ticket_told found
    → ArePlacesOf (take at moves) places → ArePlacesOf (take (at + 1) moves) places
passed_found moves at places None here none are = rw (all_before moves at here) are
passed_found moves at places (Some step) here none are =
    rw (up_to_place moves at step here)
    (one_more (take at moves) step places places are
    (λ ticket. known_anyway (get nat_cmp places ticket) ∙ rw (is_of_none step ticket (sym none)) refl))

-- a move of no ticket changes nothing
pub passed : (moves : List Move) (at : ℕ) (places : BTreeMap ℕ ℕ)
    → None ≡ option_and_then ticket_told (slice_get moves at)
    → ArePlacesOf (take at moves) places → ArePlacesOf (take (at + 1) moves) places
passed moves at places none are = passed_found moves at places (slice_get moves at) refl none are

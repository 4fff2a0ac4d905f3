-- What becomes of the rows that are due: of each list each row stands there and comes once, and no row that is due
-- is in none of them.
use Rattle.std.proofs.Common.{◌≡◌, ◌⊎◌, ◌∙◌, sym, ap, refl, ℕ, ◌<◌, List, [], ◌∷◌, ◌++◌, Bool, true, false, filter, inl, inr, arith}
use Rattle.std.specs.Prelude.{All, AllPairs, Option, None, Some, IfSome, IsTrue, option_map, nat_lt, slice_index_or}
use Rattle.std.proofs.lemmas.Bool.Decides.{nat_tests}
use Rattle.std.proofs.lemmas.Option.{same_Some}
use Rattle.std.proofs.lemmas.List.Elements.{All-nil, All-cons, All-append, All-weaker, All-filter, filter_passes}
use Rattle.std.proofs.lemmas.List.Kept.{AllPairs-filter}
use Rattle.fk_model.specs.declared.row.Row.{Row}
use Rattle.fk_model.specs.declared.place.Place.{Place}
use Rattle.fk_model.specs.declared.place.Place.TheVariants.{Queued, Scheduled, Retry, Dead, Working}
use Rattle.fk_model.specs.declared.mutation.Target.TheVariants as target
use Rattle.fk_model.specs.Rows.{ticket_of, row_of, IsByTicket, filed_at, row_at}
use Rattle.fk_model.specs.Orders.{is_queued, is_working, leased_until, moment_in}
use Rattle.fk_model.specs.Due.{leaves_at, has_come, waits_until}
use Rattle.fk_model.proofs.Standing.{each_found}
use Rattle.fk_model.proofs.Sorting.{joined}
use Rattle.fk_model.proofs.Settling.{IsLater}
use Rattle.fk_model.proofs.Chosen.{IsChosen, AreOfTwo, IsIn, IsTakenBy, chosen, each_chosen, chosen_once, each_taken, rows_apart, come_or_later}

-- ---- the three moments of a place

abbrev pub dead_moment : Row → Option ℕ
dead_moment row = moment_in target.Dead row.place

abbrev pub lease_moment : Row → Option ℕ
lease_moment row = leased_until row.place

abbrev pub wait_moment : Row → Option ℕ
wait_moment row = waits_until row.place

dead_alone : (place : Place) (at : ℕ) → moment_in target.Dead place ≡ Some at
    → (leased_until place ≡ None) × (waits_until place ≡ None) × ¬ IsTrue (is_queued place)
dead_alone (Queued rank) at e = absurd (cc)
dead_alone (Scheduled when) at e = absurd (cc)
dead_alone (Retry when) at e = absurd (cc)
dead_alone (Dead until) at e = (refl, refl, λ queued. absurd (cc))
dead_alone (Working wid since until) at e = absurd (cc)

lease_alone : (place : Place) (at : ℕ) → leased_until place ≡ Some at
    → (waits_until place ≡ None) × (is_working place ≡ true) × ¬ IsTrue (is_queued place)
lease_alone (Queued rank) at e = absurd (cc)
lease_alone (Scheduled when) at e = absurd (cc)
lease_alone (Retry when) at e = absurd (cc)
lease_alone (Dead until) at e = absurd (cc)
lease_alone (Working wid since until) at e = (refl, refl, λ queued. absurd (cc))

wait_idle : (place : Place) (at : ℕ) → waits_until place ≡ Some at → is_working place ≡ true → ⊥
wait_idle (Queued rank) at e works = absurd (cc)
wait_idle (Scheduled when) at e works = absurd (cc)
wait_idle (Retry when) at e works = absurd (cc)
wait_idle (Dead until) at e works = absurd (cc)
wait_idle (Working wid since until) at e works = absurd (cc)

wait_alone : (place : Place) (at : ℕ) → waits_until place ≡ Some at → ¬ IsTrue (is_queued place)
wait_alone (Queued rank) at e = absurd (cc)
wait_alone (Scheduled when) at e = λ queued. absurd (cc)
wait_alone (Retry when) at e = λ queued. absurd (cc)
wait_alone (Dead until) at e = absurd (cc)
wait_alone (Working wid since until) at e = absurd (cc)

-- ---- the rows whose reservation has ended

-- those among some rows
abbrev pub ended : ℕ → List (ℕ × Row) → List (ℕ × Row)
ended moment rows = filter (λ filed. has_come moment (leased_until (row_of filed).place)) rows

ended_of : (moment : ℕ) (rows : List (ℕ × Row)) (filed : ℕ × Row) (given : Option ℕ)
    → filed_at rows (ticket_of filed) ≡ Some filed → leased_until (row_of filed).place ≡ given
    → has_come moment given ≡ true → IsChosen lease_moment moment rows filed
ended_of moment rows filed None here e come = absurd (cc)
ended_of moment rows filed (Some at) here e come = record {
  stands = ap (option_map row_of) here;
  at = at;
  has = e;
  come = grind (arith, nat_tests, come);
}

pub each_ended : (moment : ℕ) (rows : List (ℕ × Row)) → IsByTicket rows
    → All (IsChosen lease_moment moment rows) (ended moment rows)
each_ended moment rows by_ticket =
    let test = λ (filed : ℕ × Row). has_come moment (leased_until (row_of filed).place) in
    λ k d within. ended_of moment rows (slice_index_or (ended moment rows) k d)
    (leased_until (row_of (slice_index_or (ended moment rows) k d)).place)
    (All-filter test (λ x. filed_at rows (ticket_of x) ≡ Some x) rows (each_found rows by_ticket) k d within)
    refl (filter_passes test rows k d within)

ended_once : (moment : ℕ) (rows : List (ℕ × Row)) → IsByTicket rows → AllPairs AreOfTwo (ended moment rows)
ended_once moment rows by_ticket =
    AllPairs-filter AreOfTwo (λ filed. has_come moment (leased_until (row_of filed).place)) rows
    (rows_apart rows by_ticket)

in_step : (test : ℕ × Row → Bool) (filed : ℕ × Row) (rows : List (ℕ × Row)) (passes : Bool)
    → test filed ≡ passes
    → All (λ x. test x ≡ true → IsIn (ticket_of x) (filter test rows)) rows
    → All (λ x. test x ≡ true → IsIn (ticket_of x) (filter test (filed ∷ rows))) (filed ∷ rows)
in_step test filed rows true e rest =
    rw e (All-cons (λ x. test x ≡ true → IsIn (ticket_of x) (filed ∷ filter test rows)) filed rows
    (λ come. inl refl) (λ k d within come. inr (rest k d within come)))
in_step test filed rows false e rest =
    rw e (All-cons (λ x. test x ≡ true → IsIn (ticket_of x) (filter test rows)) filed rows
    (λ come. absurd (cc)) rest)

all_in : (test : ℕ × Row → Bool) (rows : List (ℕ × Row))
    → All (λ x. test x ≡ true → IsIn (ticket_of x) (filter test rows)) rows
all_in test [] = All-nil (λ x. test x ≡ true → IsIn (ticket_of x) [])
all_in test (filed ∷ rows) = in_step test filed rows (test filed) refl (all_in test rows)

ended_if : (moment : ℕ) (P : Type 0) (given : Option ℕ) → (has_come moment given ≡ true → P)
    → IfSome given (λ at. moment < at ⊎ P)
ended_if moment P None taken = tt
ended_if moment P (Some at) taken = come_or_later moment at P (nat_lt moment at) refl taken

pub ended_taken : (moment : ℕ) (rows : List (ℕ × Row)) → All (IsTakenBy lease_moment moment (ended moment rows)) rows
ended_taken moment rows =
    let test = λ (filed : ℕ × Row). has_come moment (leased_until (row_of filed).place) in
    All-weaker (λ x. test x ≡ true → IsIn (ticket_of x) (ended moment rows))
    (IsTakenBy lease_moment moment (ended moment rows))
    (λ x. ended_if moment (IsIn (ticket_of x) (ended moment rows)) (leased_until (row_of x).place)) rows
    (all_in test rows)

-- ---- the three lists

-- rows of two lists are of different tickets
apart_by : (one other : Row → Option ℕ) (moment : ℕ) (rows : List (ℕ × Row)) (x y : ℕ × Row)
    → ((row : Row) (at : ℕ) → one row ≡ Some at → other row ≡ None)
    → IsChosen one moment rows x → IsChosen other moment rows y → AreOfTwo x y
apart_by one other moment rows x y alone first second same =
    let there : Some (row_of x) ≡ Some (row_of y) =
    sym first.stands ∙ ap (row_at rows) same ∙ second.stands in
    let row : row_of x ≡ row_of y = same_Some (row_of x) (row_of y) there in
    let none : other (row_of x) ≡ None = alone (row_of x) first.at first.has in
    let some : other (row_of x) ≡ Some second.at = ap other row ∙ second.has in
    absurd (cc)

lists_apart : (one other : Row → Option ℕ) (moment : ℕ) (rows xs ys : List (ℕ × Row))
    → ((row : Row) (at : ℕ) → one row ≡ Some at → other row ≡ None)
    → All (IsChosen one moment rows) xs → All (IsChosen other moment rows) ys
    → All (λ x. All (AreOfTwo x) ys) xs
lists_apart one other moment rows xs ys alone first second = λ k d within i e inside.
    apart_by one other moment rows (slice_index_or xs k d) (slice_index_or ys i e) alone (first k d within)
    (second i e inside)

-- the three lists, one behind the other
abbrev pub all_due : ℕ → List (ℕ × Row) → List (ℕ × Row)
all_due moment rows =
    chosen dead_moment moment rows ++ (ended moment rows ++ chosen wait_moment moment rows)

pub all_due_once : (moment : ℕ) (rows : List (ℕ × Row)) → IsByTicket rows → AllPairs AreOfTwo (all_due moment rows)
all_due_once moment rows by_ticket =
    let dead = each_chosen dead_moment moment rows by_ticket in
    let over = each_ended moment rows by_ticket in
    let wait = each_chosen wait_moment moment rows by_ticket in
    joined AreOfTwo (chosen dead_moment moment rows) (ended moment rows ++ chosen wait_moment moment rows)
    (chosen_once dead_moment moment rows by_ticket)
    (joined AreOfTwo (ended moment rows) (chosen wait_moment moment rows) (ended_once moment rows by_ticket)
    (chosen_once wait_moment moment rows by_ticket)
    (lists_apart lease_moment wait_moment moment rows (ended moment rows) (chosen wait_moment moment rows)
    (λ row at has. (lease_alone row.place at has).0) over wait))
    (λ k d within. All-append (AreOfTwo (slice_index_or (chosen dead_moment moment rows) k d))
    (ended moment rows) (chosen wait_moment moment rows)
    (lists_apart dead_moment lease_moment moment rows (chosen dead_moment moment rows) (ended moment rows)
    (λ row at has. (dead_alone row.place at has).0) dead over k d within)
    (lists_apart dead_moment wait_moment moment rows (chosen dead_moment moment rows)
    (chosen wait_moment moment rows) (λ row at has. (dead_alone row.place at has).1) dead wait k d within))

pub all_due_stand : (moment : ℕ) (rows : List (ℕ × Row)) → IsByTicket rows
    → All (λ filed. row_at rows (ticket_of filed) ≡ Some (row_of filed)) (all_due moment rows)
all_due_stand moment rows by_ticket =
    let Stands = λ (filed : ℕ × Row). row_at rows (ticket_of filed) ≡ Some (row_of filed) in
    All-append Stands (chosen dead_moment moment rows) (ended moment rows ++ chosen wait_moment moment rows)
    (All-weaker (IsChosen dead_moment moment rows) Stands (λ filed is. is.stands)
    (chosen dead_moment moment rows) (each_chosen dead_moment moment rows by_ticket))
    (All-append Stands (ended moment rows) (chosen wait_moment moment rows)
    (All-weaker (IsChosen lease_moment moment rows) Stands (λ filed is. is.stands) (ended moment rows)
    (each_ended moment rows by_ticket))
    (All-weaker (IsChosen wait_moment moment rows) Stands (λ filed is. is.stands)
    (chosen wait_moment moment rows) (each_chosen wait_moment moment rows by_ticket)))

-- ---- what each list is known to have

pub dead_not_queued : (moment : ℕ) (rows : List (ℕ × Row)) (filed : ℕ × Row)
    → IsChosen dead_moment moment rows filed → ¬ IsTrue (is_queued (row_of filed).place)
dead_not_queued moment rows filed is = (dead_alone (row_of filed).place is.at is.has).2

pub ended_not_queued : (moment : ℕ) (rows : List (ℕ × Row)) (filed : ℕ × Row)
    → IsChosen lease_moment moment rows filed → ¬ IsTrue (is_queued (row_of filed).place)
ended_not_queued moment rows filed is = (lease_alone (row_of filed).place is.at is.has).2

pub ended_works : (moment : ℕ) (rows : List (ℕ × Row)) (filed : ℕ × Row)
    → IsChosen lease_moment moment rows filed → is_working (row_of filed).place ≡ true
ended_works moment rows filed is = (lease_alone (row_of filed).place is.at is.has).1

pub waiting_not_queued : (moment : ℕ) (rows : List (ℕ × Row)) (filed : ℕ × Row)
    → IsChosen wait_moment moment rows filed → ¬ IsTrue (is_queued (row_of filed).place)
waiting_not_queued moment rows filed is = wait_alone (row_of filed).place is.at is.has

pub waiting_idle : (moment : ℕ) (rows : List (ℕ × Row)) (filed : ℕ × Row)
    → IsChosen wait_moment moment rows filed → is_working (row_of filed).place ≡ true → ⊥
waiting_idle moment rows filed is works = wait_idle (row_of filed).place is.at is.has works

-- ---- no row that is due is left out

in_front : (ticket : ℕ) (front back : List (ℕ × Row)) → IsIn ticket front → IsIn ticket (front ++ back)
in_front ticket [] back is = absurd is
in_front ticket (filed ∷ front) back (inl same) = inl same
in_front ticket (filed ∷ front) back (inr rest) = inr (in_front ticket front back rest)

in_back : (ticket : ℕ) (front back : List (ℕ × Row)) → IsIn ticket back → IsIn ticket (front ++ back)
in_back ticket [] back is = is
in_back ticket (filed ∷ front) back is = inr (in_back ticket front back is)

by_place : (moment : ℕ) (place : Place) (one two three all : Type 0) → (one → all) → (two → all) → (three → all)
    → IfSome (moment_in target.Dead place) (λ at. moment < at ⊎ one)
    → IfSome (leased_until place) (λ at. moment < at ⊎ two)
    → IfSome (waits_until place) (λ at. moment < at ⊎ three)
    → IfSome (leaves_at place) (λ at. moment < at) ⊎ all
by_place moment (Queued rank) one two three all f g h first second third = inl tt
by_place moment (Scheduled at) one two three all f g h first second (inl later) = inl later
by_place moment (Scheduled at) one two three all f g h first second (inr is) = inr (h is)
by_place moment (Retry at) one two three all f g h first second (inl later) = inl later
by_place moment (Retry at) one two three all f g h first second (inr is) = inr (h is)
by_place moment (Dead until) one two three all f g h (inl later) second third = inl later
by_place moment (Dead until) one two three all f g h (inr is) second third = inr (f is)
by_place moment (Working wid since until) one two three all f g h first (inl later) third = inl later
by_place moment (Working wid since until) one two three all f g h first (inr is) third = inr (g is)

-- each row stays where it is until later, or is among them
pub all_due_taken : (moment : ℕ) (rows : List (ℕ × Row)) → IsByTicket rows
    → All (λ filed. IsLater moment (row_of filed) ⊎ IsIn (ticket_of filed) (all_due moment rows)) rows
all_due_taken moment rows by_ticket =
    let dead = chosen dead_moment moment rows in
    let over = ended moment rows in
    let wait = chosen wait_moment moment rows in
    λ k d within. let filed = slice_index_or rows k d in
    by_place moment (row_of filed).place (IsIn (ticket_of filed) dead) (IsIn (ticket_of filed) over)
    (IsIn (ticket_of filed) wait) (IsIn (ticket_of filed) (all_due moment rows))
    (in_front (ticket_of filed) dead (over ++ wait))
    (λ is. in_back (ticket_of filed) dead (over ++ wait) (in_front (ticket_of filed) over wait is))
    (λ is. in_back (ticket_of filed) dead (over ++ wait) (in_back (ticket_of filed) over wait is))
    (each_taken dead_moment moment rows by_ticket k d within) (ended_taken moment rows k d within)
    (each_taken wait_moment moment rows by_ticket k d within)

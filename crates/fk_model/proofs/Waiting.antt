-- What a look-up finds: the first row that waits is the first of its own queue, and a leased row is
-- with a worker.
use Rattle.std.proofs.Common.{◌≡◌, ◌∙◌, sym, ap, refl, ℕ, List, [], ◌∷◌, ◌++◌, Bool, true, false, arith}
use Rattle.std.specs.Prelude.{All, if◌then◌else◌, Option, None, Some, IsTrue, option_map, option_and_then, slice_get, flat_map, bytes_eq, ◌==◌}
use Rattle.std.proofs.lemmas.Bool.Decides.{nat_tests}
use Rattle.std.proofs.lemmas.Option.{same_Some}
use Rattle.std.proofs.lemmas.Slice.Eq.{bytes_eq-Decides}
use Rattle.std.proofs.lemmas.List.Elements.{All-head, All-filter, filter_passes}
use Rattle.fk_model.specs.declared.row.Row.{Row}
use Rattle.fk_model.specs.declared.place.Place.{Place}
use Rattle.fk_model.specs.declared.place.Place.TheVariants.{Queued, Scheduled, Retry, Dead, Working}
use Rattle.fk_model.specs.Rows.{ticket_of, row_of, IsByTicket, filed_at, row_at}
use Rattle.fk_model.specs.State.{KeptState}
use Rattle.fk_model.specs.Orders.{number_in, ticket_in, rank_of, rank_in, is_queued, is_working, queue, working, first_waiting, leased}
use Rattle.fk_model.specs.Changes.{IsFirstOf}
use Rattle.fk_model.proofs.Finding.{find_passes, find_holds}
use Rattle.fk_model.proofs.Standing.{each_found, IsNumberOf, each_number}

-- ---- the first of several lists

first_in : {X Y : Type 0} (f : X → List Y) (x : X) (xs : List X) (ys : List Y) (first : Y)
    → f x ≡ ys → slice_get (ys ++ flat_map f xs) 0 ≡ Some first
    → (slice_get (flat_map f xs) 0 ≡ Some first → (z : X) × (slice_get (f z) 0 ≡ Some first))
    → (z : X) × (slice_get (f z) 0 ≡ Some first)
first_in f x xs [] first e at rest = rest at
first_in f x xs (y ∷ ys) first e at rest = (x, rw e at)

-- the first of all is the first of one of them
pub first_of_some : {X Y : Type 0} (f : X → List Y) (xs : List X) (first : Y)
    → slice_get (flat_map f xs) 0 ≡ Some first → (z : X) × (slice_get (f z) 0 ≡ Some first)
first_of_some f [] first at = absurd (cc)
first_of_some f (x ∷ xs) first at =
    first_in f x xs (f x) first refl at (first_of_some f xs first)

-- ---- the first row that waits

-- a row that may be fetched: it stands under its ticket, waits, and is the first of its queue
pub record IsFirstRow (kept : KeptState) (filed : ℕ × Row) : Type 0 where
  pub stands : row_at kept.rows (ticket_of filed) ≡ Some (row_of filed)
  pub rank : ℕ
  pub waits : rank_of (row_of filed).place ≡ Some rank
  pub first : IsFirstOf kept (row_of filed).job.queue (ticket_of filed)

rank_there : (own name : List ℕ) (given : Option ℕ) (rank : ℕ) (test : Bool)
    → bytes_eq own name ≡ test → (if test then given else None) ≡ Some rank
    → (own ≡ name) × (given ≡ Some rank)
rank_there own name given rank true same at = ((bytes_eq-Decides own name).0 same, at)
rank_there own name given rank false same at = absurd (cc)

first_row : (kept : KeptState) (name : List ℕ) (pair : ℕ × ℕ) (filed : ℕ × Row)
    → slice_get (queue kept.rows name) 0 ≡ Some pair
    → filed_at kept.rows (ticket_in pair) ≡ Some filed
    → IsNumberOf (rank_in name) kept.rows pair → IsFirstRow kept filed
first_row kept name pair filed ahead at number =
    let passes : (ticket_of filed == ticket_in pair) ≡ true =
    find_passes (λ x. ticket_of x == ticket_in pair) kept.rows filed at in
    let same : ticket_of filed ≡ ticket_in pair = grind (arith, nat_tests, passes) in
    let here : row_at kept.rows (ticket_in pair) ≡ Some (row_of filed) = ap (option_map row_of) at in
    let ranked : rank_in name (row_of filed) ≡ Some (number_in pair) =
    ap (option_and_then (rank_in name)) (sym here) ∙ number in
    let parts = rank_there (row_of filed).job.queue name (rank_of (row_of filed).place) (number_in pair)
    (bytes_eq (row_of filed).job.queue name) refl ranked in
    record {
      stands = rw same here;
      rank = number_in pair;
      waits = parts.1;
      first = rw (parts.0, same) (ap (option_map ticket_in) ahead);
    }

of_first : {X : Type 0} (P : X → Type 0) (xs : List X) (first : X) → All P xs
    → slice_get xs 0 ≡ Some first → P first
of_first P [] first each at = absurd (cc)
of_first P (x ∷ xs) first each at =
    let same : x ≡ first = same_Some x first at in rw (← same) (All-head P x xs each)

found_there : (kept : KeptState) (names : List (List ℕ)) (filed : ℕ × Row) (ahead : Option (ℕ × ℕ))
    → IsByTicket kept.rows → slice_get (flat_map (queue kept.rows) names) 0 ≡ ahead
    → option_and_then (λ (pair : ℕ × ℕ). filed_at kept.rows (ticket_in pair)) ahead ≡ Some filed
    → IsFirstRow kept filed
found_there kept names filed None by_ticket e at = absurd (cc)
found_there kept names filed (Some pair) by_ticket e at =
    let there = first_of_some (queue kept.rows) names pair e in
    first_row kept there.0 pair filed there.1 at
    (of_first (IsNumberOf (rank_in there.0) kept.rows) (queue kept.rows there.0) pair
    (each_number (rank_in there.0) kept.rows by_ticket) there.1)

-- the first row that waits in some queues may be fetched
pub first_waiting_is : (kept : KeptState) (names : List (List ℕ)) (filed : ℕ × Row) → IsByTicket kept.rows
    → first_waiting kept names ≡ Some filed → IsFirstRow kept filed
first_waiting_is kept names filed by_ticket at =
    found_there kept names filed (slice_get (flat_map (queue kept.rows) names) 0) by_ticket refl at

-- ---- a row that a worker has

pub record IsLeased (kept : KeptState) (filed : ℕ × Row) : Type 0 where
  pub stands : row_at kept.rows (ticket_of filed) ≡ Some (row_of filed)
  pub with_worker : is_working (row_of filed).place ≡ true

pub leased_is : (kept : KeptState) (jid : List ℕ) (filed : ℕ × Row) → IsByTicket kept.rows
    → leased kept jid ≡ Some filed → IsLeased kept filed
leased_is kept jid filed by_ticket at = record {
  stands = ap (option_map row_of)
      (find_holds (λ x. filed_at kept.rows (ticket_of x) ≡ Some x)
      (λ x. bytes_eq (row_of x).job.jid jid) (working kept.rows) filed
      (All-filter (λ x. is_working (row_of x).place) (λ x. filed_at kept.rows (ticket_of x) ≡ Some x)
      kept.rows (each_found kept.rows by_ticket)) at);
  with_worker = find_holds (λ x. is_working (row_of x).place ≡ true)
      (λ x. bytes_eq (row_of x).job.jid jid) (working kept.rows) filed
      (filter_passes (λ x. is_working (row_of x).place) kept.rows) at;
}

-- a row that a worker has is not queued
pub not_queued : (place : Place) → is_working place ≡ true → ¬ IsTrue (is_queued place)
not_queued (Queued rank) works = absurd (cc)
not_queued (Scheduled at) works = λ queued. absurd (cc)
not_queued (Retry at) works = λ queued. absurd (cc)
not_queued (Dead until) works = λ queued. absurd (cc)
not_queued (Working wid since until) works = λ queued. absurd (cc)

-- The rows that a MUTATE takes: each stands under its ticket and is with no worker and in no queue, and each comes
-- once.
use Rattle.std.proofs.Common.{◌≡◌, ap, refl, ℕ, List, false, arith}
use Rattle.std.specs.Prelude.{All, AllPairs, Option, None, Some, IfSome, IsTrue, option_map, option_and_then, slice_index_or}
use Rattle.std.proofs.lemmas.List.Elements.{All-nil, All-weaker, All-filter}
use Rattle.std.proofs.lemmas.List.Kept.{AllPairs-filter}
use Rattle.fk_model.specs.declared.row.Row.{Row}
use Rattle.fk_model.specs.declared.place.Place.{Place}
use Rattle.fk_model.specs.declared.place.Place.TheVariants.{Scheduled, Retry, Dead}
use Rattle.fk_model.specs.declared.mutation.Cmd.{Cmd}
use Rattle.fk_model.specs.declared.mutation.Cmd.TheVariants.{Kill, Discard, Requeue, Clear}
use Rattle.fk_model.specs.declared.mutation.Filter.{Filter}
use Rattle.fk_model.specs.declared.mutation.Target.{Target}
use Rattle.fk_model.specs.declared.mutation.Target.TheVariants as target
use Rattle.fk_model.specs.Rows.{ticket_of, row_of, IsByTicket, filed_at, row_at}
use Rattle.fk_model.specs.State.{KeptState}
use Rattle.fk_model.specs.Orders.{number_in, ticket_in, is_queued, is_working, moment_in, timed}
use Rattle.fk_model.specs.Filters.{row_matches}
use Rattle.fk_model.specs.Mutated.{rows_in, matching, taken}
use Rattle.fk_model.proofs.Sieves.{all_mapped}
use Rattle.fk_model.proofs.Standing.{each_number}
use Rattle.fk_model.proofs.Chosen.{AreOfTwo, found_ticket, named_once, numbered_apart}

-- ---- the rows of a set

-- the moment of a row in a set
abbrev pub set_moment : Target → Row → Option ℕ
set_moment target row = moment_in target row.place

-- a row stands under its ticket, in a set
pub record IsOfSet (target : Target) (rows : List (ℕ × Row)) (filed : ℕ × Row) : Type 0 where
  pub stands : row_at rows (ticket_of filed) ≡ Some (row_of filed)
  pub at : ℕ
  pub has : moment_in target (row_of filed).place ≡ Some at

of_set : (target : Target) (rows : List (ℕ × Row)) (pair : ℕ × ℕ) (found : Option (ℕ × Row))
    → filed_at rows (ticket_in pair) ≡ found
    → option_and_then (set_moment target) (option_map row_of found) ≡ Some (number_in pair)
    → IfSome found (IsOfSet target rows)
of_set target rows pair None e has = tt
of_set target rows pair (Some filed) e has =
    let here = found_ticket rows (ticket_in pair) filed e in
    record { stands = rw here (ap (option_map row_of) e); at = number_in pair; has = has }

pub each_of_set : (target : Target) (kept : KeptState) → IsByTicket kept.rows
    → All (IsOfSet target kept.rows) (rows_in target kept)
each_of_set target kept by_ticket =
    let pairs = timed target kept.rows in
    all_mapped (IsOfSet target kept.rows) (λ pair. filed_at kept.rows (ticket_in pair)) pairs
    (λ k d within. of_set target kept.rows (slice_index_or pairs k d)
    (filed_at kept.rows (ticket_in (slice_index_or pairs k d))) refl
    (each_number (set_moment target) kept.rows by_ticket k d within))

set_once : (target : Target) (kept : KeptState) → IsByTicket kept.rows → AllPairs AreOfTwo (rows_in target kept)
set_once target kept by_ticket =
    named_once kept.rows (timed target kept.rows) (numbered_apart (set_moment target) kept.rows by_ticket)

each_matching : (target : Target) (filter : Filter) (kept : KeptState) → IsByTicket kept.rows
    → All (IsOfSet target kept.rows) (matching target filter kept)
each_matching target filter kept by_ticket =
    All-filter (λ filed. row_matches filter (row_of filed)) (IsOfSet target kept.rows) (rows_in target kept)
    (each_of_set target kept by_ticket)

matching_once : (target : Target) (filter : Filter) (kept : KeptState) → IsByTicket kept.rows
    → AllPairs AreOfTwo (matching target filter kept)
matching_once target filter kept by_ticket =
    AllPairs-filter AreOfTwo (λ filed. row_matches filter (row_of filed)) (rows_in target kept)
    (set_once target kept by_ticket)

-- ---- where they are not

set_apart : (target : Target) (place : Place) (at : ℕ) → moment_in target place ≡ Some at
    → (is_working place ≡ false) × ¬ IsTrue (is_queued place)
set_apart target.Scheduled (Scheduled when) at e = (refl, λ queued. absurd (cc))
set_apart target.Retries (Retry when) at e = (refl, λ queued. absurd (cc))
set_apart target.Dead (Dead until) at e = (refl, λ queued. absurd (cc))
set_apart target elsewhere at e = absurd (cc)

scheduled_alive : (place : Place) (at : ℕ) → moment_in target.Scheduled place ≡ Some at
    → moment_in target.Dead place ≡ None
scheduled_alive (Scheduled when) at e = refl
scheduled_alive elsewhere at e = absurd (cc)

retries_alive : (place : Place) (at : ℕ) → moment_in target.Retries place ≡ Some at
    → moment_in target.Dead place ≡ None
retries_alive (Retry when) at e = refl
retries_alive elsewhere at e = absurd (cc)

-- ---- the rows that are taken

-- a row that is to be killed isn't dead
abbrev pub IsAlive : Cmd → Place → Type 0
IsAlive Kill place = moment_in target.Dead place ≡ None
IsAlive Discard place = Unit {0}
IsAlive Requeue place = Unit {0}
IsAlive Clear place = Unit {0}

-- what is known of one of them
pub record IsTaken (cmd : Cmd) (rows : List (ℕ × Row)) (filed : ℕ × Row) : Type 0 where
  pub stands : row_at rows (ticket_of filed) ≡ Some (row_of filed)
  pub idle : is_working (row_of filed).place ≡ false
  pub apart : ¬ IsTrue (is_queued (row_of filed).place)
  pub alive : IsAlive cmd (row_of filed).place

-- and of them all
pub record AreTaken (cmd : Cmd) (rows all : List (ℕ × Row)) : Type 0 where
  pub each : All (IsTaken cmd rows) all
  pub once : AllPairs AreOfTwo all

is_taken : (cmd : Cmd) (target : Target) (rows : List (ℕ × Row)) (filed : ℕ × Row) → IsOfSet target rows filed
    → IsAlive cmd (row_of filed).place → IsTaken cmd rows filed
is_taken cmd target rows filed is alive =
    let apart = set_apart target (row_of filed).place is.at is.has in
    record { stands = is.stands; idle = apart.0; apart = apart.1; alive = alive }

-- rows of a set that are all to be taken
of_one_set : (cmd : Cmd) (target : Target) (rows all : List (ℕ × Row))
    → ((place : Place) (at : ℕ) → moment_in target place ≡ Some at → IsAlive cmd place)
    → All (IsOfSet target rows) all → AllPairs AreOfTwo all → AreTaken cmd rows all
of_one_set cmd target rows all alive each once = record {
  each = All-weaker (IsOfSet target rows) (IsTaken cmd rows)
      (λ filed is. is_taken cmd target rows filed is (alive (row_of filed).place is.at is.has)) all each;
  once = once;
}

pub taken_are : (cmd : Cmd) (target : Target) (filter : Filter) (kept : KeptState) → IsByTicket kept.rows
    → AreTaken cmd kept.rows (taken cmd target filter kept)
taken_are Kill target.Scheduled filter kept by_ticket =
    of_one_set Kill target.Scheduled kept.rows (matching target.Scheduled filter kept) scheduled_alive
    (each_matching target.Scheduled filter kept by_ticket) (matching_once target.Scheduled filter kept by_ticket)
taken_are Kill target.Retries filter kept by_ticket =
    of_one_set Kill target.Retries kept.rows (matching target.Retries filter kept) retries_alive
    (each_matching target.Retries filter kept by_ticket) (matching_once target.Retries filter kept by_ticket)
taken_are Kill target.Dead filter kept by_ticket =
    record { each = All-nil (IsTaken Kill kept.rows); once = λ i j d ahead within. absurd (omega (arith, within)) }
taken_are Discard target filter kept by_ticket =
    of_one_set Discard target kept.rows (matching target filter kept) (λ place at has. tt)
    (each_matching target filter kept by_ticket) (matching_once target filter kept by_ticket)
taken_are Requeue target filter kept by_ticket =
    of_one_set Requeue target kept.rows (matching target filter kept) (λ place at has. tt)
    (each_matching target filter kept by_ticket) (matching_once target filter kept by_ticket)
taken_are Clear target filter kept by_ticket =
    of_one_set Clear target kept.rows (rows_in target kept) (λ place at has. tt)
    (each_of_set target kept by_ticket) (set_once target kept by_ticket)

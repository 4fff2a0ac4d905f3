-- A row and where it stands: what it is in a queue, among leases and in a set by moment, and how many places it takes.
use Rattle.std.proofs.Common.{◌≡◌, ◌∙◌, ap, refl, ℕ, ◌<◌, ◌≤◌, List, Bool, true, false, arith}
use Rattle.std.specs.Prelude.{if◌then◌else◌, ◌&&◌, Option, None, Some, IfSome, option_map, is_some, bytes_eq}
use Rattle.std.specs.Option.{option_map_or}
use Rattle.fk_model.specs.declared.row.Row.{Row}
use Rattle.fk_model.specs.declared.mutation.Target.{Target}
use Rattle.fk_model.specs.declared.place.Place.{Place}
use Rattle.fk_model.specs.declared.place.Place.TheVariants.{Queued, Scheduled, Retry, Dead, Working}
use Rattle.fk_json.specs.PairOrder.{with_pair}
use Rattle.fk_model.specs.Orders.{rank_of, rank_in, is_working, leased_until, moment_in}
use Rattle.fk_model.proofs.Counted.{one_if}
use Rattle.fk_model.proofs.Ticketed.{joined_by}
use Rattle.fk_model.proofs.Numbered.{gained}
use Rattle.fk_core.specs.Reserved.{waits_in, is_leased_under, stands_in}
use Rattle.fk_core.specs.Sets.{timed_pair}
use Rattle.fk_core.specs.Index.{waiting_pair, lease_pair, count_of}

-- ---- how many places a row takes

count_if : (pair : ℕ → ℕ × ℕ) (given : Option ℕ) (test : Bool)
    → count_of (option_map pair (if test then given else None)) ≡ one_if (is_some given && test)
count_if pair None true = refl
count_if pair None false = refl
count_if pair (Some n) true = refl
count_if pair (Some n) false = refl

-- in a queue
pub count_waiting : (name : List ℕ) (ticket : ℕ) (row : Row)
    → count_of (waiting_pair name ticket row) ≡ one_if (waits_in name (row.job, row.place))
count_waiting name ticket row =
    count_if (λ rank. (rank, ticket)) (rank_of row.place) (bytes_eq row.job.queue name)

leased_works : (place : Place) → is_some (leased_until place) ≡ is_working place
leased_works (Queued rank) = refl
leased_works (Scheduled at) = refl
leased_works (Retry at) = refl
leased_works (Dead until) = refl
leased_works (Working wid since until) = refl

-- and among the leases of a jid
pub count_leased : (jid : List ℕ) (ticket : ℕ) (row : Row)
    → count_of (lease_pair jid ticket row) ≡ one_if (is_leased_under jid (row.job, row.place))
count_leased jid ticket row =
    count_if (λ until. (ticket, until)) (leased_until row.place) (bytes_eq row.job.jid jid)
    ∙ ap (λ works. one_if (works && bytes_eq row.job.jid jid)) (leased_works row.place)

count_given : (pair : ℕ → ℕ × ℕ) (given : Option ℕ)
    → count_of (option_map pair given) ≡ one_if (is_some given)
count_given pair None = refl
count_given pair (Some n) = refl

-- and in a set by moment
pub count_timed : (target : Target) (ticket : ℕ) (row : Row)
    → count_of (timed_pair target ticket row.place) ≡ one_if (stands_in target (row.job, row.place))
count_timed target ticket row = count_given (λ moment. (moment, ticket)) (moment_in target row.place)

-- where it takes one, and there are as many, there is one
pub some_room : (given : Option (ℕ × ℕ)) (spare : ℕ) → count_of given ≤ spare
    → IfSome given (λ pair. 0 < spare)
some_room None spare enough = tt
some_room (Some pair) spare enough = omega arith

-- ---- whether a row waits in a queue

waits_if : (given : Option ℕ) (test : Bool)
    → (is_some given && test) ≡ is_some (if test then given else None)
waits_if None true = refl
waits_if None false = refl
waits_if (Some n) true = refl
waits_if (Some n) false = refl

-- a row waits where it has a rank
pub waits_ranked : (name : List ℕ) (row : Row)
    → waits_in name (row.job, row.place) ≡ is_some (rank_in name row)
waits_ranked name row = waits_if (rank_of row.place) (bytes_eq row.job.queue name)

-- ---- what a list of leases gains, and what a set does

pub joined_pair : (ticket : ℕ) (given : Option ℕ) (pairs : List (ℕ × ℕ))
    → option_map_or (λ pair. with_pair pair pairs) (option_map (λ until. (ticket, until)) given) pairs
    ≡ joined_by ticket given pairs
joined_pair ticket None pairs = refl
joined_pair ticket (Some until) pairs = refl

pub gained_pair : (ticket : ℕ) (given : Option ℕ) (pairs : List (ℕ × ℕ))
    → option_map_or (λ pair. with_pair pair pairs) (option_map (λ moment. (moment, ticket)) given) pairs
    ≡ gained given ticket pairs
gained_pair ticket None pairs = refl
gained_pair ticket (Some moment) pairs = refl

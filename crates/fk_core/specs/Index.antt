-- By what rows are found: the queues, the leases, the sets by moment, how many rows workers have, and a number that no
-- ticket and no rank is above.
use Rattle.std.specs.Prelude.{ℕ, ◌≡◌, ◌<◌, ◌+◌, ◌-◌, ◌++◌, max, if◌then◌else◌, List, [], ◌∷◌, Option, Some, option_map, option_to_list, drop, length, slice_get, unwrap_or, All, IfSome}
use Rattle.std.specs.Option.{option_map_or}
use Rattle.fk_model.specs.declared.row.Row.{Row}
use Rattle.fk_model.specs.declared.mutation.Target.{Target}
use Rattle.fk_json.specs.PairOrder.{with_pair}
use Rattle.fk_model.specs.Orders.{number_in, rank_of, rank_in, ticket_in, is_working, lease_under}
use Rattle.fk_lists.specs.Room.{Room, list_at, spare_at}
use Rattle.fk_leases.specs.Leases.{without_lease, IsUnleased}
use Rattle.fk_tree.specs.Order.{without_pair}
use Rattle.fk_timed.specs.Timed.{IsAbsent}
use Rattle.fk_core.specs.Reserved.{waits_in}
use Rattle.fk_core.specs.Sets.{Sets, count_in, pairs_in, timed_pair}

pub record Index : Type 0 where
  pub queues : Room
  pub leases : Room
  pub sets : Sets
  pub working : ℕ
  pub greatest : ℕ

-- what a row is in the queue of a name: nothing, or its rank and ticket
abbrev pub waiting_pair : List ℕ → ℕ → Row → Option (ℕ × ℕ)
waiting_pair name ticket row = option_map (λ rank. (rank, ticket)) (rank_in name row)

-- what a row is among the leases of a jid: nothing, or its ticket and the end of its lease
abbrev pub lease_pair : List ℕ → ℕ → Row → Option (ℕ × ℕ)
lease_pair jid ticket row = option_map (λ until. (ticket, until)) (lease_under jid row)

-- what there is to be put, as a number
abbrev pub count_of : Option (ℕ × ℕ) → ℕ
count_of pair = length (option_to_list pair)

-- a row may enter: there is room, its rank is above those of its queue, and no lease and no pair of a set is
-- of its ticket
pub record MayEnter (index : Index) (ticket : ℕ) (row : Row) : Type 0 where
  pub queue_room : (name : List ℕ) →
      IfSome (waiting_pair name ticket row) (λ pair. 0 < spare_at index.queues.spares name)
  pub last : (name : List ℕ) → IfSome (waiting_pair name ticket row)
      (λ pair. All (λ other. number_in other < number_in pair) (list_at index.queues.items name))
  pub lease_room : (jid : List ℕ) →
      IfSome (lease_pair jid ticket row) (λ pair. 0 < spare_at index.leases.spares jid)
  pub absent : IsUnleased ticket index.leases.items
  pub set_room : (target : Target) →
      IfSome (timed_pair target ticket row.place) (λ pair. 0 < count_in target index.sets.spares)
  pub unset : (target : Target) → IsAbsent ticket (pairs_in target index.sets.items)

-- a row has entered: its queue, the leases of its jid or its set have it, and nothing else changed
pub record Entered (ticket : ℕ) (row : Row) (before after : Index) : Type 0 where
  pub queues : (name : List ℕ) → list_at after.queues.items name
      ≡ option_map_or (λ pair. list_at before.queues.items name ++ pair ∷ [])
      (waiting_pair name ticket row) (list_at before.queues.items name)
  pub leases : (jid : List ℕ) → list_at after.leases.items jid
      ≡ option_map_or (λ pair. with_pair pair (list_at before.leases.items jid))
      (lease_pair jid ticket row) (list_at before.leases.items jid)
  pub queue_room : (name : List ℕ) → spare_at after.queues.spares name
      + count_of (waiting_pair name ticket row) ≡ spare_at before.queues.spares name
  pub lease_room : (jid : List ℕ) → spare_at after.leases.spares jid
      + count_of (lease_pair jid ticket row) ≡ spare_at before.leases.spares jid
  pub sets : (target : Target) → pairs_in target after.sets.items
      ≡ option_map_or (λ pair. with_pair pair (pairs_in target before.sets.items))
      (timed_pair target ticket row.place) (pairs_in target before.sets.items)
  pub set_room : (target : Target) → count_in target after.sets.spares
      + count_of (timed_pair target ticket row.place) ≡ count_in target before.sets.spares
  pub working : after.working ≡ (if is_working row.place then 1 else 0) + before.working
  pub greatest : after.greatest
      ≡ max (max before.greatest ticket) (unwrap_or (rank_of row.place) 0)

-- a row may leave: where it waits, it is the first of its queue
abbrev pub MayLeave : Index → ℕ → Row → Type 0
MayLeave index ticket row = (name : List ℕ) → IfSome (waiting_pair name ticket row)
    (λ pair. option_map ticket_in (slice_get (list_at index.queues.items name) 0) ≡ Some ticket)

-- a row has left: its queue is without its first, or the leases of its jid or its set are without it
pub record HasLeft (ticket : ℕ) (row : Row) (before after : Index) : Type 0 where
  pub queues : (name : List ℕ) → list_at after.queues.items name
      ≡ (if waits_in name (row.job, row.place) then drop 1 (list_at before.queues.items name)
      else list_at before.queues.items name)
  pub leases : (jid : List ℕ) → list_at after.leases.items jid
      ≡ option_map_or (λ pair. without_lease pair.0 pair.1 (list_at before.leases.items jid))
      (lease_pair jid ticket row) (list_at before.leases.items jid)
  pub queue_room : (name : List ℕ) →
      spare_at after.queues.spares name ≡ spare_at before.queues.spares name
  pub lease_room : (jid : List ℕ) →
      spare_at after.leases.spares jid ≡ spare_at before.leases.spares jid
  pub sets : (target : Target) → pairs_in target after.sets.items
      ≡ option_map_or (λ pair. without_pair pair (pairs_in target before.sets.items))
      (timed_pair target ticket row.place) (pairs_in target before.sets.items)
  pub set_room : (target : Target) →
      count_in target after.sets.spares ≡ count_in target before.sets.spares
  pub working : (if is_working row.place then 1 else 0) + after.working ≡ before.working
  pub greatest : after.greatest ≡ before.greatest

-- the number of the last of some pairs
abbrev pub last_number : List (ℕ × ℕ) → Option ℕ
last_number pairs = option_map number_in (slice_get pairs (length pairs - 1))

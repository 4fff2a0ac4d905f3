-- Marks for all rows that moves put somewhere.
use Rattle.std.specs.Prelude.{ℕ, ◌≡◌, ◌<◌, ◌≤◌, ◌+◌, false, if◌then◌else◌, List, Option, IfSome}
use Rattle.std.specs.Option.{option_map_or}
use Rattle.fk_job.specs.declared.job.Job.{Job}
use Rattle.fk_model.specs.declared.row.Row.{Row}
use Rattle.fk_model.specs.declared.place.Place.{Place}
use Rattle.fk_model.specs.declared.move_.Move.{Move}
use Rattle.fk_model.specs.declared.mutation.Target.{Target}
use Rattle.fk_lists.specs.Room.{mark_at, spare_at}
use Rattle.fk_core.specs.Sets.{count_in}
use Rattle.fk_core.specs.Reserved.{count_put, waits_in, is_leased_under, stands_in}
use Rattle.fk_core.specs.Entrances.{count_one}
use Rattle.fk_core.specs.Index.{Index}
use Rattle.fk_core.specs.Marks.{MarkedRoom, by_name, by_set, HasMore}

-- so many more are marked of each part, all that is marked of it within the room
pub record HaveMore (K : Type 0) (count : K → ℕ) (before after : MarkedRoom K) : Type 0 where
  pub marks : (key : K) → after.marks key ≡ count key + before.marks key
  pub within : (key : K) → 0 < count key → after.marks key ≤ after.spares key

-- no room is less
pub record KeepsRoom (before after : Index) : Type 0 where
  pub queues : (name : List ℕ) →
      spare_at before.queues.spares name ≤ spare_at after.queues.spares name
  pub leases : (jid : List ℕ) →
      spare_at before.leases.spares jid ≤ spare_at after.leases.spares jid
  pub sets : (target : Target) →
      count_in target before.sets.spares ≤ count_in target after.sets.spares

-- a row was marked that is put somewhere, if there is one
pub record OneIsMarked (put : Option (Job × Place)) (before after : Index) : Type 0 where
  pub queues : HaveMore (List ℕ) (λ name. count_one (waits_in name) put)
      (by_name before.queues) (by_name after.queues)
  pub leases : HaveMore (List ℕ) (λ jid. count_one (is_leased_under jid) put)
      (by_name before.leases) (by_name after.leases)
  pub sets : HaveMore Target (λ target. count_one (stands_in target) put)
      (by_set before.sets) (by_set after.sets)

-- each row was marked that moves put somewhere
pub record AreMarked (rows : List (ℕ × Row)) (moves : List Move) (before after : Index) : Type 0 where
  pub queues : HaveMore (List ℕ) (λ name. count_put (waits_in name) rows moves)
      (by_name before.queues) (by_name after.queues)
  pub leases : HaveMore (List ℕ) (λ jid. count_put (is_leased_under jid) rows moves)
      (by_name before.leases) (by_name after.leases)
  pub sets : HaveMore Target (λ target. count_put (stands_in target) rows moves)
      (by_set before.sets) (by_set after.sets)

-- nothing is marked where moves put rows
pub record NoneMarked (rows : List (ℕ × Row)) (moves : List Move) (index : Index) : Type 0 where
  pub queues : (name : List ℕ) → 0 < count_put (waits_in name) rows moves
      → mark_at index.queues.marks name ≡ 0
  pub leases : (jid : List ℕ) → 0 < count_put (is_leased_under jid) rows moves
      → mark_at index.leases.marks jid ≡ 0
  pub sets : (target : Target) → 0 < count_put (stands_in target) rows moves
      → count_in target index.sets.marks ≡ 0

-- there is room for each row that moves put somewhere
pub record HasRoom (rows : List (ℕ × Row)) (moves : List Move) (index : Index) : Type 0 where
  pub queues : (name : List ℕ) →
      count_put (waits_in name) rows moves ≤ spare_at index.queues.spares name
  pub leases : (jid : List ℕ) →
      count_put (is_leased_under jid) rows moves ≤ spare_at index.leases.spares jid
  pub sets : (target : Target) →
      count_put (stands_in target) rows moves ≤ count_in target index.sets.spares

-- there is room for one mark more where a row is put, if there is one
abbrev pub HasOneMore : Option (Job × Place) → Index → Type 0
HasOneMore put index = IfSome put (λ one. HasMore one.0 one.1 index)

-- nothing is marked any more where a row is put, if there is one, and for any other name or set what was
pub record OneUnmarked (put : Option (Job × Place)) (before after : Index) : Type 0 where
  pub queues : (name : List ℕ) → mark_at after.queues.marks name
      ≡ (if option_map_or (waits_in name) put false then 0 else mark_at before.queues.marks name)
  pub leases : (jid : List ℕ) → mark_at after.leases.marks jid
      ≡ (if option_map_or (is_leased_under jid) put false then 0 else mark_at before.leases.marks jid)
  pub sets : (target : Target) → count_in target after.sets.marks
      ≡ (if option_map_or (stands_in target) put false then 0 else count_in target before.sets.marks)

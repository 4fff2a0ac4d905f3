-- Marks: room that is set aside for rows that are to enter, while it is counted how much they need.
use Rattle.std.specs.Prelude.{ℕ, ◌≡◌, ◌<◌, ◌≤◌, ◌+◌, Bool, true, if◌then◌else◌, List}
use Rattle.fk_job.specs.declared.job.Job.{Job}
use Rattle.fk_model.specs.declared.place.Place.{Place}
use Rattle.fk_model.specs.declared.mutation.Target.{Target}
use Rattle.fk_lists.specs.Room.{Room, mark_at, spare_at}
use Rattle.fk_core.specs.Sets.{Sets, count_in, stands_at}
use Rattle.fk_core.specs.Reserved.{waits_in, is_leased_under}
use Rattle.fk_core.specs.Index.{Index}

-- how much is marked of each part of a room, by name or by set, and how much there is
pub record MarkedRoom (K : Type 0) : Type 0 where
  pub marks : K → ℕ
  pub spares : K → ℕ

abbrev pub by_name : Room → MarkedRoom (List ℕ)
by_name room = record { marks = mark_at room.marks; spares = spare_at room.spares }

abbrev pub by_set : Sets → MarkedRoom Target
by_set sets = record {
  marks = λ target. count_in target sets.marks;
  spares = λ target. count_in target sets.spares;
}

-- one more is marked of each part that passes a test, each mark within the room; no room is less
pub record OneMore (K : Type 0) (test : K → Bool) (before after : MarkedRoom K) : Type 0 where
  pub marks : (key : K) → after.marks key ≡ (if test key then 1 else 0) + before.marks key
  pub within : (key : K) → test key ≡ true → after.marks key ≤ after.spares key
  pub kept : (key : K) → before.spares key ≤ after.spares key

-- a row of a job was marked that is to enter at a place
pub record IsMarked (job : Job) (place : Place) (before after : Index) : Type 0 where
  pub queues : OneMore (List ℕ) (λ name. waits_in name (job, place))
      (by_name before.queues) (by_name after.queues)
  pub leases : OneMore (List ℕ) (λ jid. is_leased_under jid (job, place))
      (by_name before.leases) (by_name after.leases)
  pub sets : OneMore Target (λ target. stands_at target place) (by_set before.sets) (by_set after.sets)

-- there is room for one mark more of each part that passes a test
abbrev pub HasOneFree : (K : Type 0) → (K → Bool) → MarkedRoom K → Type 0
HasOneFree K test room = (key : K) → test key ≡ true → room.marks key < room.spares key

-- there is room for one mark more where a row of a job is to enter at a place
pub record HasMore (job : Job) (place : Place) (index : Index) : Type 0 where
  pub queues : HasOneFree (List ℕ) (λ name. waits_in name (job, place)) (by_name index.queues)
  pub leases : HasOneFree (List ℕ) (λ jid. is_leased_under jid (job, place)) (by_name index.leases)
  pub sets : HasOneFree Target (λ target. stands_at target place) (by_set index.sets)

-- nothing is marked of a part that passes a test, and of any other what was; the rooms stay
pub record NoneLeft (K : Type 0) (test : K → Bool) (before after : MarkedRoom K) : Type 0 where
  pub marks : (key : K) → after.marks key ≡ (if test key then 0 else before.marks key)
  pub kept : (key : K) → after.spares key ≡ before.spares key

-- where a row of a job would enter at a place nothing is marked
pub record IsUnmarked (job : Job) (place : Place) (before after : Index) : Type 0 where
  pub queues : NoneLeft (List ℕ) (λ name. waits_in name (job, place))
      (by_name before.queues) (by_name after.queues)
  pub leases : NoneLeft (List ℕ) (λ jid. is_leased_under jid (job, place))
      (by_name before.leases) (by_name after.leases)
  pub sets : NoneLeft Target (λ target. stands_at target place) (by_set before.sets) (by_set after.sets)

-- what rows are found by is as before
pub record FindsTheSame (before after : Index) : Type 0 where
  pub queues : after.queues.items ≡ before.queues.items
  pub leases : after.leases.items ≡ before.leases.items
  pub sets : after.sets.items ≡ before.sets.items
  pub working : after.working ≡ before.working
  pub greatest : after.greatest ≡ before.greatest

-- Marks one behind the other: what was marked for the first of some moves, and then for one more.
use Rattle.std.proofs.Common.{◌≡◌, ◌∙◌, refl, ℕ, zero, suc, ◌<◌, ◌≤◌, ◌+◌, List, [], Bool, true, false, take, add-one, arith}
use Rattle.std.specs.Prelude.{if◌then◌else◌, Option, None, Some}
use Rattle.std.specs.Option.{option_map_or}
use Rattle.fk_job.specs.declared.job.Job.{Job}
use Rattle.fk_model.specs.declared.row.Row.{Row}
use Rattle.fk_model.specs.declared.place.Place.{Place}
use Rattle.fk_model.specs.declared.mutation.Target.{Target}
use Rattle.fk_model.specs.declared.move_.Move.{Move}
use Rattle.fk_lists.specs.Room.{mark_at, spare_at}
use Rattle.fk_core.specs.Held.{Held}
use Rattle.fk_core.specs.Sets.{count_in}
use Rattle.fk_core.specs.Reserved.{Reserved, count_put, waits_in, is_leased_under, stands_in}
use Rattle.fk_core.specs.Entrances.{put_at, count_one}
use Rattle.fk_core.specs.Index.{Index}
use Rattle.fk_core.specs.Marks.{MarkedRoom, by_name, by_set, FindsTheSame}
use Rattle.fk_core.specs.Marked.{HaveMore, KeepsRoom, OneIsMarked, AreMarked, NoneMarked, HasRoom, HasOneMore, OneUnmarked}
use Rattle.fk_core.specs.Tied.{AreTied}
use Rattle.fk_core.proofs.PutCounts.{count_next, count_none, count_short}

-- ---- what stays

pub keeps_none : (index : Index) → KeepsRoom index index
keeps_none index = record {
  queues = λ name. omega arith;
  leases = λ jid. omega arith;
  sets = λ target. omega arith;
}

pub keeps_on : (before middle after : Index) → KeepsRoom before middle → KeepsRoom middle after
    → KeepsRoom before after
keeps_on before middle after first second = record {
  queues = λ name. omega (arith, first.queues name, second.queues name);
  leases = λ jid. omega (arith, first.leases jid, second.leases jid);
  sets = λ target. omega (arith, first.sets target, second.sets target);
}

pub same_none : (index : Index) → FindsTheSame index index
same_none index = record { queues = refl; leases = refl; sets = refl; working = refl; greatest = refl }

pub same_on : (before middle after : Index) → FindsTheSame before middle → FindsTheSame middle after
    → FindsTheSame before after
same_on before middle after first second = record {
  queues = second.queues ∙ first.queues;
  leases = second.leases ∙ first.leases;
  sets = second.sets ∙ first.sets;
  working = second.working ∙ first.working;
  greatest = second.greatest ∙ first.greatest;
}

-- ---- marks of one room

-- some more, and then some more
more_on : (K : Type 0) (one two sum : K → ℕ) (before middle after : MarkedRoom K)
    → HaveMore K one before middle → HaveMore K two middle after
    → ((key : K) → middle.spares key ≤ after.spares key) → ((key : K) → sum key ≡ two key + one key)
    → HaveMore K sum before after
more_on K one two sum before middle after first second kept both = record {
  marks = λ key. omega (arith, first.marks key, second.marks key, both key);
  within = λ key some. within_on (one key) (two key) (sum key) (before.marks key) (middle.marks key)
      (after.marks key) (middle.spares key) (after.spares key) (first.marks key) (first.within key)
      (second.marks key) (second.within key) (kept key) (both key) some;
}
  where
    within_on : (one two sum old_marked marked new_marked spare new_spare : ℕ) → marked ≡ one + old_marked
        → (0 < one → marked ≤ spare) → new_marked ≡ two + marked → (0 < two → new_marked ≤ new_spare)
        → spare ≤ new_spare → sum ≡ two + one → 0 < sum → new_marked ≤ new_spare
    within_on one zero sum old_marked marked new_marked spare new_spare more fits none others kept both some =
        let first : marked ≤ spare = fits (omega arith) in omega arith
    within_on one (suc two) sum old_marked marked new_marked spare new_spare more fits next others kept both some =
        others (omega arith)

more_none : (K : Type 0) (count : K → ℕ) (room : MarkedRoom K) → ((key : K) → count key ≡ 0)
    → HaveMore K count room room
more_none K count room none = record {
  marks = λ key. omega (arith, none key);
  within = λ key some. absurd (omega (arith, some, none key));
}

-- one more finds room
room_for_one : (count all : ℕ) (marked old_marked spare old_spare : ℕ) → marked ≡ count + old_marked
    → count < all → (0 < all → old_marked ≡ 0) → all ≤ old_spare → old_spare ≤ spare → marked < spare
room_for_one count all marked old_marked spare old_spare is short none fits kept = omega arith

-- ---- marks of moves

pub marked_none : (rows : List (ℕ × Row)) (index : Index) → AreMarked rows [] index index
marked_none rows index = record {
  queues = more_none (List ℕ) (λ name. count_put (waits_in name) rows []) (by_name index.queues)
      (λ name. count_none (waits_in name) rows);
  leases = more_none (List ℕ) (λ jid. count_put (is_leased_under jid) rows []) (by_name index.leases)
      (λ jid. count_none (is_leased_under jid) rows);
  sets = more_none Target (λ target. count_put (stands_in target) rows []) (by_set index.sets)
      (λ target. count_none (stands_in target) rows);
}

pub marked_next : (rows : List (ℕ × Row)) (moves : List Move) (at : ℕ) (before middle after : Index)
    → AreMarked rows (take at moves) before middle
    → OneIsMarked (put_at rows moves at) middle after → KeepsRoom middle after
    → AreMarked rows (take (at + 1) moves) before after
marked_next rows moves at before middle after first second kept = rw add-one (record {
  queues = more_on (List ℕ) (λ name. count_put (waits_in name) rows (take at moves))
      (λ name. count_one (waits_in name) (put_at rows moves at))
      (λ name. count_put (waits_in name) rows (take (suc at) moves))
      (by_name before.queues) (by_name middle.queues) (by_name after.queues) first.queues second.queues kept.queues
      (λ name. count_next (waits_in name) moves at rows);
  leases = more_on (List ℕ) (λ jid. count_put (is_leased_under jid) rows (take at moves))
      (λ jid. count_one (is_leased_under jid) (put_at rows moves at))
      (λ jid. count_put (is_leased_under jid) rows (take (suc at) moves))
      (by_name before.leases) (by_name middle.leases) (by_name after.leases) first.leases second.leases kept.leases
      (λ jid. count_next (is_leased_under jid) moves at rows);
  sets = more_on Target (λ target. count_put (stands_in target) rows (take at moves))
      (λ target. count_one (stands_in target) (put_at rows moves at))
      (λ target. count_put (stands_in target) rows (take (suc at) moves))
      (by_set before.sets) (by_set middle.sets) (by_set after.sets) first.sets second.sets kept.sets
      (λ target. count_next (stands_in target) moves at rows);
})

-- where there is room for all that moves put somewhere, there is room for one more of them
pub one_more : (rows : List (ℕ × Row)) (moves : List Move) (at : ℕ) (before now : Index)
    → AreMarked rows (take at moves) before now → KeepsRoom before now → NoneMarked rows moves before
    → HasRoom rows moves before → HasOneMore (put_at rows moves at) now
one_more rows moves at before now marked kept none room = for_one (put_at rows moves at) refl
  where
    for_one : (put : Option (Job × Place)) → put_at rows moves at ≡ put → HasOneMore put now
    for_one None is = tt
    for_one (Some put) is = record {
      queues = λ name passes. room_for_one (count_put (waits_in name) rows (take at moves))
          (count_put (waits_in name) rows moves) (mark_at now.queues.marks name)
          (mark_at before.queues.marks name) (spare_at now.queues.spares name)
          (spare_at before.queues.spares name) (marked.queues.marks name)
          (count_short (waits_in name) moves at rows put is passes) (none.queues name)
          (room.queues name) (kept.queues name);
      leases = λ jid passes. room_for_one (count_put (is_leased_under jid) rows (take at moves))
          (count_put (is_leased_under jid) rows moves) (mark_at now.leases.marks jid)
          (mark_at before.leases.marks jid) (spare_at now.leases.spares jid)
          (spare_at before.leases.spares jid) (marked.leases.marks jid)
          (count_short (is_leased_under jid) moves at rows put is passes) (none.leases jid)
          (room.leases jid) (kept.leases jid);
      sets = λ target passes. room_for_one (count_put (stands_in target) rows (take at moves))
          (count_put (stands_in target) rows moves) (count_in target now.sets.marks)
          (count_in target before.sets.marks) (count_in target now.sets.spares)
          (count_in target before.sets.spares) (marked.sets.marks target)
          (count_short (stands_in target) moves at rows put is passes) (none.sets target)
          (room.sets target) (kept.sets target);
    }

count_fits : (count old_marked marked spare : ℕ) → (0 < count → old_marked ≡ 0) → marked ≡ count + old_marked
    → (0 < count → marked ≤ spare) → count ≤ spare
count_fits zero old_marked marked spare none is within = omega arith
count_fits (suc count) old_marked marked spare none is within =
    let fits : marked ≤ spare = within (omega arith) in omega arith

-- where nothing was marked before, the marks of all moves have room
pub marks_fit : (rows : List (ℕ × Row)) (moves : List Move) (before after : Index)
    → NoneMarked rows moves before → AreMarked rows moves before after → HasRoom rows moves after
marks_fit rows moves before after none marked = record {
  queues = λ name. count_fits (count_put (waits_in name) rows moves) (mark_at before.queues.marks name)
      (mark_at after.queues.marks name) (spare_at after.queues.spares name) (none.queues name)
      (marked.queues.marks name) (marked.queues.within name);
  leases = λ jid. count_fits (count_put (is_leased_under jid) rows moves) (mark_at before.leases.marks jid)
      (mark_at after.leases.marks jid) (spare_at after.leases.spares jid) (none.leases jid)
      (marked.leases.marks jid) (marked.leases.within jid);
  sets = λ target. count_fits (count_put (stands_in target) rows moves) (count_in target before.sets.marks)
      (count_in target after.sets.marks) (count_in target after.sets.spares) (none.sets target)
      (marked.sets.marks target) (marked.sets.within target);
}

-- ---- marks taken away

pub unmarked_none : (rows : List (ℕ × Row)) (index : Index) → NoneMarked rows [] index
unmarked_none rows index = record {
  queues = λ name some. absurd (omega (arith, some, count_none (waits_in name) rows));
  leases = λ jid some. absurd (omega (arith, some, count_none (is_leased_under jid) rows));
  sets = λ target some. absurd (omega (arith, some, count_none (stands_in target) rows));
}

none_next : (count next before after : ℕ) (test : Bool) → next ≡ (if test then 1 else 0) + count
    → (0 < count → before ≡ 0) → after ≡ (if test then 0 else before) → 0 < next → after ≡ 0
none_next count next before after true more none is some = is
none_next count next before after false more none is some =
    let fewer : next ≡ 0 + count = more in omega arith

pub unmarked_next : (rows : List (ℕ × Row)) (moves : List Move) (at : ℕ) (before after : Index)
    → NoneMarked rows (take at moves) before → OneUnmarked (put_at rows moves at) before after
    → NoneMarked rows (take (at + 1) moves) after
unmarked_next rows moves at before after none one = rw add-one (record {
  queues = λ name. none_next (count_put (waits_in name) rows (take at moves))
      (count_put (waits_in name) rows (take (suc at) moves)) (mark_at before.queues.marks name)
      (mark_at after.queues.marks name) (option_map_or (waits_in name) (put_at rows moves at) false)
      (count_next (waits_in name) moves at rows) (none.queues name) (one.queues name);
  leases = λ jid. none_next (count_put (is_leased_under jid) rows (take at moves))
      (count_put (is_leased_under jid) rows (take (suc at) moves)) (mark_at before.leases.marks jid)
      (mark_at after.leases.marks jid)
      (option_map_or (is_leased_under jid) (put_at rows moves at) false)
      (count_next (is_leased_under jid) moves at rows) (none.leases jid) (one.leases jid);
  sets = λ target. none_next (count_put (stands_in target) rows (take at moves))
      (count_put (stands_in target) rows (take (suc at) moves)) (count_in target before.sets.marks)
      (count_in target after.sets.marks) (option_map_or (stands_in target) (put_at rows moves at) false)
      (count_next (stands_in target) moves at rows) (none.sets target) (one.sets target);
})

-- ---- tables

-- where tables have room for moves, they have it still where no room is less
pub room_stays : (held : Held) (rows : List (ℕ × Row)) (moves : List Move) (before after : Index)
    → held.kept.rows ≡ rows → held.room.queues ≡ before.queues.spares
    → held.room.leases ≡ before.leases.spares → held.room.sets ≡ before.sets.spares
    → KeepsRoom before after → Reserved held moves
    → HasRoom rows moves after
room_stays held rows moves before after same queues leases sets kept reserved = rw (← same) (record {
  queues = λ name. let more : spare_at held.room.queues name ≤ spare_at after.queues.spares name =
      rw queues (kept.queues name) in omega (arith, reserved.queues name, more);
  leases = λ jid. let more : spare_at held.room.leases jid ≤ spare_at after.leases.spares jid =
      rw leases (kept.leases jid) in omega (arith, reserved.leases jid, more);
  sets = λ target. let more : count_in target held.room.sets ≤ count_in target after.sets.spares =
      rw sets (kept.sets target) in omega (arith, reserved.sets target, more);
})

-- tables by which the same is found are tied as before
pub tied_on : (rows : List (ℕ × Row)) (before after : Index) (next : ℕ) → AreTied rows before next
    → FindsTheSame before after → AreTied rows after next
tied_on rows before after next tied same = record {
  by_ticket = tied.by_ticket;
  spelled = tied.spelled;
  queues = λ name. rw (same.queues) (tied.queues name);
  distinct = tied.distinct;
  leases = λ jid. rw (same.leases) (tied.leases jid);
  sets = λ target. rw (same.sets) (tied.sets target);
  working = same.working ∙ tied.working;
  greatest = rw (same.greatest) tied.greatest;
  within = tied.within;
}

use Rattle.std.proofs.Common.{rules}
use Rattle.fk_lists.proofs.Lookups.{spared}
use Rattle.fk_lists.proofs.InUse.{other_lists, sound_with, still_used, used_list}
use Rattle.fk_lists.proofs.Updates.{other_marks, other_rooms, roomier}
use Rattle.fk_lists.proofs.Unseen.{replaced}
use Rattle.fk_lists.proofs.marking.ListsRoomByName.mark.Goals as goal

pub returns-in-Some-clause-kept : goal.returns-in-Some-clause-kept
returns-in-Some-clause-kept c =
    let put = c.get_mut.follows.holds c.mark.new.self in
    rw (← c.self.view_is)
    (roomier _ _ _ _ (put.3 (search rules)).0 (rw (spared, ← c.in-Some.ensures.value) c.mark.ensures.kept))

pub returns-in-Some-clause-others : goal.returns-in-Some-clause-others
returns-in-Some-clause-others c =
    let put = c.get_mut.follows.holds c.mark.new.self in
    rw (← c.self.view_is) (other_marks _ _ _ _ (put.3 (search rules)).0)

pub returns-in-Some-clause-same : goal.returns-in-Some-clause-same
returns-in-Some-clause-same c =
    rw ((c.get_mut.follows.holds c.mark.new.self).0, ← c.self.view_is)
    (replaced c.args.name.now c.in-Some.list.now c.mark.new.self c.self.inside.held.entries
    c.in-Some.ensures.value c.mark.ensures.same)

pub invariant_of-self : goal.invariant_of-self
invariant_of-self c =
    let put = c.get_mut.follows.holds c.mark.new.self in
    let used = used_list _ c.self.invariant.in_use _ _ c.in-Some.ensures.value in
    sound_with _ _ _ _ (put.3 (search rules)).0 put.4 (other_lists _ _ c.self.invariant.in_use)
    (still_used c.in-Some.list.now c.mark.new.self c.mark.ensures.same c.mark.ensures.kept used)

pub returns-in-Some-clause-rooms : goal.returns-in-Some-clause-rooms
returns-in-Some-clause-rooms c =
    let put = c.get_mut.follows.holds c.mark.new.self in
    rw (← c.self.view_is) (other_rooms _ _ _ _ (put.3 (search rules)).0)

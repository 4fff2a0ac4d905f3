use Rattle.std.proofs.Common.{rules}
use Rattle.fk_lists.proofs.InUse.{other_lists, sound_with, still_used, used_list}
use Rattle.fk_lists.proofs.Lookups.{spared}
use Rattle.fk_lists.proofs.Updates.{other_marks, rooms_stay}
use Rattle.fk_lists.proofs.Unseen.{replaced}
use Rattle.fk_lists.proofs.marking.ListsRoomByName.unmark.Goals as goal

pub invariant_of-self-2 : goal.invariant_of-self-2
invariant_of-self-2 c =
    let put = c.get_mut.follows.holds c.unmark.new.self in
    let used = used_list _ c.self.invariant.in_use _ _ c.in-Some.ensures.value in
    sound_with _ _ _ _ (put.3 (search rules)).0 put.4 (other_lists _ _ c.self.invariant.in_use)
    (still_used c.in-Some.list.now c.unmark.new.self c.unmark.ensures.same (search rules) used)

pub returns-clause-others : goal.returns-clause-others
returns-clause-others c =
    let put = c.get_mut.follows.holds c.unmark.new.self in
    rw (← c.self.view_is) (other_marks _ _ _ _ (put.3 (search rules)).0)

pub returns-clause-kept : goal.returns-clause-kept
returns-clause-kept c =
    let put = c.get_mut.follows.holds c.unmark.new.self in
    rw (← c.self.view_is)
    (rooms_stay _ _ _ _ (put.3 (search rules)).0 (rw (spared, ← c.in-Some.ensures.value) c.unmark.ensures.spare))

pub returns-clause-same : goal.returns-clause-same
returns-clause-same c =
    rw ((c.get_mut.follows.holds c.unmark.new.self).0, ← c.self.view_is)
    (replaced c.args.name.now c.in-Some.list.now c.unmark.new.self c.self.inside.held.entries
    c.in-Some.ensures.value c.unmark.ensures.same)

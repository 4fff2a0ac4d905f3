use Rattle.std.proofs.Common.{◌∙◌, sym, ap, arith}
use Rattle.fk_lists.proofs.InUse.{not_held, other_lists, sound_with}
use Rattle.fk_lists.proofs.Lookups.{listed, mark_on, marked}
use Rattle.fk_lists.proofs.Updates.{mark_here, other_marks, other_rooms, room_here, roomier}
use Rattle.fk_lists.proofs.Unseen.{entered}
use Rattle.fk_lists.proofs.lists.Lists.add_marked.Goals as goal

pub invariant_of-self-in-Ok : goal.invariant_of-self-in-Ok
invariant_of-self-in-Ok c =
    let marked = c.in_ok-mark.ensures.ok in
    sound_with _ _ _ _ c.in-Ok.ensures.updates.0 c.in-Ok.ensures.ordered (other_lists _ _ c.self.invariant.in_use)
    (λ empty. omega (arith, marked.0, marked.1))

-- the name wasn't held
pub returns-in-Ok-clause-ok : goal.returns-in-Ok-clause-ok
returns-in-Ok-clause-ok c =
    let empty = rw (← c.self.view_is) at c.requires.empty in
    let bare = rw (← c.self.view_is) at c.requires.bare in
    let none = marked c.self.inside.held.entries c.args.name.now ∙ ap mark_on (not_held _ c.self.invariant c.args.name.now empty bare) in
    let here = rw c.in_ok-copied.ensures at (mark_here _ _ _ _ c.in-Ok.ensures.updates.0) in
    rw (← c.self.view_is) (omega (arith, here, none, c.in_ok-mark.ensures.ok.0, c.new-list.ensures.mark))

pub returns-in-Ok-clause-within : goal.returns-in-Ok-clause-within
returns-in-Ok-clause-within c =
    let here = rw c.in_ok-copied.ensures at (mark_here _ _ _ _ c.in-Ok.ensures.updates.0) in
    let room = rw c.in_ok-copied.ensures at (room_here _ _ _ _ c.in-Ok.ensures.updates.0) in
    omega (arith, here, room, c.in_ok-mark.ensures.ok.1)

pub returns-in-Ok-clause-kept : goal.returns-in-Ok-clause-kept
returns-in-Ok-clause-kept c =
    let bare = rw (← c.self.view_is) at c.requires.bare in
    rw (← c.self.view_is)
    (roomier _ _ _ _ c.in-Ok.ensures.updates.0 (rw (c.in_ok-copied.ensures, bare) (omega arith)))

pub returns-in-Ok-clause-marks : goal.returns-in-Ok-clause-marks
returns-in-Ok-clause-marks c =
    rw (← c.self.view_is, ← c.in_ok-copied.ensures) (other_marks _ _ _ _ c.in-Ok.ensures.updates.0)

-- the new list has no pair
pub returns-in-Ok-clause-same : goal.returns-in-Ok-clause-same
returns-in-Ok-clause-same c =
    let empty = sym (listed _ c.self.invariant.by_name _) ∙ (rw (← c.self.view_is) at c.requires.empty) in
    rw (c.in-Ok.ensures.entries, c.in_ok-copied.ensures, ← c.self.view_is)
    (entered c.args.name.now c.mark.new.self c.self.inside.held.entries
    (c.in_ok-mark.ensures.same ∙ c.new-list.ensures.items) empty)

pub returns-in-Ok-clause-rooms : goal.returns-in-Ok-clause-rooms
returns-in-Ok-clause-rooms c =
    rw (← c.self.view_is, ← c.in_ok-copied.ensures) (other_rooms _ _ _ _ c.in-Ok.ensures.updates.0)

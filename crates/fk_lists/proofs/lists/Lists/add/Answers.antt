use Rattle.std.proofs.Common.{◌∙◌, sym, ap, arith}
use Rattle.std.proofs.lemmas.Bool.Decides.{nat_tests}
use Rattle.fk_lists.proofs.InUse.{not_held, other_lists, sound_with}
use Rattle.fk_lists.proofs.Lookups.{listed, mark_on, marked}
use Rattle.fk_lists.proofs.Updates.{marks_stay, other_rooms, roomier}
use Rattle.fk_lists.proofs.Unseen.{entered}
use Rattle.fk_lists.proofs.lists.Lists.add.Goals as goal

pub invariant_of-self-in-Ok : goal.invariant_of-self-in-Ok
invariant_of-self-in-Ok c =
    sound_with _ _ _ _ c.in-Ok.ensures.updates.0 c.in-Ok.ensures.ordered (other_lists _ _ c.self.invariant.in_use)
    (λ empty. grind (arith, nat_tests))

-- the name had no room
pub returns-in-Ok-clause-kept : goal.returns-in-Ok-clause-kept
returns-in-Ok-clause-kept c =
    let bare = rw (← c.self.view_is) at c.requires.bare in
    rw (← c.self.view_is)
    (roomier _ _ _ _ c.in-Ok.ensures.updates.0 (rw (c.in_ok-copied.ensures, bare) (omega arith)))

-- it wasn't held
pub returns-in-Ok-clause-marks : goal.returns-in-Ok-clause-marks
returns-in-Ok-clause-marks c =
    let empty = rw (← c.self.view_is) at c.requires.empty in
    let bare = rw (← c.self.view_is) at c.requires.bare in
    let none = marked _ _ ∙ ap mark_on (not_held _ c.self.invariant c.args.name.now empty bare) in
    rw (← c.self.view_is) (marks_stay _ _ _ _ c.in-Ok.ensures.updates.0
    (rw c.in_ok-copied.ensures (c.in_ok-reserve.ensures.mark ∙ c.new-list.ensures.mark ∙ sym none)))

-- the new list has no pair
pub returns-in-Ok-clause-same : goal.returns-in-Ok-clause-same
returns-in-Ok-clause-same c =
    let empty = sym (listed _ c.self.invariant.by_name _) ∙ (rw (← c.self.view_is) at c.requires.empty) in
    rw (c.in-Ok.ensures.entries, c.in_ok-copied.ensures, ← c.self.view_is)
    (entered c.args.name.now c.reserve.new.self c.self.inside.held.entries
    (c.in_ok-reserve.ensures.same ∙ c.new-list.ensures.items) empty)

pub returns-in-Ok-clause-rooms : goal.returns-in-Ok-clause-rooms
returns-in-Ok-clause-rooms c =
    rw (← c.self.view_is, ← c.in_ok-copied.ensures) (other_rooms _ _ _ _ c.in-Ok.ensures.updates.0)

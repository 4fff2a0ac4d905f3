use Rattle.std.proofs.Common.{◌∙◌, sym}
use Rattle.fk_lists.proofs.Lookups.{listed, spared}
use Rattle.fk_lists.proofs.InUse.{busy, no_pairs, no_room, sound_still, sound_with}
use Rattle.fk_lists.proofs.Updates.{lists_stay, rooms_stay}
use Rattle.fk_lists.proofs.idle.forget_idle.Goals as goal

pub returns-then-idle-clause-items : goal.returns-then-idle-clause-items
returns-then-idle-clause-items c =
    lists_stay _ _ _ _ c.remove.ensures.updates.0 c.requires.order c.remove.ensures.ordered
    (sym (listed _ c.requires.order _ ∙ no_pairs _ (c.requires.idle.0 c.if-idle.true)))

pub returns-then-idle-clause-spares : goal.returns-then-idle-clause-spares
returns-then-idle-clause-spares c =
    rooms_stay _ _ _ _ c.remove.ensures.updates.0
    (sym (spared _ _ ∙ no_room _ (c.requires.idle.0 c.if-idle.true)))

pub returns-then-idle-clause-sound : goal.returns-then-idle-clause-sound
returns-then-idle-clause-sound c =
    sound_with _ _ _ _ c.remove.ensures.updates.0 c.remove.ensures.ordered c.requires.others tt

pub returns-else-idle-clause-sound : goal.returns-else-idle-clause-sound
returns-else-idle-clause-sound c =
    sound_still _ _ c.requires.order c.requires.others (busy _ _ c.requires.idle c.if-idle.false)

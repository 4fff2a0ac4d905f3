use Rattle.std.proofs.Common.{rules}
use Rattle.fk_lists.proofs.Cleared.{lists_gone, rooms_same, sound_left}
use Rattle.fk_lists.proofs.InUse.{lean}
use Rattle.fk_lists.proofs.marking.ListsRoomByName.clear.Goals as goal

pub returns-clause-items : goal.returns-clause-items
returns-clause-items c =
    lists_gone _ (λ f name before more after g called. search rules) _
    c.self.inside.held.entries c.retain.new.self.entries c.retain.ensures.filtered

pub returns-clause-kept : goal.returns-clause-kept
returns-clause-kept c =
    rw (← c.self.view_is)
    (rooms_same _ (λ f name before more after g called. search rules) _
    c.self.inside.held.entries c.retain.new.self.entries c.self.invariant.by_name c.retain.ensures.filtered)

pub invariant_of-self : goal.invariant_of-self
invariant_of-self c =
    sound_left _ (λ f name before more after g called. search rules) _
    c.self.inside.held.entries c.retain.new.self.entries c.retain.ensures.ordered c.retain.ensures.filtered

pub returns-clause-lean : goal.returns-clause-lean
returns-clause-lean c =
    lean _ (sound_left _ (λ f name before more after g called. search rules) _
    c.self.inside.held.entries c.retain.new.self.entries c.retain.ensures.ordered c.retain.ensures.filtered)

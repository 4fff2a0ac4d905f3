use Rattle.std.proofs.Common.{rules}
use Rattle.fk_lists.proofs.InUse.{lean, others_used}
use Rattle.fk_lists.proofs.Updates.{others_stay, others_still_stay}
use Rattle.fk_lists.proofs.lists.Lists.take_first.Goals as goal

pub forget_idle-requires-clause-others : goal.forget_idle-requires-clause-others
forget_idle-requires-clause-others c =
    let put = c.get_mut.follows.holds c.take_first-taken.new.self in
    others_used _ _ _ _ (put.3 (search rules)).0 c.self.invariant.in_use

pub returns-clause-lean : goal.returns-clause-lean
returns-clause-lean c = lean _ c.forget_idle.ensures.sound

pub returns-clause-others : goal.returns-clause-others
returns-clause-others c =
    let put = c.get_mut.follows.holds c.take_first-taken.new.self in
    rw (← c.self.view_is)
    (others_still_stay _ _ _ _ (others_stay _ _ c.self.invariant.by_name put.4 _ (put.3 (search rules)).2)
    c.forget_idle.ensures.items c.forget_idle.ensures.spares)

-- the name isn't held
pub returns-in_default-clause-lean : goal.returns-in_default-clause-lean
returns-in_default-clause-lean c = rw c.get_mut.follows.holds-at-none (lean _ c.self.invariant)

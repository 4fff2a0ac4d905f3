use Rattle.std.proofs.Common.{rules}
use Rattle.fk_lists.proofs.InUse.{lean, other_lists, others_used, sound_with, still_used, used_list}
use Rattle.fk_lists.proofs.Updates.{others_stay, others_still_stay}
use Rattle.fk_lists.proofs.Unseen.{replaced}
use Rattle.fk_lists.proofs.lists.Lists.take.Goals as goal

pub forget_idle-requires-clause-others : goal.forget_idle-requires-clause-others
forget_idle-requires-clause-others c =
    let put = c.get_mut.follows.holds c.take.new.self in
    others_used _ _ _ _ (put.3 (search rules)).0 c.self.invariant.in_use

pub returns-clause-lean : goal.returns-clause-lean
returns-clause-lean c = lean _ c.forget_idle.ensures.sound

pub returns-clause-others : goal.returns-clause-others
returns-clause-others c =
    let put = c.get_mut.follows.holds c.take.new.self in
    rw (← c.self.view_is)
    (others_still_stay _ _ _ _ (others_stay _ _ c.self.invariant.by_name put.4 _ (put.3 (search rules)).2)
    c.forget_idle.ensures.items c.forget_idle.ensures.spares)

-- the name isn't held
pub returns-in_default-clause-lean : goal.returns-in_default-clause-lean
returns-in_default-clause-lean c = rw c.get_mut.follows.holds-at-none (lean _ c.self.invariant)

-- the pair isn't in its list
pub invariant_of-self-in_default-take : goal.invariant_of-self-in_default-take
invariant_of-self-in_default-take c =
    let put = c.get_mut.follows.holds c.take.new.self in
    let used = used_list _ c.self.invariant.in_use _ _ c.in-Some.ensures.value in
    sound_with _ _ _ _ (put.3 (search rules)).0 put.4 (other_lists _ _ c.self.invariant.in_use)
    (still_used c.in-Some.list.now c.take.new.self c.in_default-take.ensures.same (search rules) used)

pub returns-in_default-take-clause-same : goal.returns-in_default-take-clause-same
returns-in_default-take-clause-same c =
    rw ((c.get_mut.follows.holds c.take.new.self).0, ← c.self.view_is)
    (replaced c.args.name.now c.in-Some.list.now c.take.new.self c.self.inside.held.entries
    c.in-Some.ensures.value c.in_default-take.ensures.same)

pub returns-in_default-take-clause-others : goal.returns-in_default-take-clause-others
returns-in_default-take-clause-others c =
    let put = c.get_mut.follows.holds c.take.new.self in
    rw (← c.self.view_is) (others_stay _ _ c.self.invariant.by_name put.4 _ (put.3 (search rules)).2)

pub returns-in_default-take-clause-lean : goal.returns-in_default-take-clause-lean
returns-in_default-take-clause-lean c = lean _ (invariant_of-self-in_default-take c)

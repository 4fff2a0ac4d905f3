use Rattle.std.proofs.Common.{rules}
use Rattle.fk_lists.proofs.InUse.{other_lists, sound_with, used_after_push}
use Rattle.fk_lists.proofs.Updates.{others_stay}
use Rattle.fk_lists.proofs.lists.Lists.push.Goals as goal

pub invariant_of-self-2 : goal.invariant_of-self-2
invariant_of-self-2 c =
    let put = c.get_mut.follows.holds c.push.new.self in
    sound_with _ _ _ _ (put.3 (search rules)).0 put.4 (other_lists _ _ c.self.invariant.in_use)
    (used_after_push _ _ c.push.new.self c.push.ensures.items)

pub returns-clause-others : goal.returns-clause-others
returns-clause-others c =
    let put = c.get_mut.follows.holds c.push.new.self in
    rw (← c.self.view_is) (others_stay _ _ c.self.invariant.by_name put.4 _ (put.3 (search rules)).2)

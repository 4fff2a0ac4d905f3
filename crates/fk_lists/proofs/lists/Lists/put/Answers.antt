use Rattle.std.proofs.Common.{rules}
use Rattle.fk_lists.proofs.InUse.{other_lists, sound_with, used_after_put, used_list}
use Rattle.fk_lists.proofs.Updates.{others_stay}
use Rattle.fk_lists.proofs.lists.Lists.put.Goals as goal

pub invariant_of-self-2 : goal.invariant_of-self-2
invariant_of-self-2 c =
    let put = c.get_mut.follows.holds c.put.new.self in
    let used = used_list _ c.self.invariant.in_use _ _ c.in-Some.ensures.value in
    sound_with _ _ _ _ (put.3 (search rules)).0 put.4 (other_lists _ _ c.self.invariant.in_use)
    (used_after_put c.in-Some.list.now c.put.new.self c.args.pair c.put.result c.put.ensures.gap c.put.ensures.here
    c.put.ensures.same used)

pub returns-clause-others : goal.returns-clause-others
returns-clause-others c =
    let put = c.get_mut.follows.holds c.put.new.self in
    rw (← c.self.view_is) (others_stay _ _ c.self.invariant.by_name put.4 _ (put.3 (search rules)).2)

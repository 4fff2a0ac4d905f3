use Rattle.fk_lists.proofs.Apart.{apart_at_gap, apart_at_place}
use Rattle.fk_lists.proofs.pair_list.PairList.take.Goals as goal

pub returns-in_default-clause-absent : goal.returns-in_default-clause-absent
returns-in_default-clause-absent c =
    apart_at_gap _ c.args.pair _ c.in_default.ensures.absent

-- the pair with its first number is another
pub returns-in_default-get-clause-absent : goal.returns-in_default-get-clause-absent
returns-in_default-get-clause-absent c =
    apart_at_place _ c.args.pair _ c.in-Ok.at c.requires.order c.in-Ok.ensures.found c.in-Some.ensures
    c.if-second-pair.false

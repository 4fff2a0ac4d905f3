use Rattle.std.proofs.Common.{◌≡◌, ◌≤◌, ◌++◌, length}
use Rattle.std.specs.VecDeque.Iter.{deque_iter_rest}
use Rattle.fk_lists.proofs.pair_list.PairList.listed.Given as goal

-- the pairs so far and those that are left are all, and there is room for what is left
abbrev pub invariant-adding : goal.invariant-adding
invariant-adding l =
    (l.out.items ++ deque_iter_rest l.pair-iterator ≡ l.initial.out.items ++ deque_iter_rest l.initial.pair-iterator)
    × (length (deque_iter_rest l.pair-iterator) ≤ l.out.spare)

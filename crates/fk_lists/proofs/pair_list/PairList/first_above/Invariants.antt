use Rattle.std.proofs.Common.{◌≡◌, nat_lt}
use Rattle.std.specs.Prelude.{find}
use Rattle.std.specs.VecDeque.Iter.{deque_iter_rest}
use Rattle.fk_model.specs.Orders.{ticket_in}
use Rattle.fk_lists.proofs.pair_list.PairList.first_above.Given as goal

-- the pair is the one of those that are left
abbrev pub invariant-looking : goal.invariant-looking
invariant-looking l =
    find (λ pair. nat_lt l.number (ticket_in pair)) (deque_iter_rest l.pair-iterator)
    ≡ find (λ pair. nat_lt l.number (ticket_in pair)) (deque_iter_rest l.initial.pair-iterator)

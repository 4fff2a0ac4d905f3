use Rattle.std.proofs.Common.{◌≡◌, [], length}
use Rattle.std.specs.Vec.Iter.{into_iter_items, into_iter_len}
use Rattle.fk_store.proofs.UnderWay.{IsUnderWay}
use Rattle.fk_store.proofs.making.make_all.Given as goal

-- those that are left lead to where all of them do, and the list for one move is empty
abbrev pub invariant-making : goal.invariant-making
invariant-making l = record {
  way : IsUnderWay l.fn.moves.items (into_iter_items l.step-iterator) l.fn.tables.kept l.tables.kept;
  empty : l.one.items ≡ [];
  count : into_iter_len l.step-iterator ≡ length (into_iter_items l.step-iterator);
}

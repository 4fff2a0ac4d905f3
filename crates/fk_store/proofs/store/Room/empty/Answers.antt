use Rattle.std.proofs.Common.{arith}
use Rattle.fk_store.proofs.store.Room.empty.Goals as goal

pub returns : goal.returns
returns c = record {
  two = omega (arith, c.empty_list.ensures.room 2 (omega arith) c.requires.two);
  framed_ = omega (arith, c.empty_list-2.ensures.room 51 (omega arith) c.requires.framed_);
}

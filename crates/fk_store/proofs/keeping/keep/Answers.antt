use Rattle.std.proofs.Common.{inr}
use Rattle.fk_lives.proofs.Roads.{stages}
use Rattle.fk_store.proofs.keeping.keep.Goals as goal

pub returns-clause-crash : goal.returns-clause-crash
returns-clause-crash g c = λ kept known follow.
    inr (stages _ _ _ _ _ (c.settle.ensures.crash kept known)
    (c.append.ensures.crash kept (c.in_ok-settle.ensures.ok kept known) (rw c.settle.ensures.number follow)))

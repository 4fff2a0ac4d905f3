use Rattle.std.proofs.Common.{◌∙◌, ap, subst, sym, Err, IsTrue}
use Rattle.fk_store.proofs.UnderWay.{handed_on}
use Rattle.fk_store.proofs.replaying.replay_all.Goals as goal

-- the file is as it was when the replay began
pub returns-in_err-replay_one-clause-damaged : goal.returns-in_err-replay_one-clause-damaged
returns-in_err-replay_one-clause-damaged g c = λ tells damage is.
    rw c.replaying.invariant.reads.same at
    (c.replay_one.ensures.damaged (subst IsTrue (sym c.replaying.invariant.reads.tells) tells) damage
    (c.in_err-replay_one.was ∙ ap Err (handed_on _ _ _ c.from_residual.ensures.1 is)))

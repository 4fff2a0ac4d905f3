use Rattle.std.proofs.Common.{arith}
use Rattle.std.proofs.lemmas.Bool.{false≢true}
use Rattle.fk_store.proofs.Leaving.{no_hello}
use Rattle.fk_store.proofs.Turns.{starved}
use Rattle.fk_store.proofs.turning.turn_at.Goals as goal

pub returns-in-Err-clause-turn : goal.returns-in-Err-clause-turn
returns-in-Err-clause-turn g c =
    rw c.ready.ensures.same
    (starved g.D.Disk.told g.D.Disk.fault_count g.D.Disk.moment g.D.Disk.images c.args.ask c.args.moment c.args.word
    c.args.shelf.now _ _ c.requires.moment (omega arith) c.requires.range c.requires.between
    (λ often on. false≢true (c.in-Err.ensures.bare (no_hello c.args.ask often))) c.requires.told c.requires.sound)

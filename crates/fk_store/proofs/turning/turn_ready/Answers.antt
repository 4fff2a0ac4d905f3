use Rattle.std.proofs.Common.{arith}
use Rattle.std.proofs.lemmas.Bool.{false≢true}
use Rattle.fk_store.proofs.Leaving.{often_told}
use Rattle.fk_store.proofs.Turns.{plan_ends, plan_fits, starved, turned}
use Rattle.fk_store.proofs.turning.turn_ready.Goals as goal

pub returns-in_default-clause-turn : goal.returns-in_default-clause-turn
returns-in_default-clause-turn g c =
    starved g.D.Disk.told g.D.Disk.fault_count g.D.Disk.moment g.D.Disk.images c.args.ask c.args.moment c.args.word
    c.args.shelf.now _ _ c.requires.moment (omega arith) c.requires.range c.requires.between
    (λ often on. false≢true (c.in_default.ensures.ready (often_told c.args.ask often) on
    (omega (arith, c.requires.room.two, c.clear.ensures.kept)))) c.requires.told c.requires.sound

pub carry_out-answer-requires-clause-fit : goal.carry_out-answer-requires-clause-fit
carry_out-answer-requires-clause-fit g c =
    plan_fits _ c.args.ask c.args.moment c.args.word _
    (record { are = c.in-Ok.ensures.moves; within = c.next.ensures.within; stays = c.in-Ok.ensures.stays })
    c.in-Ok.ensures.leads

pub carry_out-answer-requires-clause-list : goal.carry_out-answer-requires-clause-list
carry_out-answer-requires-clause-list g c =
    plan_ends _ c.args.ask c.args.moment c.args.word _ c.requires.between c.in-Ok.ensures.moves

pub returns-clause-turn : goal.returns-clause-turn
returns-clause-turn g c =
    rw c.acted.ensures.same
    (turned g.D.Disk.told g.D.Disk.fault_count g.D.Disk.moment g.D.Disk.images c.args.ask _ c.args.moment c.args.word
    c.carry_out-answer.result _ _ c.args.shelf.now _ _ _ _ _ _ _ c.requires.moment (omega arith) c.requires.range
    c.requires.between
    (record { are = c.in-Ok.ensures.moves; within = c.next.ensures.within; stays = c.in-Ok.ensures.stays })
    c.in-Ok.ensures.reply c.in-Ok.ensures.left c.acted.ensures.workers c.carry_out-answer.ensures.carried)

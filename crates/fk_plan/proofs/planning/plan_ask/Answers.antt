use Rattle.std.proofs.Common.{arith}
use Rattle.std.proofs.lemmas.Bool.{false≢true}
use Rattle.fk_model.specs.State.{with_workers}
use Rattle.fk_plan.proofs.Planned.{next_within, planned, room_stays}
use Rattle.fk_plan.proofs.planning.plan_ask.Goals as goal

pub act-requires-clause-next : goal.act-requires-clause-next
act-requires-clause-next c =
    next_within c.args.tables.now.kept c.args.moment c.args.word c.requires.kept c.requires.within

pub returns-in_err-reply-clause-ready : goal.returns-in_err-reply-clause-ready
returns-in_err-reply-clause-ready c = λ ack on two.
    let room = room_stays c.args.tables.now.kept c.args.moment c.args.word c.args.moves.now.spare
    c.bring_up.new.moves.spare c.bring_up.new.moves.items on c.in_ok-up.ensures.moves c.in_ok-up.ensures.room in
    absurd (false≢true (c.in_err-reply.ensures.ready ack (omega (arith, room, two))))

pub returns-in_err-close-clause-ready : goal.returns-in_err-close-clause-ready
returns-in_err-close-clause-ready c = λ ack on two.
    let room = room_stays c.args.tables.now.kept c.args.moment c.args.word c.args.moves.now.spare
    c.bring_up.new.moves.spare c.bring_up.new.moves.items on c.in_ok-up.ensures.moves c.in_ok-up.ensures.room in
    let one = c.in_ok-reply.ensures.one ack in
    absurd (false≢true (c.in_err-close.ensures.ready (omega (arith, room, two, one))))

pub returns-clause-ok : goal.returns-clause-ok
returns-clause-ok c =
    planned (with_workers c.args.tables.now.kept c.args.workers.now.workers) c.args.ask.now c.args.moment c.args.word c.in_ok-reply.reply
    c.bring_up.new.moves.items c.act.new.moves.items c.close.new.moves.items c.act.new.up.numbers
    c.in_ok-up.ensures.moves c.in_ok-reply.ensures.ok (λ state. c.in_ok-close.ensures.ok state)

use Rattle.std.proofs.Common.{refl}
use Rattle.std.proofs.lemmas.Result.{err_from_is_err_and}
use Rattle.fk_desk.specs.Keeping.{entry_of}
use Rattle.fk_conn.proofs.Replying.{answer_sent, starves_at_answer}
use Rattle.fk_conn.proofs.Turning.{made_in_form, turn_made}
use Rattle.fk_conn.proofs.lines.answer_ask.Goals as goal

pub answer-requires-clause-form : goal.answer-requires-clause-form
answer-requires-clause-form g c = made_in_form _ _ c.args.ask _ c.turn-answer.result c.turn-answer.ensures.step

pub returns-in_err-answer-clause-served : goal.returns-in_err-answer-clause-served
returns-in_err-answer-clause-served g c =
    let made = c.turn-answer.ensures in
    let told = g.K.Kept.last c.turn-answer.new.self in
    let p = err_from_is_err_and c.from_residual.result c.from_residual.ensures.1 in (
      entry_of 0 c.args.ask told c.turn-answer.result,
      turn_made _ _ c.args.ask told c.turn-answer.result made.step made.moment made.word made.before made.after
          made.cause made.doubt made.crash made.still made.sound,
      λ gate first input history was. rw (p.1, p.2)
          (starves_at_answer gate first input history _ _ c.args.session.now c.args.ask told c.turn-answer.result was
          refl),
    )

pub returns-clause-served : goal.returns-clause-served
returns-clause-served g c =
    let made = c.turn-answer.ensures in
    let told = g.K.Kept.last c.turn-answer.new.self in
    let put = c.in_ok-answer.ensures.ok in (
      entry_of 0 c.args.ask told c.turn-answer.result,
      turn_made _ _ c.args.ask told c.turn-answer.result made.step made.moment made.word made.before made.after
          made.cause made.doubt made.crash made.still made.sound,
      λ gate first input history was.
          answer_sent gate first input history _ _ c.args.session.now c.args.ask told c.turn-answer.result was
          c.send.result _ _ put c.send.ensures.ok c.send.ensures.sent c.send.ensures.err c.send.ensures.breaks,
    )

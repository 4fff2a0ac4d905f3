use Rattle.std.proofs.Common.{refl}
use Rattle.std.proofs.lemmas.Result.{err_from_is_err_and}
use Rattle.fk_conn.proofs.Hearing.{breaks, hears, takes_line_still}
use Rattle.fk_conn.proofs.Starving.{starves_at}
use Rattle.fk_conn.proofs.lines.hear.Goals as goal

pub returns-in_err-turn-clause-served : goal.returns-in_err-turn-clause-served
returns-in_err-turn-clause-served g c =
    let p = err_from_is_err_and c.from_residual.result c.from_residual.ensures.1 in
    λ gate first input history was. rw (p.1, p.2)
    (starves_at gate first _ history c.args.session.now c.next.new.self was c.in_err-turn.ensures.err)

pub returns-in_err-send-clause-served : goal.returns-in_err-send-clause-served
returns-in_err-send-clause-served g c =
    let p = err_from_is_err_and c.from_residual-in_err-send.result c.from_residual-in_err-send.ensures.1 in
    λ gate first input history was. rw (p.1, p.2, c.in_err-send.ensures.err)
    (breaks c.in_ok-turn.turn gate first input history _ _ c.args.session.now c.next.new.self was
    (c.in_ok-turn.ensures.ok was.done.able) c.in_err-send.ensures.breaks)

pub returns-clause-served : goal.returns-clause-served
returns-clause-served g c = λ gate first input history was.
    rw c.in_ok-send.ensures.sent
    (hears c.in_ok-turn.turn gate first input history _ _ c.args.session.now c.next.new.self was
    (c.in_ok-turn.ensures.ok was.done.able) c.in_ok-send.ensures.ok)

pub returns-clause-fewer : goal.returns-clause-fewer
returns-clause-fewer g c =
    rw c.in_ok-send.ensures.sent
    (takes_line_still c.in_ok-turn.turn c.args.session.now.talk c.next.new.self _ refl
    c.in_ok-turn.ensures.ok c.in_ok-turn.ensures.over)

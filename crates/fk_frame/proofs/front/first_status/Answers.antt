use Rattle.fk_frame.proofs.Found.{cut_status, first_status, no_room, status}
use Rattle.fk_frame.proofs.front.first_status.Goals as goal

pub returns-then-not-closed : goal.returns-then-not-closed
returns-then-not-closed c =
    let ended = rw c.if-not-closed.true at c.requires.ended in
    cut_status c.args.text.now c.args.behind.now c.requires.line ended

pub returns-in_err-text : goal.returns-in_err-text
returns-in_err-text c =
    let ended = rw c.if-not-closed.false at c.requires.ended in
    no_room _ _ c.from_residual.ensures.1 (_, _, status c.args.text.now c.args.behind.now c.requires.line ended)

pub returns : goal.returns
returns c =
    let ended = rw c.if-not-closed.false at c.requires.ended in
    first_status c.args.text.now c.args.behind.now _ c.requires.line ended c.in_ok-text.ensures

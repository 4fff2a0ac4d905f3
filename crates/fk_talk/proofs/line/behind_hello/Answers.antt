use Rattle.fk_talk.proofs.Behind.{somebody_ends, somebody_goes_on}
use Rattle.fk_talk.proofs.line.behind_hello.Goals as goal

pub returns-in-Ask-clause-does : goal.returns-in-Ask-clause-does
returns-in-Ask-clause-does c gate =
    somebody_goes_on gate _ _ _ c.staying.result (rw c.in-Ask.is at c.in_ok-ask.ensures.given) c.staying.ensures.item
    c.staying.ensures.standing

pub returns-in-End-clause-does : goal.returns-in-End-clause-does
returns-in-End-clause-does c gate =
    somebody_ends gate _ _ c.ending.result (rw c.in-End.is at c.in_ok-ask.ensures.given) c.ending.ensures.item
    c.ending.ensures.standing

pub returns-in-Wrong-clause-does : goal.returns-in-Wrong-clause-does
returns-in-Wrong-clause-does c gate =
    let staying = c.staying-in-Wrong in
    somebody_goes_on gate _ _ _ staying.result (rw c.in-Wrong.is at c.in_ok-ask.ensures.given) staying.ensures.item
    staying.ensures.standing

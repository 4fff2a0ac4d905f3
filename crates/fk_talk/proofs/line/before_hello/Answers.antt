use Rattle.std.proofs.Common.{◌∙◌, ap, Some}
use Rattle.fk_talk.proofs.Before.{nobody_ends, nobody_greeted, nobody_is_refused}
use Rattle.fk_talk.proofs.line.before_hello.Goals as goal

pub returns-in-End-clause-does : goal.returns-in-End-clause-does
returns-in-End-clause-does c =
    nobody_ends _ _ c.ending.result c.in-End.ensures c.ending.ensures.item c.ending.ensures.standing

pub returns-in_ok-read_hello-in-Hello-clause-does : goal.returns-in_ok-read_hello-in-Hello-clause-does
returns-in_ok-read_hello-in-Hello-clause-does c =
    let is = rw c.arguments_of.ensures at c.in_ok-read_hello-in-Hello.ensures.is in
    nobody_greeted _ _ _ c.greet.result c.in-Hello.ensures is c.greet.ensures.item c.greet.ensures.comes

pub returns-in_default-clause-does : goal.returns-in_default-clause-does
returns-in_default-clause-does c =
    let item = c.staying.ensures.item ∙ ap (λ one. Some one) c.refuse.ensures in
    nobody_is_refused _ _ c.command_in.result c.staying.result c.in_default.not-End c.in_default.not-Hello
    c.command_in.ensures item c.staying.ensures.standing

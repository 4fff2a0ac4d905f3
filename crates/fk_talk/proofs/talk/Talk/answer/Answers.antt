use Rattle.std.proofs.Common.{ap, ◌∙◌}
use Rattle.fk_talk.proofs.Talked.{answers_on}
use Rattle.fk_talk.proofs.talk.Talk.answer.Goals as goal

pub returns-in-Ok-clause-whole : goal.returns-in-Ok-clause-whole
returns-in-Ok-clause-whole c =
    let asked = ap (λ talk. talk.asked) c.self.view_is ∙ c.requires.asked in
    rw (← c.self.view_is, c.in-Ok.ensures.ok) (answers_on _ c.args.answer.now asked)

use Rattle.std.proofs.Common.{sym, ◌∙◌}
use Rattle.fk_json.specs.Tokens.{number_step}
use Rattle.fk_json.proofs.Passing.{passes_byte, passes_on}
use Rattle.fk_json.proofs.run.number_run.Goals as goal

pub parts-preserved : goal.parts-preserved
parts-preserved c =
    let led = sym c.number_step.ensures ∙ c.in-Some.is in
    passes_on number_step _ _ _ _ _ _ _
    (passes_on number_step _ _ _ _ _ _ _ c.parts.invariant (passes_byte number_step _ _ _ _ c.parts-test.true led))
    c.behind_digits-to-in-Some.ensures

use Rattle.std.proofs.Common.{Some, ap, refl, sym, ◌∙◌}
use Rattle.fk_json.specs.Tokens.{string_step}
use Rattle.fk_json.proofs.Passing.{passes_byte, passes_on}
use Rattle.fk_json.proofs.run.string_run.Goals as goal

pub parts-preserved : goal.parts-preserved
parts-preserved c =
    let led = sym c.string_step.ensures ∙ c.in-Some.is in
    passes_on string_step _ _ _ _ _ _ _
    (passes_on string_step _ _ _ _ _ _ _ c.parts.invariant (passes_byte string_step _ _ _ _ c.parts-test.true led))
    c.behind_part-run.ensures

pub returns-in-Some-Closed : goal.returns-in-Some-Closed
returns-in-Some-Closed c =
    let led = sym c.string_step.ensures ∙ c.in-Some-Closed.is ∙ ap Some c.in-Some-Closed.field-0-is in record {
      passes =
          passes_on string_step _ _ _ _ _ _ _ c.parts.invariant (passes_byte string_step _ _ _ _ c.parts-test.true led);
      ends = λ more. refl;
    }

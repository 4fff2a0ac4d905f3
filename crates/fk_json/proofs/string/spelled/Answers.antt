use Rattle.std.proofs.Common.{◌∷◌, ◌++◌, [], ◌∙◌, ap, flat_map}
use Rattle.fk_json.specs.String.{spelled_byte}
use Rattle.fk_json.proofs.Itself.{written_byte, written_on}
use Rattle.fk_json.proofs.string.spelled.Goals as goal

pub escapes-init : goal.escapes-init
escapes-init c =
    written_on c.push_bytes.new.self c.args.value.now c.push_run.new.out c.in_ok-rest.rest.now c.in_ok-rest.ensures.gains c.in_ok-rest.ensures.rest
    ∙ ap (λ x. x ++ flat_map spelled_byte c.args.value.now)
    (c.in_ok-push_bytes.ensures.ok ∙ ap (λ x. x ++ 34 ∷ []) c.in_ok-spelled.ensures)

pub escapes-preserved : goal.escapes-preserved
escapes-preserved c =
    written_on c.push_byte.new.out c.in-Some.after.now c.push_run-in-Some.new.out c.in_ok-rest-2.rest.now
    c.in_ok-rest-2.ensures.gains c.in_ok-rest-2.ensures.rest
    ∙ written_byte c.escapes.spelled c.escapes.rest.now c.in-Some.after.now c.push_byte.new.out c.in-Some.byte.now
    c.in-Some.ensures.cases.0 c.in_ok-push_byte.ensures ∙ c.escapes.invariant

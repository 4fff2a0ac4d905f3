use Rattle.std.proofs.Common.{◌≡◌, ◌∙◌}
use Rattle.std.proofs.lemmas.Bool.{eq-eqb, eqb-true}
use Rattle.fk_job.proofs.OneValue.{array_bracket, bracket_array}
use Rattle.fk_job.proofs.values.is_array.Goals as goal

pub returns-in-Some : goal.returns-in-Some
returns-in-Some c = (
  λ is. bracket_array c.args.value.now c.in-Some.byte.now c.requires c.in-Some.ensures.value
      (eqb-true c.in-Some.byte.now 91 is),
  λ array.
      let e = c.in-Some.ensures.value ∙ array_bracket c.args.value.now array in
      let same : c.in-Some.byte.now ≡ 91 = cc in
      eq-eqb c.in-Some.byte.now 91 same,
)

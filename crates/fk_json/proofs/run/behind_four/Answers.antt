use Rattle.fk_json.proofs.Passing.{passes_four}
use Rattle.fk_json.proofs.run.behind_four.Goals as goal

pub returns-then-are_four_digits : goal.returns-then-are_four_digits
returns-then-are_four_digits c =
    passes_four c.args.text.now c.args.from c.if-are_four_digits.ensures

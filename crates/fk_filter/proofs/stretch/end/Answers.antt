use Rattle.std.proofs.Common.{arith}
use Rattle.std.proofs.lemmas.List.{nil_from_length}
use Rattle.fk_filter.specs.Match.{Match}
use Rattle.fk_filter.proofs.stretch.end.Goals as goal

pub returns-then-is_empty-clause-is : goal.returns-then-is_empty-clause-is
unfolding Match
returns-then-is_empty-clause-is c =
    nil_from_length c.args.left.text.now (grind (arith, c.is_empty.ensures, c.if-is_empty.true))

pub returns-else-is_empty-clause-is : goal.returns-else-is_empty-clause-is
unfolding Match
returns-else-is_empty-clause-is c = λ is. grind (arith, is, c.is_empty.ensures, c.if-is_empty.false)

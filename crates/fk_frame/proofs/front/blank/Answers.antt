use Rattle.std.proofs.Common.{sym, ◌∙◌}
use Rattle.std.proofs.lemmas.Bool.{eqb-true}
use Rattle.fk_frame.proofs.Fronted.{cut_nothing}
use Rattle.fk_frame.proofs.front.blank.Goals as goal

pub returns-then-is_empty : goal.returns-then-is_empty
returns-then-is_empty c = cut_nothing c.args.behind.now (eqb-true _ _ (sym c.is_empty.ensures ∙ c.if-is_empty.true))

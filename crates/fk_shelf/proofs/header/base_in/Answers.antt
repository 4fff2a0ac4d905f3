use Rattle.std.proofs.Common.{refl}
use Rattle.fk_shelf.proofs.Numbers.{no_base}
use Rattle.fk_shelf.proofs.header.base_in.Goals as goal

pub returns-then-base-gt-GREATEST_NUMBER-clause-err : goal.returns-then-base-gt-GREATEST_NUMBER-clause-err
returns-then-base-gt-GREATEST_NUMBER-clause-err c =
    (refl, no_base _ _ c.in_ok-base.ensures.ok c.if-base-gt-GREATEST_NUMBER.true)

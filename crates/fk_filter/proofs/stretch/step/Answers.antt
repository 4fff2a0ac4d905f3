use Rattle.fk_model.specs.Glob.{parts_of}
use Rattle.fk_filter.proofs.stretch.step.Goals as goal

pub returns-in-None-clause-is : goal.returns-in-None-clause-is
unfolding parts_of
returns-in-None-clause-is c = rw c.in-None.ensures c.end.ensures.is

use Rattle.fk_filter.proofs.Ends.{at_once, to_run}
use Rattle.fk_filter.proofs.Says.{says_so}
use Rattle.fk_filter.proofs.globbing.seek.Goals as goal

pub returns-in-Run-clause-is : goal.returns-in-Run-clause-is
returns-in-Run-clause-is c = to_run _ _ _ _ c.in-Run.ensures.is

pub returns-in-Whole-clause-is : goal.returns-in-Whole-clause-is
returns-in-Whole-clause-is c = says_so _ (at_once _ _ c.in-Whole.ensures.is)

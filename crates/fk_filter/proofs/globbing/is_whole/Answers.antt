use Rattle.fk_filter.proofs.Ends.{ends_nowhere}
use Rattle.fk_filter.proofs.Says.{says_not}
use Rattle.fk_filter.proofs.globbing.is_whole.Goals as goal

pub returns-in-Elsewhere : goal.returns-in-Elsewhere
returns-in-Elsewhere c = says_not _ (ends_nowhere _ _ _ c.in-Elsewhere.is c.stretch.ensures.is)

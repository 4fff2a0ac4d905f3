use Rattle.fk_filter.proofs.Bytes.{first_and_behind}
use Rattle.fk_filter.proofs.Ends.{no_end, only_behind}
use Rattle.fk_filter.proofs.Says.{says_not}
use Rattle.fk_filter.proofs.globbing.later.Goals as goal

pub returns-in-empty-clause-is : goal.returns-in-empty-clause-is
returns-in-empty-clause-is c =
    says_not _ (no_end _ c.args.left.text.now c.in-empty.len_below c.requires)

pub returns-in-len1-up-clause-is : goal.returns-in-len1-up-clause-is
returns-in-len1-up-clause-is c =
    only_behind _ c.args.left.text.now _ _ (first_and_behind c.args.left.text.now c.in-len1-up.len_at_least) c.requires

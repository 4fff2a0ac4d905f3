use Rattle.std.proofs.Common.{append-nil, sym}
use Rattle.fk_lists.proofs.Lookups.{listed}
use Rattle.fk_lists.proofs.lists.Lists.listed.Goals as goal

-- the name has no list
pub returns-in-None-clause-ok : goal.returns-in-None-clause-ok
returns-in-None-clause-ok c =
    rw (← c.self.view_is, listed _ c.self.invariant.by_name c.args.name.now, ← c.in-None.ensures.value)
    (sym (append-nil c.args.out.now.items))

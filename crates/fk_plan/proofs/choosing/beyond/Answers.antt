use Rattle.fk_plan.proofs.Entries.{all_come}
use Rattle.fk_plan.proofs.choosing.beyond.Goals as goal

pub returns : goal.returns
returns c =
    rw (← all_come c.args.target c.args.tables.now.kept c.requires, ← c.in_ok-all.ensures) c.later.ensures

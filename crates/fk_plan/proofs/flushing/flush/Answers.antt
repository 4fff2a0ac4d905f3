use Rattle.fk_plan.proofs.Flushed.{flushed}
use Rattle.fk_plan.proofs.flushing.flush.Goals as goal

pub returns-clause-ok : goal.returns-clause-ok
returns-clause-ok c = λ up moment word has.
    rw c.ok.ensures
    (flushed c.args.tables.now.kept up moment word c.args.moves.now.items c.drop_all.new.moves.items
    c.args.numbers.now has c.in_ok-drop_all.ensures.ok)

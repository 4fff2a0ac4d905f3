use Rattle.std.proofs.Common.{refl}
use Rattle.fk_command.proofs.Batches.{keeps_element, bars_element}
use Rattle.fk_command.proofs.batch.read_element.Goals as goal

pub returns-in-Ok : goal.returns-in-Ok
returns-in-Ok c =
    keeps_element c.push.result c.args.text.now c.in-Ok.job _ _ (rw c.in-Ok.is at c.in_ok-job.ensures)
    c.push.ensures.ok refl

pub returns-in-Err : goal.returns-in-Err
returns-in-Err c =
    bars_element c.bar.result c.args.text.now c.in-Err.fault _ _ (rw c.in-Err.is at c.in_ok-job.ensures)
    c.bar.ensures refl

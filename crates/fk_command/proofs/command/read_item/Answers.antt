use Rattle.std.proofs.Common.{refl}
use Rattle.fk_command.proofs.command.read_item.Goals as goal

pub returns-in_ok-push_batch-in-Batch-clause-given :
    goal.returns-in_ok-push_batch-in-Batch-clause-given
returns-in_ok-push_batch-in-Batch-clause-given c =
    rw c.in-Batch.is (c.in_ok-push_batch-in-Batch.field-0, c.in_ok-push_batch-in-Batch.ensures.item, refl)

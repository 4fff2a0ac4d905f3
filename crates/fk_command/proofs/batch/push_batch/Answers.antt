use Rattle.fk_command.proofs.Batches.{asks_for_batch, refusals_without_float}
use Rattle.fk_command.proofs.batch.push_batch.Goals as goal

pub batch_item-requires : goal.batch_item-requires
batch_item-requires c =
    let reads = rw c.as_slice.ensures at c.in_ok-read_elements-in-Ok.ensures in
    refusals_without_float c.args.arguments.now c.in-Ok.spans c.in_ok-read_elements-in-Ok.field-0 reads

pub returns-in_ok-read_elements-in-Ok-clause-item : goal.returns-in_ok-read_elements-in-Ok-clause-item
returns-in_ok-read_elements-in-Ok-clause-item c =
    let reads = rw c.as_slice.ensures at c.in_ok-read_elements-in-Ok.ensures in
    asks_for_batch c.args.arguments.now c.in-Ok.spans c.in_ok-read_elements-in-Ok.field-0 _
    c.in-Ok.ensures.ok reads c.batch_item.ensures.item

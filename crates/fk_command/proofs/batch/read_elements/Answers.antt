use Rattle.fk_command.proofs.Batches.{reads_on, stands_at}
use Rattle.fk_command.proofs.batch.read_elements.Goals as goal

pub piece_at-requires : goal.piece_at-requires
piece_at-requires c = stands_at _ c.args.spans.now _ c.requires c.loop-span-test.true

pub loop-span-preserved : goal.loop-span-preserved
loop-span-preserved c =
    reads_on _ c.args.spans.now _ _ _ c.loop-span-test.true c.loop-span.invariant
    (rw c.piece_at.ensures at c.in_ok-read_element.ensures)

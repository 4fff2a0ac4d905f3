-- At each moment since, an image is one of the start to which this was done.
use Rattle.fk_disk.proofs.MadeCalls.{cut_elapses}
use Rattle.fk_disk.proofs.memory_disk.MemoryDisk.shorten.Goals as goal

pub returns-clause-since : goal.returns-clause-since
returns-clause-since c =
    cut_elapses _ _ _ _ _ _ c.cut.ensures.held c.pass.ensures c.cut.ensures.trace

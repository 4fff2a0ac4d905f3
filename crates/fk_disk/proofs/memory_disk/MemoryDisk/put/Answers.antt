-- At each moment since, an image is one of the start to which this was done.
use Rattle.fk_disk.proofs.MadeCalls.{write_elapses}
use Rattle.fk_disk.proofs.memory_disk.MemoryDisk.put.Goals as goal

pub returns-clause-since : goal.returns-clause-since
returns-clause-since c =
    write_elapses _ _ _ _ _ _ _ c.write.ensures.held c.pass.ensures c.write.ensures.trace

use Rattle.fk_lives.proofs.ReservedOnDisk.{stand_on_disk, over_on_disk, free_on_disk, alone_on_disk}
use Rattle.fk_lives.proofs.laws.lives.reservation_ends.Goals as goal

pub returns-clause-stands : goal.returns-clause-stands
returns-clause-stands c = stand_on_disk

pub returns-clause-over : goal.returns-clause-over
returns-clause-over c = over_on_disk

pub returns-clause-free : goal.returns-clause-free
returns-clause-free c = free_on_disk

pub returns-clause-alone : goal.returns-clause-alone
returns-clause-alone c = alone_on_disk

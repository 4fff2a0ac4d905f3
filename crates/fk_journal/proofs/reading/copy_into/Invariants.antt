use Rattle.std.proofs.Common.{◌≡◌, ◌-◌, ◌≤◌, length, take, drop, IsTrue}
use Rattle.fk_journal.specs.Reading.{OnlyReads}
use Rattle.fk_journal.proofs.reading.copy_into.Given as goal

-- what was copied so far, by readings alone
abbrev pub invariant-loop-copied : goal.invariant-loop-copied
invariant-loop-copied g l = record {
  within : l.copied ≤ l.count;
  items : IsTrue (g.D.Disk.told l.initial.disk) →
      l.into.items ≡ take l.copied (drop l.at (g.D.Disk.content l.initial.disk));
  reached : length l.into.items ≡ l.copied;
  reads : OnlyReads (g.D.Disk.told l.initial.disk) (g.D.Disk.told l.disk)
      (g.D.Disk.content l.initial.disk) (g.D.Disk.content l.disk)
      (g.D.Disk.moment l.initial.disk) (g.D.Disk.moment l.disk)
      (g.D.Disk.images l.initial.disk) (g.D.Disk.images l.disk);
  counted : g.D.Disk.fault_count l.initial.disk ≤ g.D.Disk.fault_count l.disk;
}

abbrev pub decreases-loop-copied : goal.decreases-loop-copied
decreases-loop-copied g l = l.count - l.copied

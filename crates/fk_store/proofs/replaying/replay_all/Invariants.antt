use Rattle.std.proofs.Common.{◌≡◌, ◌≤◌, false, IsTrue}
use Rattle.fk_journal.specs.Reading.{OnlyReads}
use Rattle.fk_store.specs.Replaying.{HasCome, left_of}
use Rattle.fk_store.proofs.replaying.replay_all.Given as goal

-- so far the replay has come, by readings alone
abbrev pub invariant-replaying : goal.invariant-replaying
invariant-replaying g l = record {
  begun : l.shelf.live.done ≡ false;
  come : HasCome (IsTrue (g.D.Disk.told l.shelf.live.disk)) (g.D.Disk.content l.shelf.live.disk)
      l.tables.kept l.shelf;
  other : l.shelf.other ≡ l.fn.shelf.other;
  reads : OnlyReads (g.D.Disk.told l.fn.shelf.live.disk) (g.D.Disk.told l.shelf.live.disk)
      (g.D.Disk.content l.fn.shelf.live.disk) (g.D.Disk.content l.shelf.live.disk)
      (g.D.Disk.moment l.fn.shelf.live.disk) (g.D.Disk.moment l.shelf.live.disk)
      (g.D.Disk.images l.fn.shelf.live.disk) (g.D.Disk.images l.shelf.live.disk);
  counted : g.D.Disk.fault_count l.fn.shelf.live.disk ≤ g.D.Disk.fault_count l.shelf.live.disk;
}

-- less is left with each list
abbrev pub decreases-replaying : goal.decreases-replaying
decreases-replaying g l = left_of l.shelf

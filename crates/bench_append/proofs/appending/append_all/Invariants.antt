use Rattle.std.proofs.Common.{◌≡◌, None, IsTrue}
use Rattle.fk_journal.specs.Passing.{EachImage}
use Rattle.fk_journal.specs.Standing.{IsAtRest}
use Rattle.bench_append.proofs.appending.append_all.Given as goal

-- the journal stands as it does between two appends
abbrev pub invariant-append : goal.invariant-append
invariant-append g l = record {
  done : IsTrue l.journal.done;
  free : l.journal.owed ≡ None;
  stands : EachImage (g.D.Disk.images l.journal.disk (g.D.Disk.moment l.journal.disk))
      (IsAtRest l.journal.front l.journal.owed);
}

use Rattle.std.proofs.Common.{◌≡◌, false, take}
use Rattle.std.specs.List.{list_any}
use Rattle.fk_job.specs.Members.{is_named}
use Rattle.fk_job.proofs.counting.counts.Given as goal

-- no member so far has the name
abbrev pub invariant-loop-other : goal.invariant-loop-other
invariant-loop-other l = list_any (is_named l.name) (take l.other-index l.later) ≡ false

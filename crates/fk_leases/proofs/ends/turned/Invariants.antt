use Rattle.std.proofs.Common.{◌≡◌, map, take}
use Rattle.fk_leases.specs.Ends.{end_of}
use Rattle.fk_leases.proofs.ends.turned.Given as goal

-- the leases so far
abbrev pub invariant-turning : goal.invariant-turning
invariant-turning l = l.leases.items ≡ map end_of (take l.at l.ends.items)

use Rattle.std.proofs.Common.{◌≡◌, ◌≤◌, length, take}
use Rattle.fk_disk.specs.DiskState.{torn}
use Rattle.fk_disk.proofs.torn.torn.Given as goal

-- the bytes so far
abbrev pub invariant-marking : goal.invariant-marking
invariant-marking l =
    (l.text ≡ take l.place (torn l.content l.marks)) × (l.place ≤ length l.content)

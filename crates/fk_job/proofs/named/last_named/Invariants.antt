use Rattle.std.proofs.Common.{◌≡◌, None, find, reverse, drop, ◌≤◌, length}
use Rattle.fk_job.specs.Members.{is_named}
use Rattle.fk_job.proofs.named.last_named.Given as goal

-- no member from the place on has the name
abbrev pub invariant-members : goal.invariant-members
invariant-members l =
    (l.at ≤ length l.members) × (find (is_named l.name) (reverse (drop l.at l.members)) ≡ None)

abbrev pub decreases-members : goal.decreases-members
decreases-members l = l.at

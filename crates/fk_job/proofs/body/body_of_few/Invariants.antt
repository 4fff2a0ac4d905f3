use Rattle.std.proofs.Common.{◌-◌, length}
use Rattle.fk_job.proofs.Joined.{Written}
use Rattle.fk_job.proofs.body.body_of_few.Given as goal

abbrev pub invariant-members : goal.invariant-members
invariant-members l = Written l.text l.members l.at l.body

abbrev pub decreases-members : goal.decreases-members
decreases-members l = length l.members - l.at

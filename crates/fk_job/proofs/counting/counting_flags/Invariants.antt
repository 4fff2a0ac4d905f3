use Rattle.fk_job.proofs.Seen.{Seen}
use Rattle.fk_job.proofs.counting.counting_flags.Given as goal

abbrev pub invariant-members : goal.invariant-members
invariant-members l = Seen l.members l.at l.names l.flags.items

abbrev pub decreases-members : goal.decreases-members
decreases-members l = l.at

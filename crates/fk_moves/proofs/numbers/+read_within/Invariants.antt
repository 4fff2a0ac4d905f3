use Rattle.std.proofs.Common.{length}
use Rattle.fk_moves.proofs.numbers.+read_within.Given as goal

-- how many bytes of the bounds are left
abbrev pub decreases-read_within : goal.decreases-read_within
decreases-read_within l = length l.least.now

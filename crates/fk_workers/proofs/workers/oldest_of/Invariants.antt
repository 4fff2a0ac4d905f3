use Rattle.std.proofs.Common.{◌≡◌}
use Rattle.fk_workers.proofs.Silence.{floor}
use Rattle.fk_workers.proofs.workers.oldest_of.Given as goal

-- the least of what came and of those that are left is that of all
abbrev pub invariant-looking : goal.invariant-looking
invariant-looking l = floor l.oldest l.heard-iterator ≡ floor l.initial.oldest l.initial.heard-iterator

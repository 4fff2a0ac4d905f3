use Rattle.std.proofs.Common.{◌+◌}
use Rattle.bench_timed.specs.Tickets.{AreBelow}
use Rattle.bench_timed.proofs.tree.count.Given as goal

-- each ticket is below the next one
abbrev pub invariant-fill : goal.invariant-fill
invariant-fill g l = AreBelow l.ticket l.timed.items

abbrev pub invariant-turn : goal.invariant-turn
invariant-turn g l = AreBelow (l.size + l.oldest) l.timed.items

use Rattle.std.proofs.Common.{◌-◌}
use Rattle.fk_rows.specs.Spots.{IsBetween}
use Rattle.fk_rows.proofs.finding.chunk_of.Given as goal

-- the chunk is among those of the span
abbrev pub invariant-halving : goal.invariant-halving
invariant-halving l = IsBetween l.chunks.items l.ticket l.span

abbrev pub decreases-halving : goal.decreases-halving
decreases-halving l = l.span.high - l.span.low

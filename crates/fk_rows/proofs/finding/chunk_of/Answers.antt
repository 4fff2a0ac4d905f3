use Rattle.std.proofs.Common.{arith}
use Rattle.fk_rows.proofs.Halving.{between_one}
use Rattle.fk_rows.proofs.finding.chunk_of.Goals as goal

pub returns : goal.returns
returns c = between_one c.args.chunks.now.items c.args.ticket c.halving.span c.halving.invariant (omega (arith, c.halving-test.false))

use Rattle.std.proofs.Common.{arith, ◌∙◌, sym, ◌+◌, ◌-◌, ◌/◌}
use Rattle.fk_rows.proofs.Halving.{halved_above, halved_below}
use Rattle.fk_rows.proofs.finding.halved.Goals as goal

pub returns-then-begins_above-clause-between : goal.returns-then-begins_above-clause-between
returns-then-begins_above-clause-between c =
    halved_above c.args.chunks.now.items c.args.ticket (c.args.span.low + (c.args.span.high - c.args.span.low) / 2) c.args.span c.requires.rising c.requires.between
    (omega (arith, c.requires.many)) (omega (arith, c.requires.many)) (sym c.begins_above.ensures ∙ c.if-begins_above.true)

pub returns-clause-between : goal.returns-clause-between
returns-clause-between c =
    halved_below c.args.chunks.now.items c.args.ticket (c.args.span.low + (c.args.span.high - c.args.span.low) / 2) c.args.span c.requires.rising c.requires.filled c.requires.between
    (omega (arith, c.requires.many)) (omega (arith, c.requires.many)) (sym c.begins_above.ensures ∙ c.if-begins_above.false)

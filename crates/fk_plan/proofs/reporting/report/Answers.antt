use Rattle.fk_plan.proofs.Reported.{none_reported, one_reported, row_held}
use Rattle.fk_plan.proofs.reporting.report.Goals as goal

pub returns-in_default-clause-ok : goal.returns-in_default-clause-ok
returns-in_default-clause-ok c = λ workers has.
    rw c.unknown_job.ensures
    (none_reported c.args.tables.now.kept workers c.args.jid.now c.args.reason c.args.moment c.args.word
    c.args.moves.now.items c.args.numbers.now c.requires.kept c.requires.moment c.in_default.ensures has)

-- the row of the ticket is there
pub returns-in_default-row-clause-ok : goal.returns-in_default-row-clause-ok
returns-in_default-row-clause-ok c =
    absurd (row_held c.args.tables.now.kept c.args.jid.now c.args.moment c.in-Some.ticket c.requires.kept
    c.in-Some.ensures c.in_default-row.ensures)

pub returns-clause-ok : goal.returns-clause-ok
returns-clause-ok c = λ workers has.
    rw (
      c.ok.ensures,
      c.in_ok-push.ensures.ok,
      c.in_ok-fail_row.ensures,
      c.saturating_add-numbers.ensures,
      c.saturating_add-numbers-2.ensures,
    )
    (one_reported c.args.tables.now.kept workers c.args.jid.now c.args.reason c.args.moment c.args.word
    c.in-Some.ticket c.in-Some-row.row.now c.args.moves.now.items c.args.numbers.now c.requires.kept
    c.requires.moment c.in-Some.ensures c.in-Some-row.ensures has)

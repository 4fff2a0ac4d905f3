use Rattle.fk_plan.proofs.Fetched.{none_fetched, one_fetched, row_has_bound, row_stands, stamp_has_moments}
use Rattle.fk_plan.proofs.fetching.fetch.Goals as goal

pub returns-in_default-clause-ok : goal.returns-in_default-clause-ok
returns-in_default-clause-ok c = λ word workers numbers not has.
    none_fetched c.args.tables.now.kept workers c.args.wid c.args.queues.now c.args.moment word
    c.args.moves.now.items numbers not (c.in_default.ensures word) has

-- the row of the first ticket is there
pub returns-in_default-row-clause-ok : goal.returns-in_default-row-clause-ok
returns-in_default-row-clause-ok c = λ word workers numbers not has.
    absurd (row_stands c.args.tables.now.kept c.args.queues.now c.args.moment word c.in-Some.ticket
    c.requires.kept (c.in-Some.ensures word) c.in_default-row.ensures)

pub write_job-requires : goal.write_job-requires
write_job-requires c =
    rw c.in_ok-stamp.ensures
    (stamp_has_moments c.args.tables.now.kept c.args.moment c.in-Some.ticket c.in-Some-row.row.now
    c.requires.kept c.requires.moment c.in-Some-row.ensures)

pub hand_out-requires-clause-seconds : goal.hand_out-requires-clause-seconds
hand_out-requires-clause-seconds c =
    row_has_bound c.args.tables.now.kept c.in-Some.ticket c.in-Some-row.row.now c.requires.kept
    c.in-Some-row.ensures

pub returns-clause-ok : goal.returns-clause-ok
returns-clause-ok c = λ word workers numbers not has.
    rw (c.in_ok-text.ensures, c.in_ok-push.ensures.ok, c.hand_out.ensures, c.in_ok-stamp.ensures)
    (one_fetched c.args.tables.now.kept workers c.args.wid c.args.queues.now c.args.moment word c.in-Some.ticket
    c.in-Some-row.row.now c.args.moves.now.items numbers not c.requires.kept (c.in-Some.ensures word)
    c.in-Some-row.ensures has)

use Rattle.fk_frame.proofs.Fronted.{line_within, bad_line, inner_line}
use Rattle.fk_frame.proofs.front.first_reply.Goals as goal

pub split_at-requires : goal.split_at-requires
split_at-requires c = line_within _ _ c.requires

pub returns-in_err-closed : goal.returns-in_err-closed
returns-in_err-closed c =
    bad_line c.args.stream.now c.split_at.result.1.now c.args.end _ _ c.requires c.split_at.ensures.back
    c.in_err-closed.ensures c.from_residual.ensures.1

pub first_status-requires-clause-line : goal.first_status-requires-clause-line
first_status-requires-clause-line c = inner_line _ _ _ c.requires c.split_at.ensures.front

pub first_error-requires-clause-line : goal.first_error-requires-clause-line
first_error-requires-clause-line c = inner_line _ _ _ c.requires c.split_at.ensures.front

pub first_bulk-requires-clause-line : goal.first_bulk-requires-clause-line
first_bulk-requires-clause-line c = inner_line _ _ _ c.requires c.split_at.ensures.front

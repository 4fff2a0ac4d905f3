use Rattle.std.proofs.Common.{◌∙◌}
use Rattle.fk_frame.proofs.Found.{cut_short, cut_end, first_bulk, no_room, bulk}
use Rattle.fk_frame.proofs.Unread.{fault_found, bad_body}
use Rattle.fk_frame.proofs.front.sized_bulk.Goals as goal

pub returns-then-body-count : goal.returns-then-body-count
returns-then-body-count c = cut_short c.args.count c.args.body.now c.requires c.if-body-count.true

pub returns-in_err-is_line_end : goal.returns-in_err-is_line_end
returns-in_err-is_line_end c =
    fault_found _ c.split_at.result.1.now _ _ c.in_err-is_line_end.ensures c.from_residual.ensures.1
    (λ bad. bad_body c.args.count c.args.body.now c.requires c.if-body-count.false (rw c.split_at.ensures.back at bad))

pub returns-then-not-branch : goal.returns-then-not-branch
returns-then-not-branch c =
    let ended = rw (c.if-not-branch.true, c.split_at.ensures.back) at c.in_ok-is_line_end.ensures in
    cut_end c.args.count c.args.body.now c.requires c.if-body-count.false ended

pub returns-in_err-text : goal.returns-in_err-text
returns-in_err-text c =
    let ended = rw (c.if-not-branch.false, c.split_at.ensures.back) at c.in_ok-is_line_end.ensures in
    no_room _ _ c.from_residual-in_err-text.ensures.1 (_, _, bulk c.args.count c.args.body.now c.requires c.if-body-count.false ended)

pub returns : goal.returns
returns c =
    let ended = rw (c.if-not-branch.false, c.split_at.ensures.back) at c.in_ok-is_line_end.ensures in
    let text = c.in_ok-text.ensures ∙ c.split_at.ensures.front in
    rw c.split_at.ensures.back (first_bulk c.args.count c.args.body.now _ c.requires c.if-body-count.false ended text)

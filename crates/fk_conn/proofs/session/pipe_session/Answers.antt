use Rattle.std.proofs.Common.{◌++◌, [], ap}
use Rattle.fk_conn.proofs.Breaks.{not_begun}
use Rattle.fk_conn.proofs.Ends.{asks_nothing, begun}
use Rattle.fk_conn.proofs.Turning.{turned_both, turned_nothing}
use Rattle.fk_conn.proofs.session.pipe_session.Goals as goal

pub returns-in-Err : goal.returns-in-Err
returns-in-Err g c = (
  [],
  turned_nothing _,
  rw c.in-Err.ensures.err
      (not_begun c.args.talk.gate _ _ _ (rw (ap (λ t. t.out) c.requires) at c.in-Err.ensures.breaks)),
)

pub pieces-init : goal.pieces-init
pieces-init g c = record {
  asked = asks_nothing c.args.talk.gate c.args.talk c.send.new.talk c.requires c.in_default.ensures.sent;
  served = (
    [],
    turned_nothing _,
    begun c.args.talk.gate _ _ _ c.args.talk c.send.new.talk c.requires c.in_default.ensures.ok
        c.in_default.ensures.sent,
  );
}

pub returns-in-Err-serve_piece : goal.returns-in-Err-serve_piece
returns-in-Err-serve_piece g c =
    let (history, turned, was) = c.pieces.invariant.served in
    let (made, more, served) = c.in-Err-serve_piece.ensures.served in
    (history ++ made, turned_both _ _ _ history made turned more, served c.args.talk.gate _ history was)

pub pieces-preserved : goal.pieces-preserved
pieces-preserved g c =
    let (history, turned, was) = c.pieces.invariant.served in
    let (made, more, served) = c.in_default-serve_piece.ensures.served in
    record {
      asked = c.in_default-serve_piece.ensures.asked;
      served = (history ++ made, turned_both _ _ _ history made turned more, served c.args.talk.gate _ history was);
    }

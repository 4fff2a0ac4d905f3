use Rattle.std.proofs.Common.{[], take, arith, refl, ap, Ok}
use Rattle.std.proofs.lemmas.List.{append-nil, length-take}
use Rattle.std.proofs.lemmas.Result.{err_from_is_err_and}
use Rattle.fk_conn.proofs.Ends.{ends_spent, ends_at_read, ends_at_end}
use Rattle.fk_conn.proofs.Starving.{reads_on, starves_at_feed}
use Rattle.fk_conn.proofs.Turning.{turned_nothing}
use Rattle.fk_conn.proofs.session.serve_piece.Goals as goal

pub returns-then-session-ge-TAKEN_MAX-clause-served : goal.returns-then-session-ge-TAKEN_MAX-clause-served
returns-then-session-ge-TAKEN_MAX-clause-served g c = (
  [],
  turned_nothing _,
  λ gate first history was. rw append-nil (ends_spent gate first _ history _ c.if-session-ge-TAKEN_MAX.true was),
)

pub returns-in_err-count-clause-served : goal.returns-in_err-count-clause-served
returns-in_err-count-clause-served g c =
    let p = err_from_is_err_and c.from_residual.result c.from_residual.ensures.1 in
    let failed = c.in_err-count.ensures.err in (
      [],
      turned_nothing _,
      λ gate first history was. rw (p.1, p.2, failed.0, append-nil)
          (ends_at_read gate first _ _ history _ (omega arith) was c.in_err-count.ensures.same
          c.in_err-count.ensures.again failed.1 refl),
    )

pub returns-then-count-eq0-clause-served : goal.returns-then-count-eq0-clause-served
returns-then-count-eq0-clause-served g c =
    let took = rw c.if-count-eq0.true at c.in_ok-count.ensures.took in
    let given = rw c.if-count-eq0.true at c.in_ok-count.ensures.last in (
      [],
      turned_nothing _,
      λ gate first history was. rw append-nil
          (ends_at_end gate first _ _ history _ (omega arith) was took given
          (c.in_ok-count.ensures.end (ap Ok c.if-count-eq0.true)) c.in_ok-count.ensures.stays refl),
    )

pub returns-in_err-take_in-clause-served : goal.returns-in_err-take_in-clause-served
returns-in_err-take_in-clause-served g c =
    let p = err_from_is_err_and c.from_residual-in_err-take_in.result c.from_residual-in_err-take_in.ensures.1 in
    let count = length-take c.in_ok-count.count c.read_piece.new.piece in (
      [],
      turned_nothing _,
      λ gate first history was. rw (p.1, p.2, c.in_err-take_in.ensures.err, append-nil)
          (starves_at_feed gate first history _ _ _ c.args.session.now
          (take c.in_ok-count.count c.read_piece.new.piece)
          was c.in_ok-count.ensures.took c.in_ok-count.ensures.last c.in_ok-count.ensures.stays
          (omega (arith, count, c.in_ok-count.ensures.count.0)) (omega (arith, count, c.in_ok-count.ensures.count.0))
          (omega (arith, count, c.in_ok-count.ensures.count.1))),
    )

pub returns-clause-served : goal.returns-clause-served
returns-clause-served g c =
    let count = length-take c.in_ok-count.count c.read_piece.new.piece in
    let (made, turned, served) = c.serve_lines.ensures.served in (
      made,
      turned,
      λ gate first history was. served gate first _ history (rw c.in_ok-take_in.ensures.ok
          (reads_on gate first history _ _ _ c.args.session.now (take c.in_ok-count.count c.read_piece.new.piece)
          was c.in_ok-count.ensures.took c.in_ok-count.ensures.last c.in_ok-count.ensures.stays
          (omega (arith, count, c.in_ok-count.ensures.count.0)) (omega (arith, count, c.in_ok-count.ensures.count.0))
          (omega (arith, count, c.in_ok-count.ensures.count.1)))),
    )

use Rattle.std.proofs.Common.{arith}
use Rattle.std.proofs.lemmas.Result.{err_from_is_err_and}
use Rattle.fk_moves.specs.Fields.{times}
use Rattle.fk_moves.specs.Parts.{text}
use Rattle.fk_moves.proofs.Repeated.{begins, goes_on, ends, is_done}
use Rattle.fk_moves.proofs.names.read_so_many.Goals as goal

pub loop-init : goal.loop-init
loop-init c = rw c.new-texts.ensures (begins text c.args.count _ c.args.bytes.now (omega arith))

pub loop-preserved : goal.loop-preserved
loop-preserved c =
    rw c.in_ok-push.ensures.ok (goes_on text c.loop.texts c.args.count c.loop.counter c.loop.rest.now c.in_ok-text.text
    c.in_ok-text.behind.now ((times text c.args.count).read c.args.bytes.now) c.loop-test.true c.in_ok-text.ensures c.loop.invariant)

pub returns-in_err-text : goal.returns-in_err-text
returns-in_err-text c =
    let p = err_from_is_err_and c.from_residual.result c.from_residual.ensures.1 in
    rw (p.1, p.2) (ends c.in_err-text.field-0.0 text c.loop.texts c.args.count c.loop.counter c.loop.rest.now
    ((times text c.args.count).read c.args.bytes.now) c.loop-test.true c.in_err-text.ensures c.loop.invariant)

pub returns : goal.returns
returns c =
    is_done text c.loop.texts c.args.count c.loop.counter c.loop.rest.now
    ((times text c.args.count).read c.args.bytes.now) c.loop-test.false c.loop.invariant

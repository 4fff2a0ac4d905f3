use Rattle.std.proofs.Common.{arith, take}
use Rattle.std.proofs.lemmas.Result.{err_from_is_err_and}
use Rattle.fk_job.specs.Fields.{is_queue_byte}
use Rattle.fk_moves.specs.Fields.{byte_where, times}
use Rattle.fk_moves.proofs.Repeated.{ends}
use Rattle.fk_moves.proofs.Stepping.{named_more, named_done}
use Rattle.fk_moves.proofs.names.read_name.Goals as goal

pub loop-preserved : goal.loop-preserved
loop-preserved c =
    named_more is_queue_byte c.args.bytes.now c.args.count c.loop.counter c.loop.rest.now c.in_ok-behind.field-0-0
    c.in_ok-behind.behind.now c.loop-test.true c.loop.invariant c.in_ok-behind.ensures

pub returns-in_err-behind : goal.returns-in_err-behind
returns-in_err-behind c =
    let p = err_from_is_err_and c.from_residual.result c.from_residual.ensures.1 in
    rw (p.1, p.2) (ends c.in_err-behind.field-0.0 (byte_where is_queue_byte) (take c.loop.counter c.args.bytes.now) c.args.count c.loop.counter c.loop.rest.now
    ((times (byte_where is_queue_byte) c.args.count).read c.args.bytes.now) c.loop-test.true c.in_err-behind.ensures c.loop.invariant.read)

pub returns : goal.returns
returns c =
    let done = named_done is_queue_byte c.args.bytes.now c.args.count c.loop.counter c.loop.rest.now (omega arith) c.loop-test.false c.loop.invariant in
    rw (c.split_at.ensures.front, c.split_at.ensures.back) done

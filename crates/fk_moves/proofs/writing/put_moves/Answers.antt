use Rattle.std.proofs.Common.{[]}
use Rattle.fk_moves.specs.Spelling.{move_bytes}
use Rattle.fk_moves.proofs.Filled.{put_more, room_left}
use Rattle.fk_moves.proofs.writing.put_moves.Goals as goal

pub put_move-requires-clause-room : goal.put_move-requires-clause-room
put_move-requires-clause-room c =
    room_left move_bytes c.args.moves.now c.loop-step.step-index c.step-item.result
    [] c.args.out.now c.loop-step.out
    c.loop-step-test.true c.step-item.is c.requires.room c.loop-step.invariant

pub loop-step-preserved : goal.loop-step-preserved
loop-step-preserved c =
    put_more move_bytes c.args.moves.now c.loop-step.step-index c.step-item.result
    [] c.args.out.now c.loop-step.out c.put_move.new.out
    c.loop-step-test.true c.step-item.is c.loop-step.invariant c.put_move.ensures

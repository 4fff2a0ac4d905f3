use Rattle.std.proofs.Common.{[]}
use Rattle.fk_moves.specs.Spelling.{text_bytes}
use Rattle.fk_moves.proofs.Filled.{put_more, room_left}
use Rattle.fk_moves.proofs.putting.put_each.Goals as goal

pub put_text-requires-clause-room : goal.put_text-requires-clause-room
put_text-requires-clause-room c =
    room_left text_bytes c.args.texts.now c.loop-text.text-index c.text-item.result
    [] c.args.out.now c.loop-text.out
    c.loop-text-test.true c.text-item.is c.requires.room c.loop-text.invariant

pub loop-text-preserved : goal.loop-text-preserved
loop-text-preserved c =
    put_more text_bytes c.args.texts.now c.loop-text.text-index c.text-item.result
    [] c.args.out.now c.loop-text.out c.put_text.new.out
    c.loop-text-test.true c.text-item.is c.loop-text.invariant c.put_text.ensures

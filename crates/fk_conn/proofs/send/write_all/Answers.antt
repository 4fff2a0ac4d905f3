use Rattle.std.proofs.Math.Seq.{take-add}
use Rattle.fk_conn.proofs.Writing.{wrote_both}
use Rattle.fk_conn.proofs.send.write_all.Goals as goal

pub loop-at-preserved : goal.loop-at-preserved
loop-at-preserved g c =
    rw (take-add c.loop-at.at c.in-Ok.count c.args.bytes.now)
    (wrote_both _ _ _ _ _ c.loop-at.invariant (record {
      gained = rw c.split_at.ensures.back at c.in-Ok.ensures.gained;
      stays = c.in-Ok.ensures.cause.stays;
    }))

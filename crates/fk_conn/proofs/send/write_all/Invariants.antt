use Rattle.std.proofs.Common.{◌-◌, length, take}
use Rattle.fk_conn.specs.Answering.{Wrote}
use Rattle.fk_conn.proofs.send.write_all.Given as goal

-- what was written so far
abbrev pub invariant-loop-at : goal.invariant-loop-at
invariant-loop-at g l =
    Wrote (g.O.Sink.written l.initial.output) (g.O.Sink.written l.output) (take l.at l.bytes)

abbrev pub decreases-loop-at : goal.decreases-loop-at
decreases-loop-at g l = length l.bytes - l.at

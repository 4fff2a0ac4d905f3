use Rattle.std.proofs.Common.{arith}
use Rattle.fk_moves.specs.Spelling.{word_bytes}
use Rattle.fk_shelf.proofs.NewFile.{shut_written, three_writes}
use Rattle.fk_shelf.proofs.making.write_behind_gate.Goals as goal

pub returns-clause-since : goal.returns-clause-since
returns-clause-since g c =
    three_writes 1 34 59 _ _ _ _ _ _ _ _ _ _ _ (omega arith) (omega arith) (omega arith) c.requires.closed
    c.write_at.ensures.since c.write_at-2.ensures.since c.write_surely.ensures.since

pub returns-clause-shut : goal.returns-clause-shut
unfolding word_bytes
returns-clause-shut g c =
    shut_written c.write_surely.result _ _ _ _ _ _ _ _ _ _ c.write_at.ensures.told c.write_at-2.ensures.told
    c.write_surely.ensures.told (g.met.D.Disk.has_told c.write_surely.new.disk _)
    (g.met.D.Disk.has_content c.args.disk.now) c.requires.closed c.in_ok-write_at.ensures.ok
    c.in_ok-write_at-2.ensures.ok c.write_surely.ensures.ok c.write_surely.ensures.sure

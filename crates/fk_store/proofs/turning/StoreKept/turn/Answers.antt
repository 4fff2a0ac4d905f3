use Rattle.fk_io.proofs.Giving.{told_one}
use Rattle.fk_store.proofs.Settling.{as_told, rests_sound}
use Rattle.fk_store.proofs.turning.StoreKept.turn.Goals as goal

pub turn_at-answer-requires-clause-sound : goal.turn_at-answer-requires-clause-sound
turn_at-answer-requires-clause-sound g c =
    rests_sound _ g.D.Disk.moment g.D.Disk.images c.self.inside.shelf c.self.inside.tables.kept _
    (g.met.D.Disk.has_told c.self.inside.shelf.live.disk) c.stands.ensures.blank c.stands.ensures.rest
    (as_told _ c.self.inside.shelf c.self.inside.tables.kept _ _ c.self.invariant.0 c.self.invariant.2
    c.self.invariant.3)

pub returns-clause-step : goal.returns-clause-step
returns-clause-step g c =
    rw (← c.self.view_is, c.faults-before.ensures, c.faults.ensures) (c.turn_at-answer.ensures.turn.step c.args._seat)

pub returns-clause-moment : goal.returns-clause-moment
returns-clause-moment g c = rw (← c.self.view_is) (told_one _ _ _ c.now-moment.ensures.told)

pub returns-clause-word : goal.returns-clause-word
returns-clause-word g c = rw (← c.self.view_is) (told_one _ _ _ c.roll-word.ensures.told)

pub returns-clause-crash : goal.returns-clause-crash
returns-clause-crash g c = rw (← c.self.view_is) c.turn_at-answer.ensures.turn.crash

pub returns-clause-sound : goal.returns-clause-sound
returns-clause-sound g c =
    rests_sound _ g.D.Disk.moment g.D.Disk.images c.turn_at-answer.new.shelf c.turn_at-answer.new.tables.kept _
    (g.met.D.Disk.has_told c.turn_at-answer.new.shelf.live.disk) c.stands-2.ensures.blank c.stands-2.ensures.rest
    c.turn_at-answer.ensures.turn.told

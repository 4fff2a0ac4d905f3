use Rattle.std.proofs.Common.{◌≡◌, ◌-◌, false, List}
use Rattle.fk_model.specs.declared.entry.Entry.{Entry}
use Rattle.fk_lives.specs.Ways.{disks}
use Rattle.fk_conn.specs.Turning.{Turned, keeping}
use Rattle.fk_conn.specs.Session.{wire}
use Rattle.fk_conn.specs.Answering.{IsBetweenReads}
use Rattle.fk_conn.specs.declared.session.TheConstants.{TAKEN_MAX}
use Rattle.fk_conn.proofs.session.pipe_session.Given as goal

-- all that was taken is answered, by the turns that were made
abbrev pub invariant-pieces : goal.invariant-pieces
invariant-pieces g l = record {
  asked : l.session.talk.asked ≡ false;
  served : (history : List Entry) × Turned
      (keeping (g.K.Kept.server l.fn.kept) (g.K.Kept.doubt l.fn.kept) (g.K.Kept.moments l.fn.kept)
      (g.K.Kept.words l.fn.kept) (g.K.Kept.faults_a l.fn.kept) (g.K.Kept.faults_b l.fn.kept)
      (disks (g.K.Kept.moment_a l.fn.kept) (g.K.Kept.images_a l.fn.kept)
      (g.K.Kept.moment_b l.fn.kept) (g.K.Kept.images_b l.fn.kept)))
      (keeping (g.K.Kept.server l.kept) (g.K.Kept.doubt l.kept) (g.K.Kept.moments l.kept) (g.K.Kept.words l.kept)
      (g.K.Kept.faults_a l.kept) (g.K.Kept.faults_b l.kept)
      (disks (g.K.Kept.moment_a l.kept) (g.K.Kept.images_a l.kept)
      (g.K.Kept.moment_b l.kept) (g.K.Kept.images_b l.kept)))
      history
      × IsBetweenReads l.fn.talk.gate
      (wire (g.S.Source.supply l.fn.input) (g.O.Sink.written l.fn.output))
      (wire (g.S.Source.supply l.input) (g.O.Sink.written l.output))
      history l.session;
}

abbrev pub decreases-pieces : goal.decreases-pieces
decreases-pieces g l = TAKEN_MAX - l.session.taken

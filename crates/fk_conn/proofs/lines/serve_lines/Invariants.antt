use Rattle.std.proofs.Common.{◌≡◌, false, length, List, ◌++◌, None}
use Rattle.fk_io.specs.Content.{Supply}
use Rattle.fk_frame.specs.Lines.{lines_of}
use Rattle.fk_model.specs.declared.entry.Entry.{Entry}
use Rattle.fk_model.specs.declared.gate.Gate.{Gate}
use Rattle.fk_lives.specs.Ways.{disks}
use Rattle.fk_talk.proofs.Due.{due_total}
use Rattle.fk_conn.specs.Turning.{Turned, keeping}
use Rattle.fk_conn.specs.Session.{Wire, wire}
use Rattle.fk_conn.specs.Answering.{IsAnswering}
use Rattle.fk_conn.proofs.lines.serve_lines.Given as goal

-- the lines so far were answered, by the turns that were made
abbrev pub invariant-lines : goal.invariant-lines
invariant-lines g l = record {
  asked : l.session.talk.asked ≡ false;
  counted : l.session.taken ≡ l.initial.session.taken;
  served : (made : List Entry) × Turned
      (keeping (g.K.Kept.server l.initial.kept) (g.K.Kept.doubt l.initial.kept) (g.K.Kept.moments l.initial.kept)
      (g.K.Kept.words l.initial.kept) (g.K.Kept.faults_a l.initial.kept) (g.K.Kept.faults_b l.initial.kept)
      (disks (g.K.Kept.moment_a l.initial.kept) (g.K.Kept.images_a l.initial.kept)
      (g.K.Kept.moment_b l.initial.kept) (g.K.Kept.images_b l.initial.kept)))
      (keeping (g.K.Kept.server l.kept) (g.K.Kept.doubt l.kept) (g.K.Kept.moments l.kept) (g.K.Kept.words l.kept)
      (g.K.Kept.faults_a l.kept) (g.K.Kept.faults_b l.kept)
      (disks (g.K.Kept.moment_a l.kept) (g.K.Kept.images_a l.kept)
      (g.K.Kept.moment_b l.kept) (g.K.Kept.images_b l.kept)))
      made
      × ((gate : Gate) (first : Wire) (input : Supply) (history : List Entry)
      → IsAnswering gate first (wire input (g.O.Sink.written l.initial.output)) history None l.initial.session
      → IsAnswering gate first (wire input (g.O.Sink.written l.output)) (history ++ made) None l.session);
}

-- what is due to the lines that wait
abbrev pub decreases-lines : goal.decreases-lines
decreases-lines g l =
    length (due_total l.session.talk.gate l.session.talk.standing (lines_of l.session.talk.waiting)).0

use Rattle.fk_talk.proofs.Talked.{feeds}
use Rattle.fk_talk.proofs.talk.Talk.feed.Goals as goal

pub returns-in-Ok-clause-whole : goal.returns-in-Ok-clause-whole
returns-in-Ok-clause-whole c = rw (← c.self.view_is, c.in-Ok.ensures.ok) (feeds _ c.args.piece.now)

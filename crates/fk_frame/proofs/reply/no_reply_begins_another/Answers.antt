use Rattle.fk_frame.proofs.Apart.{apart}
use Rattle.fk_frame.proofs.reply.no_reply_begins_another.Goals as goal

pub returns : goal.returns
returns c = apart

use Rattle.std.proofs.Common.{inr, arith}
use Rattle.fk_job.proofs.OneValue.{short_jid}
use Rattle.fk_job.proofs.fields.jid_of.Goals as goal

pub returns-then-len-lt-LEAST_JID_LENGTH-clause-fault :
    goal.returns-then-len-lt-LEAST_JID_LENGTH-clause-fault
returns-then-len-lt-LEAST_JID_LENGTH-clause-fault c =
    inr (short_jid c.args.text.now c.args.members.now c.in-Some.jid
    (rw c.in-Some.is at c.in_ok-jid.ensures.some) (omega arith))

use Rattle.std.proofs.Common.{◌-◌, ◌∙◌, ap, sym, arith}
use Rattle.fk_job.proofs.Seen.{one_seen}
use Rattle.fk_job.proofs.counting.counting_flags.Goals as goal

pub members-preserved : goal.members-preserved
members-preserved c =
    one_seen c.args.members.now (c.members.at - 1) c.members.at c.index-members-at.result c.members.names
    c.insert.new.self c.bytes.result c.in_ok-is_new.is_new c.members.flags.items c.push.new.self.items (omega arith)
    (omega arith) c.index-members-at.is (c.bytes.ensures ∙ ap (λ member. member.name) (sym c.index-members-at.is))
    c.in_ok-is_new.ensures.updates c.in_ok-is_new.ensures.added
    c.in_ok-push.ensures.items c.members.invariant

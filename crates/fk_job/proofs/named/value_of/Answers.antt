use Rattle.fk_json.specs.Members.{IsMemberIn, inner_levels}
use Rattle.fk_job.specs.Members.{is_named}
use Rattle.fk_job.proofs.Finding.{last_all}
use Rattle.fk_job.proofs.named.value_of.Goals as goal

pub sent_value-requires : goal.sent_value-requires
sent_value-requires c =
    last_all (IsMemberIn inner_levels c.args.text.now) (is_named c.args.name.now) c.args.members.now
    c.in-Some.member.now c.requires c.in-Some.ensures

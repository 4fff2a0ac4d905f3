use Rattle.fk_json.specs.Members.{inner_levels}
use Rattle.fk_job.proofs.named.sent_value.Goals as goal

pub returns-clause-valued : goal.returns-clause-valued
returns-clause-valued c = (inner_levels, c.requires.valued)

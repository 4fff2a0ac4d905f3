use Rattle.fk_job.proofs.JobSpelled.{job_spelled}
use Rattle.fk_json.specs.Json.{most_levels}
use Rattle.fk_job.proofs.Within.{is_within}
use Rattle.fk_job.proofs.laws.the_job_of_a_text_has_a_spelling.Goals as goal

pub returns-clause-spelled : goal.returns-clause-spelled
returns-clause-spelled c = job_spelled

pub returns-clause-within : goal.returns-clause-within
returns-clause-within c = λ text job (members, object, is). is_within most_levels text members job object is

use Rattle.fk_json.specs.Json.{most_levels}
use Rattle.fk_job.proofs.FirstFault.{reported_err}
use Rattle.fk_job.proofs.OneJob.{no_memory, read_whole}
use Rattle.fk_job.proofs.Within.{within_ok}
use Rattle.fk_job.proofs.reading.read_job.Goals as goal

pub returns-clause-fault : goal.returns-clause-fault
returns-clause-fault c =
    reported_err c.job_of.result c.args.text.now c.in_ok-members.members c.in_ok-members.ensures.ok
    (rw c.as_slice.ensures at c.job_of.ensures.fault)

pub returns-clause-short : goal.returns-clause-short
returns-clause-short c =
    within_ok c.job_of.result most_levels c.args.text.now c.in_ok-members.members c.in_ok-members.ensures.ok
    (rw c.as_slice.ensures at c.job_of.ensures.ok)

pub returns-in_err-members-clause-whole : goal.returns-in_err-members-clause-whole
returns-in_err-members-clause-whole c = λ job (members, is, has).
    no_memory c.from_residual.result c.in_err-members.field-0.0 job (c.in_err-members.ensures.whole members is)
    c.from_residual.ensures.1

pub returns-clause-whole : goal.returns-clause-whole
returns-clause-whole c = λ job (members, is, has).
    read_whole c.job_of.result c.args.text.now members job has
    (rw (c.as_slice.ensures, c.in_ok-members.ensures.whole members is) at c.job_of.ensures.ok)
    (rw (c.as_slice.ensures, c.in_ok-members.ensures.whole members is) at c.job_of.ensures.fault)

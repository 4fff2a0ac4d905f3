use Rattle.std.proofs.Common.{◌≡◌, pos}
use Rattle.fk_job.specs.Fields.{default_retry}
use Rattle.fk_job.specs.Values.{IsRetryIn}
use Rattle.fk_job.proofs.OneValue.{none_given}
use Rattle.fk_job.proofs.fields.retry_of.Goals as goal

pub returns-in-Some-clause-none : goal.returns-in-Some-clause-none
returns-in-Some-clause-none c =
    none_given c.retry_in.result _ c.in-Some.value.now (λ retry. retry ≡ pos default_retry) IsRetryIn
    c.in-Some.ensures c.retry_in.ensures.none

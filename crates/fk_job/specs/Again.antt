-- What is said of a job that is written and read again.
use Rattle.std.specs.Prelude.{◌≡◌, ◌^◌, ◌<◌, IfSome, IsUtf8}
use Rattle.std.specs.List.{AllByRecursion}
use Rattle.fk_job.specs.declared.job.Job.{Job}
use Rattle.fk_job.specs.declared.failure.Failure.{Failure}
use Rattle.fk_job.specs.declared.stamp.Stamp.{Stamp}

-- a failure whose texts are UTF-8
pub record HasUtf8 (failure : Failure) : Type 0 where
  pub errtype : IsUtf8 failure.errtype
  pub message : IsUtf8 failure.message
  pub backtrace : AllByRecursion IsUtf8 failure.backtrace

-- a stamp whose failure, if it has one, has UTF-8 texts
abbrev pub HasUtf8Texts : Stamp → Type 0
HasUtf8Texts stamp = IfSome stamp.failure HasUtf8

-- a stamp whose failure, if it has one, has a count of 64 bits, as each that the server holds has
abbrev pub HasCount : Stamp → Type 0
HasCount stamp = IfSome stamp.failure (λ failure. failure.count < 2 ^ 64)

-- a job that is read as another one is: what a producer says of it is the same
pub record IsSameJob (job again : Job) : Type 0 where
  pub jid : again.jid ≡ job.jid
  pub jobtype : again.jobtype ≡ job.jobtype
  pub queue : again.queue ≡ job.queue
  pub retry : again.retry ≡ job.retry
  pub reserve_for : again.reserve_for ≡ job.reserve_for
  pub at : again.at ≡ job.at

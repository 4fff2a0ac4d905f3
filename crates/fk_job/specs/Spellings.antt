-- The bounds of what is written of a job into a file: each number and each text is within its bound.
use Rattle.std.specs.Prelude.{ℕ, ◌<◌, ◌≤◌, ◌^◌, pos, neg_ℤ, ◌≤ℤ◌, FitsSigned, List, length, IfSome, All}
use Rattle.std.specs.Int.{w64}
use Rattle.std.specs.List.{AllPass}
use Rattle.fk_time.specs.Moments.{greatest}
use Rattle.fk_job.specs.declared.job.Job.{Job}
use Rattle.fk_job.specs.Fields.{is_queue_byte, least_reserve, most_reserve}

-- a text has fewer bytes than this, and a list fewer items
abbrev pub text_limit : ℕ
text_limit = 2 ^ 32

-- a moment up to the greatest
abbrev pub IsMoment : ℕ → Type 0
IsMoment moment = moment ≤ greatest

-- numbers below 256
abbrev pub AreBytes : List ℕ → Type 0
AreBytes text = All (λ byte. byte < 256) text

-- bytes, fewer than 2^32
pub record IsText (text : List ℕ) : Type 0 where
  pub bytes : AreBytes text
  pub short : length text < text_limit

-- a queue of a job: a name, not empty, of ASCII letters and digits, `.`, `_` and `-`
pub record IsQueueName (name : List ℕ) : Type 0 where
  pub some : 0 < length name
  pub plain : AllPass is_queue_byte name

-- a job that a file can hold
pub record HasJobSpelling (job : Job) : Type 0 where
  pub jid : IsText job.jid
  pub jobtype : IsText job.jobtype
  pub queue : IsText job.queue
  pub named : IsQueueName job.queue
  pub retry : neg_ℤ (pos 1) ≤ℤ job.retry
  pub retries : FitsSigned w64 job.retry
  pub least : least_reserve ≤ job.reserve_for
  pub most : job.reserve_for ≤ most_reserve
  pub due : IfSome job.at IsMoment
  pub body : IsText job.body

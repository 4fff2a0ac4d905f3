-- The asks that a turn may be made of: what they bring is within the bounds of what a file can hold.
use Rattle.std.specs.Prelude.{◌<◌, List, length, IfSome, All}
use Rattle.fk_job.specs.declared.job.Job.{Job}
use Rattle.fk_job.specs.Spellings.{HasJobSpelling, IsText, text_limit}
use Rattle.fk_model.specs.declared.mutation.Filter.{Filter}
use Rattle.fk_model.specs.declared.ask.Ask.{Ask}
use Rattle.fk_model.specs.declared.ask.Ask.TheVariants.{Hello, Push, PushBatch, Fetch, Ack, Fail, Beat, Signal, Info, Flush, Mutate, Tick}
use Rattle.fk_model.specs.Spellings.{AreTexts}

-- jobs, fewer than 2^32
pub record AreJobs (jobs : List Job) : Type 0 where
  pub each : All HasJobSpelling jobs
  pub short : length jobs < text_limit

-- the texts of a filter
pub record IsFilter (filter : Filter) : Type 0 where
  pub jobtype : IfSome filter.jobtype IsText
  pub jids : IfSome filter.jids AreTexts
  pub glob : IfSome filter.glob IsText

-- each job, each text and each list of the ask is within its bounds
abbrev pub IsInRange : Ask → Type 0
IsInRange (Hello wid) = IsText wid
IsInRange (Push job) = HasJobSpelling job
IsInRange (PushBatch jobs told) = AreJobs jobs × IsText told
IsInRange (Fetch wid queues) = IsText wid × AreTexts queues
IsInRange (Ack jid) = IsText jid
IsInRange (Fail jid errtype message backtrace) =
    IsText jid × IsText errtype × IsText message × AreTexts backtrace
IsInRange (Beat wid) = IsText wid
IsInRange (Signal wid state) = IsText wid
IsInRange Info = Unit {0}
IsInRange Flush = Unit {0}
IsInRange (Mutate cmd target filter) = IsFilter filter
IsInRange Tick = Unit {0}

-- What serde_json decodes of an ask's line, or of the HELLO before it, or writes for it, is a text, and there
-- are fewer than 2^32 where it decodes many. No clause of serde_json bounds it by the line, so its length is
-- tested where it comes.
abbrev pub HasJsonTexts : Ask → Type 0
HasJsonTexts (Hello wid) = IsText wid
HasJsonTexts (Push job) = Unit {0}
HasJsonTexts (PushBatch jobs told) = IsText told
HasJsonTexts (Fetch wid queues) = IsText wid
HasJsonTexts (Ack jid) = IsText jid
HasJsonTexts (Fail jid errtype message backtrace) =
    IsText jid × IsText errtype × IsText message × AreTexts backtrace
HasJsonTexts (Beat wid) = IsText wid
HasJsonTexts (Signal wid state) = IsText wid
HasJsonTexts Info = Unit {0}
HasJsonTexts Flush = Unit {0}
HasJsonTexts (Mutate cmd target filter) = IsFilter filter
HasJsonTexts Tick = Unit {0}

-- The job of a text, which is one JSON object, or the first fault of the text.
use Rattle.std.specs.Prelude.{◌≡◌, ℕ, ◌<◌, ◌≤◌, ℤ, List, Option, is_some, length, codes}
use Rattle.fk_json.specs.declared.member.Member.{Member}
use Rattle.fk_json.specs.Json.{IsObjectText, FailsAt, IsTooDeepAt, most_levels}
use Rattle.fk_job.specs.declared.job.Job.{Job}
use Rattle.fk_job.specs.declared.fault.JobFault.{JobFault}
use Rattle.fk_job.specs.declared.fault.JobFault.TheVariants.{NoJid, ShortJid, NoType, NoArgs, BadQueue, BadReserve, BadRetry, BadAt, Syntax, TooDeep, NoMemory}
use Rattle.fk_job.specs.Members.{given_value, body_of}
use Rattle.fk_job.specs.Fields.{least_jid_length, HasString, HasArray, IsQueue, IsReserve, IsRetry, IsAt}

-- the job of a text with these members
pub record IsJob (text : List ℕ) (members : List Member) (job : Job) : Type 0 where
  pub named : HasString text members (codes "jid") job.jid
  pub long : least_jid_length ≤ length job.jid
  pub typed : HasString text members (codes "jobtype") job.jobtype
  pub some_type : 0 < length job.jobtype
  pub arguments : HasArray text members (codes "args")
  pub queued : IsQueue text members job.queue
  pub reserved : IsReserve text members job.reserve_for
  pub retried : IsRetry text members job.retry
  pub due : IsAt text members job.at
  pub created : job.has_created ≡ is_some (given_value text members (codes "created_at"))
  pub body : job.body ≡ body_of text members

-- what has to hold, each with all that is looked at before it
abbrev pub HasJid : List ℕ → List Member → Type 0
HasJid text members = (jid : List ℕ) × HasString text members (codes "jid") jid

abbrev pub HasLongJid : List ℕ → List Member → Type 0
HasLongJid text members =
    (jid : List ℕ) × HasString text members (codes "jid") jid × (least_jid_length ≤ length jid)

abbrev pub HasType : List ℕ → List Member → Type 0
HasType text members =
    HasLongJid text members
    × ((jobtype : List ℕ) × HasString text members (codes "jobtype") jobtype × (0 < length jobtype))

abbrev pub HasArgs : List ℕ → List Member → Type 0
HasArgs text members = HasType text members × HasArray text members (codes "args")

abbrev pub HasQueue : List ℕ → List Member → Type 0
HasQueue text members = HasArgs text members × ((queue : List ℕ) × IsQueue text members queue)

abbrev pub HasReserve : List ℕ → List Member → Type 0
HasReserve text members = HasQueue text members × ((seconds : ℕ) × IsReserve text members seconds)

abbrev pub HasRetry : List ℕ → List Member → Type 0
HasRetry text members = HasReserve text members × ((retry : ℤ) × IsRetry text members retry)

abbrev pub HasAt : List ℕ → List Member → Type 0
HasAt text members = HasRetry text members × ((at : Option ℕ) × IsAt text members at)

-- The fault is the first of a text that has members: all before it holds, and what it says doesn't.
-- That a text has none is told by the faults of fk_json.
abbrev pub IsFirstFault : List ℕ → List Member → JobFault → Type 0
IsFirstFault text members NoJid = ¬ HasJid text members
IsFirstFault text members ShortJid = HasJid text members × ¬ HasLongJid text members
IsFirstFault text members NoType = HasLongJid text members × ¬ HasType text members
IsFirstFault text members NoArgs = HasType text members × ¬ HasArgs text members
IsFirstFault text members BadQueue = HasArgs text members × ¬ HasQueue text members
IsFirstFault text members BadReserve = HasQueue text members × ¬ HasReserve text members
IsFirstFault text members BadRetry = HasReserve text members × ¬ HasRetry text members
IsFirstFault text members BadAt = HasRetry text members × ¬ HasAt text members
IsFirstFault text members (Syntax at) = ⊥
IsFirstFault text members (TooDeep at) = ⊥
IsFirstFault text members NoMemory = ⊥

-- what a text that isn't read as a job has for a fault: the place where it stops being an object,
-- or the first fault of its members
abbrev pub HasFault : List ℕ → JobFault → Type 0
HasFault text (Syntax at) = FailsAt IsObjectText text at
HasFault text (TooDeep at) = IsTooDeepAt IsObjectText text at
HasFault text fault =
    (members : List Member) × IsObjectText most_levels text members
    × IsFirstFault text members fault

-- the job of a text that is one object
abbrev pub IsJobOf : List ℕ → Job → Type 0
IsJobOf text job =
    (members : List Member) × IsObjectText most_levels text members × IsJob text members job

-- the job's texts are at most so long
pub record IsWithin (bound : ℕ) (job : Job) : Type 0 where
  pub jid : length job.jid ≤ bound
  pub jobtype : length job.jobtype ≤ bound
  pub queue : length job.queue ≤ bound
  pub body : length job.body ≤ bound

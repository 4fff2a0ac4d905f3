-- The text that a worker is given for a job: what the producer sent, with what the server knows of
-- it.
use Rattle.std.specs.Prelude.{◌≡◌, ℕ, ◌-◌, ◌≤◌, length, slice_range, IfSome, List, [], ◌∷◌, ◌++◌, Option, None, Some, codes, map, if◌then◌else◌}
use Rattle.std.specs.List.{join_with_byte}
use Rattle.std.specs.Fmt.{decimal}
use Rattle.std.specs.Str.{byte}
use Rattle.fk_json.specs.String.{spelling}
use Rattle.fk_time.specs.Moments.{moment_text, greatest}
use Rattle.fk_job.specs.declared.job.Job.{Job}
use Rattle.fk_job.specs.declared.failure.Failure.{Failure}
use Rattle.fk_job.specs.declared.stamp.Stamp.{Stamp}

-- a member of a JSON object: its name, a colon and its value
unfoldable pub written_member : List ℕ → List ℕ → List ℕ
written_member name value = spelling name ++ codes ":" ++ value

-- a comma and a member
unfoldable pub further : List ℕ → List ℕ → List ℕ
further name value = codes "," ++ written_member name value

-- a comma and a member with a moment, where there is one
unfoldable pub further_moment : List ℕ → Option ℕ → List ℕ
further_moment name None = []
further_moment name (Some moment) = further name (spelling (moment_text moment))

-- a comma and a member with an array of strings, where there is one
unfoldable pub further_strings : List ℕ → List (List ℕ) → List ℕ
further_strings name [] = []
further_strings name (text ∷ texts) =
    further name (codes "[" ++ join_with_byte (byte ",") (map spelling (text ∷ texts)) ++ codes "]")

-- how the job failed, as an object
unfoldable pub failure_text : Failure → List ℕ
failure_text failure =
    codes "{" ++ written_member (codes "retry_count") (decimal failure.count)
    ++ further (codes "failed_at") (spelling (moment_text failure.failed))
    ++ further_moment (codes "next_at") failure.next
    ++ further (codes "errtype") (spelling failure.errtype)
    ++ further (codes "message") (spelling failure.message)
    ++ further_strings (codes "backtrace") failure.backtrace
    ++ codes "}"

-- a comma and a member with the failure, where there is one
unfoldable pub further_failure : Option Failure → List ℕ
further_failure None = []
further_failure (Some failure) = further (codes "failure") (failure_text failure)

-- the moment at which the job was pushed, unless the producer sent a `created_at`
unfoldable pub further_created : Job → Stamp → List ℕ
further_created job stamp =
    if job.has_created then [] else further_moment (codes "created_at") (Some stamp.created)

-- the text of a job with its stamp. Only a crafted file has a job with an empty body, whose text
-- then begins with a comma behind the bracket
unfoldable pub row_text : Job → Stamp → List ℕ
row_text job stamp =
    codes "{" ++ job.body
    ++ further (codes "queue") (spelling job.queue)
    ++ further_created job stamp
    ++ further_moment (codes "enqueued_at") stamp.enqueued
    ++ further_failure stamp.failure
    ++ codes "}"

-- a name that is written as it is, between quotes
abbrev pub IsPlainName : List ℕ → Type 0
IsPlainName name = spelling name ≡ codes "\"" ++ name ++ codes "\""

-- the name in what opens a member: between a comma and a quote, and a quote and a colon
abbrev pub opened : List ℕ → List ℕ
opened opening = slice_range opening 2 (length opening - 2)

-- a comma, a name as it is spelled, and a colon
abbrev pub IsOpening : List ℕ → Type 0
IsOpening opening = opening ≡ codes "," ++ (spelling (opened opening) ++ codes ":")

-- a failure whose moments can be written
pub record HasFailureMoments (failure : Failure) : Type 0 where
  pub failed_by : failure.failed ≤ greatest
  pub next : IfSome failure.next (λ moment. moment ≤ greatest)

-- a stamp whose moments can be written
pub record HasMoments (stamp : Stamp) : Type 0 where
  pub created : stamp.created ≤ greatest
  pub enqueued : IfSome stamp.enqueued (λ moment. moment ≤ greatest)
  pub failed : IfSome stamp.failure HasFailureMoments

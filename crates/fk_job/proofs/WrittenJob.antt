-- The text that is written for a job is read as that job.
use Rattle.std.proofs.Common.{◌≡◌, ◌&&◌, not, ℕ, suc, ℤ, pos, ◌≤ℤ◌, Bool, true, false, if◌then◌else◌, IsUtf8, List, [], ◌∷◌, ◌++◌, Option, None, Some, MatchOption, is_some, bytes_eq, codes, refl, sym, ap, ap₂, subst, ◌∙◌}
use Rattle.std.proofs.lemmas.List.Sums.{AllPass-from_list_all}
use Rattle.std.proofs.lemmas.Str.{IsUtf8-nil}
use Rattle.std.specs.List.{AllByRecursion}
use Rattle.std.specs.Option.{option_or}
use Rattle.fk_json.specs.declared.member.Member.{Member}
use Rattle.fk_json.specs.Json.{IsObjectText}
use Rattle.fk_json.specs.String.{IsString, spelling}
use Rattle.fk_json.proofs.MemberPlaces.{members_in}
use Rattle.fk_job.specs.declared.job.Job.{Job}
use Rattle.fk_job.specs.declared.failure.Failure.{Failure}
use Rattle.fk_job.specs.declared.stamp.Stamp.{Stamp}
use Rattle.fk_job.specs.Again.{HasCount, HasUtf8Texts, IsSameJob}
use Rattle.fk_job.specs.Fields.{IsArrayValue, IsInteger64, IsMomentOf, IsQueue, IsQueueNamed, default_queue, default_reserve, default_retry, is_queue_byte, most_reserve, reserve_seconds, retries}
use Rattle.fk_job.specs.JobText.{IsJob, IsJobOf}
use Rattle.fk_job.specs.Members.{body_of, given_value, unless_null, value_of}
use Rattle.fk_job.specs.RowText.{row_text}
use Rattle.fk_job.proofs.Pieces.{Passes, Piece, all_kept, body_joined, is_kept, joined, kept, last_append, last_kept, last_value, pieces_in, value_last}
use Rattle.fk_job.proofs.Built.{IsPiece, is_object_text, members_of, object_of, object_pieces, pieces_are}
use Rattle.fk_job.proofs.Spelled.{queue_utf8, spelled}
use Rattle.fk_job.proofs.Written.{added, added_are, all_append, behind_queue, created_pieces, failure_pieces, moment_pieces, row_object}

-- ---- the queue that is written

default_again : IsQueueNamed default_queue default_queue
default_again = (refl, AllPass-from_list_all is_queue_byte default_queue refl)

named_again : (name queue : List ℕ) → IsQueueNamed name queue → IsQueueNamed queue queue
named_again [] queue e = subst (λ q. IsQueueNamed q q) (sym e) default_again
named_again (first ∷ name) queue (e, each) = subst (λ q. IsQueueNamed q q) (sym e) (refl, each)

given_again : (value : Option (List ℕ)) (queue : List ℕ)
    → MatchOption value (queue ≡ default_queue) (λ v. (name : List ℕ) × IsString v name × IsQueueNamed name queue)
    → IsQueueNamed queue queue
given_again None queue e = subst (λ q. IsQueueNamed q q) (sym e) default_again
given_again (Some value) queue (name, is, named) = named_again name queue named

pub queue_again : (text : List ℕ) (members : List Member) (queue : List ℕ) → IsQueue text members queue
    → IsQueueNamed queue queue
queue_again text members queue is = given_again (given_value text members (codes "queue")) queue is

pub named_utf8 : (queue : List ℕ) → IsQueueNamed queue queue → IsUtf8 queue
named_utf8 [] named = IsUtf8-nil
named_utf8 (first ∷ name) named = queue_utf8 (first ∷ name) named.1

-- ---- the names of what is read of a job besides its queue

-- the test for what is handed on, of a name and a value
abbrev is_kept_as : List ℕ → List ℕ → Bool
is_kept_as name value =
    not (bytes_eq name (codes "queue")) && not (bytes_eq name (codes "enqueued_at"))
    && not (bytes_eq name (codes "failure"))
    && not (bytes_eq name (codes "created_at") && bytes_eq value (codes "null"))

passes : (name : List ℕ) → ((value : List ℕ) → is_kept_as name value ≡ true) → Passes name is_kept
passes name always piece e = subst (λ n. is_kept_as n piece.value ≡ true) (sym e) (always piece.value)

-- a name that the server doesn't write behind the queue
record IsNoneBehind (name : List ℕ) : Type 0 where
  created : bytes_eq (codes "created_at") name ≡ false
  enqueued : bytes_eq (codes "enqueued_at") name ≡ false
  failure : bytes_eq (codes "failure") name ≡ false

-- a name that the server hands on and doesn't write
record IsSent (name : List ℕ) : Type 0 where
  handed : Passes name is_kept
  queue : bytes_eq (codes "queue") name ≡ false
  behind : IsNoneBehind name

sent : (name : List ℕ) → ((value : List ℕ) → is_kept_as name value ≡ true) → bytes_eq (codes "queue") name ≡ false
    → bytes_eq (codes "created_at") name ≡ false → bytes_eq (codes "enqueued_at") name ≡ false
    → bytes_eq (codes "failure") name ≡ false → IsSent name
sent name always queue created enqueued failure = record {
  handed = passes name always;
  queue = queue;
  behind = record { created = created; enqueued = enqueued; failure = failure };
}

jid_sent : IsSent (codes "jid")
jid_sent = sent (codes "jid") (λ value. refl) refl refl refl refl

jobtype_sent : IsSent (codes "jobtype")
jobtype_sent = sent (codes "jobtype") (λ value. refl) refl refl refl refl

args_sent : IsSent (codes "args")
args_sent = sent (codes "args") (λ value. refl) refl refl refl refl

reserve_sent : IsSent (codes "reserve_for")
reserve_sent = sent (codes "reserve_for") (λ value. refl) refl refl refl refl

retry_sent : IsSent (codes "retry")
retry_sent = sent (codes "retry") (λ value. refl) refl refl refl refl

at_sent : IsSent (codes "at")
at_sent = sent (codes "at") (λ value. refl) refl refl refl refl

queue_none : IsNoneBehind (codes "queue")
queue_none = record { created = refl; enqueued = refl; failure = refl }

-- ---- the last values of what is added

other_name : (called name value : List ℕ) → bytes_eq called name ≡ false
    → (if bytes_eq called name then Some value else None) ≡ None
other_name called name value e = ap (λ t. if t then Some value else None) e

no_moment : (called name : List ℕ) (moment : Option ℕ) → bytes_eq called name ≡ false
    → last_value name (moment_pieces called moment) ≡ None
no_moment called name None e = refl
no_moment called name (Some moment) e = other_name called name _ e

no_created : (name : List ℕ) (has : Bool) (created : ℕ) → bytes_eq (codes "created_at") name ≡ false
    → last_value name (created_pieces has created) ≡ None
no_created name true created e = refl
no_created name false created e = other_name (codes "created_at") name _ e

no_failure : (name : List ℕ) (failure : Option Failure) → bytes_eq (codes "failure") name ≡ false
    → last_value name (failure_pieces failure) ≡ None
no_failure name None e = refl
no_failure name (Some failure) e = other_name (codes "failure") name _ e

none_behind : (name : List ℕ) (job : Job) (stamp : Stamp) → IsNoneBehind name
    → last_value name (behind_queue job stamp) ≡ None
none_behind name job stamp is =
    let b = created_pieces job.has_created stamp.created in
    let c = moment_pieces (codes "enqueued_at") stamp.enqueued in
    let d = failure_pieces stamp.failure in
    last_append name (b ++ c) d
    ∙ ap₂ option_or (no_failure name stamp.failure is.failure)
    (last_append name b c
    ∙ ap₂ option_or (no_moment (codes "enqueued_at") name stamp.enqueued is.enqueued)
    (no_created name job.has_created stamp.created is.created))

none_added : (name : List ℕ) (job : Job) (stamp : Stamp) → IsSent name → last_value name (added job stamp) ≡ None
none_added name job stamp is =
    ap₂ option_or (none_behind name job stamp is.behind) (other_name (codes "queue") name (spelling job.queue) is.queue)

queue_added : (job : Job) (stamp : Stamp) → last_value (codes "queue") (added job stamp) ≡ Some (spelling job.queue)
queue_added job stamp =
    ap (λ o. option_or o (Some (spelling job.queue))) (none_behind (codes "queue") job stamp queue_none)

-- ---- the values in the text that is written

value_again : (pieces : List Piece) (name : List ℕ)
    → value_of (object_of pieces) (members_of 1 pieces) name ≡ last_value name pieces
value_again pieces name =
    value_last (object_of pieces) (members_of 1 pieces) name ∙ ap (last_value name) (object_pieces pieces)

-- the body's pieces, and those that are added
abbrev all_pieces : List ℕ → List Member → Job → Stamp → List Piece
all_pieces text members job stamp = kept (pieces_in text members) ++ added job stamp

sent_again : (text : List ℕ) (members : List Member) (job : Job) (stamp : Stamp) (name : List ℕ) → IsSent name
    → last_value name (all_pieces text members job stamp) ≡ value_of text members name
sent_again text members job stamp name is =
    last_append name (kept (pieces_in text members)) (added job stamp)
    ∙ ap (λ o. option_or o (last_value name (kept (pieces_in text members)))) (none_added name job stamp is)
    ∙ last_kept name (pieces_in text members) is.handed
    ∙ sym (value_last text members name)

queue_written : (pieces : List Piece) (job : Job) (stamp : Stamp)
    → last_value (codes "queue") (pieces ++ added job stamp) ≡ Some (spelling job.queue)
queue_written pieces job stamp =
    last_append (codes "queue") pieces (added job stamp)
    ∙ ap (λ o. option_or o (last_value (codes "queue") pieces)) (queue_added job stamp)

-- ---- the job that is read

abbrev job_again : List ℕ → List Member → Job → Job
job_again text members job = record {
  jid = job.jid;
  jobtype = job.jobtype;
  queue = job.queue;
  retry = job.retry;
  reserve_for = job.reserve_for;
  at = job.at;
  has_created = is_some (given_value text members (codes "created_at"));
  body = body_of text members;
}

-- two texts whose members have the same value of each name that is sent
abbrev SameValues : List ℕ → List Member → List ℕ → List Member → Type 0
SameValues text members other others =
    (name : List ℕ) → IsSent name → value_of text members name ≡ value_of other others name

is_again : (text : List ℕ) (members : List Member) (job : Job) (other : List ℕ) (others : List Member)
    → SameValues text members other others
    → value_of other others (codes "queue") ≡ Some (spelling job.queue)
    → IsJob text members job → IsJob other others (job_again other others job)
is_again text members job other others same queue is =
    let again = queue_again text members job.queue is.queued in
    record {
      named = subst (λ o. MatchOption o ⊥ (λ value. IsString value job.jid)) (same (codes "jid") jid_sent) is.named;
      long = is.long;
      typed =
          subst (λ o. MatchOption o ⊥ (λ value. IsString value job.jobtype)) (same (codes "jobtype") jobtype_sent) is.typed;
      some_type = is.some_type;
      arguments = subst (λ o. MatchOption o ⊥ IsArrayValue) (same (codes "args") args_sent) is.arguments;
      queued =
          subst (λ o. MatchOption (unless_null o) (job.queue ≡ default_queue)
          (λ value. (name : List ℕ) × IsString value name × IsQueueNamed name job.queue)) (sym queue)
          (job.queue, spelled job.queue (named_utf8 job.queue again), again);
      reserved =
          subst (λ o. MatchOption (unless_null o) (job.reserve_for ≡ default_reserve)
          (λ value. (number : ℤ) × IsInteger64 value number × (number ≤ℤ pos most_reserve)
          × (job.reserve_for ≡ reserve_seconds number))) (same (codes "reserve_for") reserve_sent) is.reserved;
      retried =
          subst (λ o. MatchOption (unless_null o) (job.retry ≡ pos default_retry)
          (λ value. (number : ℤ) × IsInteger64 value number × (job.retry ≡ retries number)))
          (same (codes "retry") retry_sent) is.retried;
      due =
          subst (λ o. MatchOption (unless_null o) (job.at ≡ None)
          (λ value. (decoded : List ℕ) × IsString value decoded × IsMomentOf decoded job.at))
          (same (codes "at") at_sent) is.due;
      created = refl;
      body = refl;
    }

-- ---- put together

-- the text is this job, of at most so many levels
abbrev IsJobIn : ℕ → List ℕ → Job → Type 0
IsJobIn levels text job = (members : List Member) × IsObjectText levels text members × IsJob text members job

-- a job that says the same can be read
abbrev Reads : ℕ → Job → List ℕ → Type 0
Reads levels job text = (again : Job) × IsJobIn levels text again × IsSameJob job again

read_again : (levels : ℕ) (text : List ℕ) (members : List Member) (job : Job) (stamp : Stamp)
    (first : Piece) (pieces : List Piece) → kept (pieces_in text members) ≡ first ∷ pieces
    → IsObjectText (suc (suc (suc levels))) text members → IsJob text members job
    → HasCount stamp → HasUtf8Texts stamp → Reads (suc (suc (suc levels))) job (row_text job stamp)
read_again levels text members job stamp first pieces found object is fits utf8 =
    let P = IsPiece (suc (suc levels)) in
    let all = (first ∷ pieces) ++ added job stamp in
    let sent = all_kept P (pieces_in text members)
    (pieces_are (suc (suc levels)) text members (members_in (suc (suc levels)) text members object)) in
    let each = all_append P (first ∷ pieces) (added job stamp) (subst (AllByRecursion P) found sent)
    (added_are levels job stamp (named_utf8 job.queue (queue_again text members job.queue is.queued)) fits utf8) in
    let same : SameValues text members (object_of all) (members_of 1 all) = λ name sent_name.
    sym (value_again all name
    ∙ ap (λ l. last_value name (l ++ added job stamp)) (sym found)
    ∙ sent_again text members job stamp name sent_name) in
    let queue = value_again all (codes "queue") ∙ queue_written (first ∷ pieces) job stamp in
    subst (Reads (suc (suc (suc levels))) job)
    (sym (row_object job stamp first pieces (is.body ∙ body_joined text members ∙ ap joined found))) (
      job_again (object_of all) (members_of 1 all) job,
      (
        members_of 1 all,
        is_object_text (suc (suc levels)) first (pieces ++ added job stamp) each,
        is_again text members job (object_of all) (members_of 1 all) same queue is,
      ),
      record { jid = refl; jobtype = refl; queue = refl; retry = refl; reserve_for = refl; at = refl },
    )

-- a job's text has a member that is handed on: its jid
some_kept : (text : List ℕ) (members : List Member) (job : Job) → IsJob text members job
    → kept (pieces_in text members) ≡ [] → ⊥
some_kept text members job is none =
    subst (λ o. MatchOption o ⊥ (λ value. IsString value job.jid))
    (value_last text members (codes "jid")
    ∙ sym (last_kept (codes "jid") (pieces_in text members) jid_sent.handed)
    ∙ ap (last_value (codes "jid")) none) is.named

by_kept : (levels : ℕ) (text : List ℕ) (members : List Member) (job : Job) (stamp : Stamp)
    (pieces : List Piece) → kept (pieces_in text members) ≡ pieces
    → IsObjectText (suc (suc (suc levels))) text members → IsJob text members job
    → HasCount stamp → HasUtf8Texts stamp → Reads (suc (suc (suc levels))) job (row_text job stamp)
by_kept levels text members job stamp [] found object is fits utf8 = absurd (some_kept text members job is found)
by_kept levels text members job stamp (first ∷ pieces) found object is fits utf8 =
    read_again levels text members job stamp first pieces found object is fits utf8

pub written_again : (text : List ℕ) (job : Job) (stamp : Stamp) → IsJobOf text job → HasCount stamp
    → HasUtf8Texts stamp → (again : Job) × IsJobOf (row_text job stamp) again × IsSameJob job again
written_again text job stamp (members, object, is) fits utf8 =
    by_kept 124 text members job stamp (kept (pieces_in text members)) refl object is fits utf8

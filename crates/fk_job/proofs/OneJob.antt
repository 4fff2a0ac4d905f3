-- A text has one job at most, and one that has a job has no fault.
use Rattle.std.proofs.Common.{◌≡◌, inl, inr, ℕ, ℤ, pos, Bool, List, [], ◌∷◌, Option, None, Some, MatchOption, Result, Ok, Err, IfOk, IfErr, IsErrAnd, MatchResult, codes, sym, ap, subst, ◌∙◌}
use Rattle.fk_json.specs.declared.member.Member.{Member}
use Rattle.fk_json.specs.declared.fault.JsonFault.{JsonFault}
use Rattle.fk_json.specs.declared.fault.JsonFault.TheVariants as json
use Rattle.fk_json.proofs.Strings.{one_value}
use Rattle.fk_time.proofs.Forms.{reads_one}
use Rattle.fk_job.specs.declared.job.Job.{Job}
use Rattle.fk_job.specs.declared.fault.JobFault.{JobFault}
use Rattle.fk_job.specs.declared.fault.JobFault.TheVariants.{NoJid, ShortJid, NoType, NoArgs, BadQueue, BadReserve, BadRetry, BadAt, Syntax, TooDeep, NoMemory}
use Rattle.fk_job.specs.Faults.{IsFaultOf}
use Rattle.fk_job.specs.Members.{given_value}
use Rattle.fk_job.specs.Fields.{IsMomentOf, IsQueueNamed, default_queue, default_reserve, default_retry, reserve_seconds, retries}
use Rattle.fk_job.specs.JobText.{HasArgs, HasAt, HasLongJid, HasQueue, HasReserve, HasRetry, HasType, IsFirstFault, IsJob}
use Rattle.fk_job.specs.Values.{IsAtIn, IsQueueIn, IsReserveIn, IsRetryIn}
use Rattle.fk_job.proofs.FirstFault.{IsReported}
use Rattle.fk_job.proofs.OneValue.{one_string}

-- ---- each field is one

one_named : (name a b : List ℕ) → IsQueueNamed name a → IsQueueNamed name b → a ≡ b
one_named [] a b here there = here ∙ sym there
one_named (first ∷ name) a b here there = here.0 ∙ sym there.0

one_queue : (given : Option (List ℕ)) (a b : List ℕ)
    → MatchOption given (a ≡ default_queue) (λ value. IsQueueIn value a)
    → MatchOption given (b ≡ default_queue) (λ value. IsQueueIn value b) → a ≡ b
one_queue None a b here there = here ∙ sym there
one_queue (Some value) a b (name, is, named) (other, also, called) =
    one_named name a b named
    (subst (λ n. IsQueueNamed n b) (one_value value other name also is) called)

one_reserve : (given : Option (List ℕ)) (a b : ℕ)
    → MatchOption given (a ≡ default_reserve) (λ value. IsReserveIn value a)
    → MatchOption given (b ≡ default_reserve) (λ value. IsReserveIn value b) → a ≡ b
one_reserve None a b here there = here ∙ sym there
one_reserve (Some value) a b (number, is, most, counts) (other, also, limit, counted) =
    counts ∙ ap reserve_seconds (is.counted ∙ sym also.counted) ∙ sym counted

one_retry : (given : Option (List ℕ)) (a b : ℤ)
    → MatchOption given (a ≡ pos default_retry) (λ value. IsRetryIn value a)
    → MatchOption given (b ≡ pos default_retry) (λ value. IsRetryIn value b) → a ≡ b
one_retry None a b here there = here ∙ sym there
one_retry (Some value) a b (number, is, counts) (other, also, counted) =
    counts ∙ ap retries (is.counted ∙ sym also.counted) ∙ sym counted

one_moment : (decoded : List ℕ) (a b : Option ℕ) → IsMomentOf decoded a → IsMomentOf decoded b → a ≡ b
one_moment [] a b here there = here ∙ sym there
one_moment (first ∷ decoded) a b (moment, reads, is) (other, says, also) =
    is ∙ ap Some (reads_one (first ∷ decoded) moment other reads says) ∙ sym also

one_at : (given : Option (List ℕ)) (a b : Option ℕ) → MatchOption given (a ≡ None) (λ value. IsAtIn value a)
    → MatchOption given (b ≡ None) (λ value. IsAtIn value b) → a ≡ b
one_at None a b here there = here ∙ sym there
one_at (Some value) a b (decoded, is, said) (other, also, told) =
    one_moment decoded a b said
    (subst (λ d. IsMomentOf d b) (one_value value other decoded also is) told)

-- ---- the job is one

make : List ℕ → List ℕ → List ℕ → ℤ → ℕ → Option ℕ → Bool → List ℕ → Job
make jid jobtype queue retry reserve at created body = record {
  jid = jid;
  jobtype = jobtype;
  queue = queue;
  retry = retry;
  reserve_for = reserve;
  at = at;
  has_created = created;
  body = body;
}

same_parts : (a b c d e f : List ℕ) (g h : ℤ) (i j : ℕ) (k l : Option ℕ) (m n : Bool) (o p : List ℕ) → a ≡ b → c ≡ d
    → e ≡ f → g ≡ h → i ≡ j → k ≡ l → m ≡ n → o ≡ p → make a c e g i k m o ≡ make b d f h j l n p
same_parts a b c d e f g h i j k l m n o p ab cd ef gh ij kl mn op = cc

same_job : (a b : Job) → a.jid ≡ b.jid → a.jobtype ≡ b.jobtype → a.queue ≡ b.queue → a.retry ≡ b.retry
    → a.reserve_for ≡ b.reserve_for → a.at ≡ b.at → a.has_created ≡ b.has_created → a.body ≡ b.body → a ≡ b
unfolding make
same_job a b jid jobtype queue retry reserve at created body =
    same_parts _ _ _ _ _ _ _ _ _ _ _ _ _ _ _ _ jid jobtype queue retry reserve at created body

one_job : (text : List ℕ) (members : List Member) (a b : Job) → IsJob text members a → IsJob text members b
    → a ≡ b
one_job text members a b is also =
    same_job a b
    (one_string text members (codes "jid") a.jid b.jid is.named also.named)
    (one_string text members (codes "jobtype") a.jobtype b.jobtype is.typed also.typed)
    (one_queue (given_value text members (codes "queue")) a.queue b.queue is.queued also.queued)
    (one_retry (given_value text members (codes "retry")) a.retry b.retry is.retried also.retried)
    (one_reserve (given_value text members (codes "reserve_for")) a.reserve_for b.reserve_for is.reserved also.reserved)
    (one_at (given_value text members (codes "at")) a.at b.at is.due also.due)
    (is.created ∙ sym also.created)
    (is.body ∙ sym also.body)

-- ---- a job has no fault

no_fault : (text : List ℕ) (members : List Member) (job : Job) (fault : JobFault) → IsJob text members job
    → ¬ IsFirstFault text members fault
no_fault text members job fault is =
    let long : HasLongJid text members = (job.jid, is.named, is.long) in
    let typed : HasType text members = (long, (job.jobtype, is.typed, is.some_type)) in
    let args : HasArgs text members = (typed, is.arguments) in
    let queued : HasQueue text members = (args, (job.queue, is.queued)) in
    let reserved : HasReserve text members = (queued, (job.reserve_for, is.reserved)) in
    let retried : HasRetry text members = (reserved, (job.retry, is.retried)) in
    let due : HasAt text members = (retried, (job.at, is.due)) in
    elim fault as (λ f. ¬ IsFirstFault text members f) [
      | NoJid ↦ λ first. first (job.jid, is.named)
      | ShortJid ↦ λ first. first.1 long
      | NoType ↦ λ first. first.1 typed
      | NoArgs ↦ λ first. first.1 args
      | BadQueue ↦ λ first. first.1 queued
      | BadReserve ↦ λ first. first.1 reserved
      | BadRetry ↦ λ first. first.1 retried
      | BadAt ↦ λ first. first.1 due
      | Syntax at ↦ λ first. first
      | TooDeep at ↦ λ first. first
      | NoMemory ↦ λ first. first
    ]

only_memory : (text : List ℕ) (members : List Member) (job : Job) (fault : JobFault) → IsJob text members job
    → IsReported text members fault → fault ≡ NoMemory
only_memory text members job fault is (inl memory) = memory
only_memory text members job fault is (inr first) = absurd (no_fault text members job fault is first)

pub read_whole : (r : Result Job JobFault) (text : List ℕ) (members : List Member) (job : Job)
    → IsJob text members job → IfOk r (IsJob text members) → IfErr r (IsReported text members)
    → MatchResult r (λ found. found ≡ job) (λ fault. fault ≡ NoMemory)
read_whole (Ok found) text members job is ok err = one_job text members found job ok is
read_whole (Err fault) text members job is ok err = only_memory text members job fault is err

-- want of memory below
pub no_memory : (r : Result Job JobFault) (below : JsonFault) (job : Job) → below ≡ json.NoMemory
    → IsErrAnd r (IsFaultOf below) → MatchResult r (λ found. found ≡ job) (λ fault. fault ≡ NoMemory)
no_memory (Ok found) below job is told = absurd told
no_memory (Err fault) below job is told = subst (λ f. IsFaultOf f fault) is told

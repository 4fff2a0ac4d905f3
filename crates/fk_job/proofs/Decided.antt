-- Each text is a job's, or has a first fault: not both, and one job.
use Rattle.std.proofs.Common.{◌≡◌, ◌⊎◌, inl, inr, ℕ, ℤ, Bool, List, Option, is_some, codes, refl, sym, subst, ◌∙◌}
use Rattle.fk_json.proofs.OnePlace.{text_not_deep}
use Rattle.fk_json.specs.declared.member.Member.{Member}
use Rattle.fk_json.specs.Json.{FailsAt, IsObjectText, IsTooDeepAt, most_levels}
use Rattle.fk_json.specs.Members.{inner_levels}
use Rattle.fk_json.proofs.Decided.{object_decided}
use Rattle.fk_json.proofs.Unique.{one_object}
use Rattle.fk_time.proofs.Decided.{Decision, both_decided}
use Rattle.fk_job.specs.declared.job.Job.{Job}
use Rattle.fk_job.specs.declared.fault.JobFault.{JobFault}
use Rattle.fk_job.specs.declared.fault.JobFault.TheVariants.{NoJid, ShortJid, NoType, NoArgs, BadQueue, BadReserve, BadRetry, BadAt, Syntax, TooDeep, NoMemory}
use Rattle.fk_job.specs.Members.{body_of, given_value}
use Rattle.fk_job.specs.Fields.{least_jid_length}
use Rattle.fk_job.specs.JobText.{HasArgs, HasAt, HasFault, HasJid, HasLongJid, HasQueue, HasReserve, HasRetry, HasType, IsFirstFault, IsJob, IsJobOf}
use Rattle.fk_job.proofs.FieldsDecided.{at_one, at_there, queue_one, queue_there, reserve_one, reserve_there, retry_one, retry_there}
use Rattle.fk_job.proofs.Present.{array_there, long_string, string_one, string_there}

-- ---- what has to hold of the members

-- what of it holds, each with all before it
record Decisions (text : List ℕ) (members : List Member) : Type 0 where
  jid : Decision (HasJid text members)
  long : Decision (HasLongJid text members)
  typed : Decision (HasType text members)
  arguments : Decision (HasArgs text members)
  queued : Decision (HasQueue text members)
  reserved : Decision (HasReserve text members)
  retried : Decision (HasRetry text members)
  due : Decision (HasAt text members)

decisions : (text : List ℕ) (members : List Member) → IsObjectText most_levels text members
    → Decisions text members
decisions text members is =
    let long = long_string text members (codes "jid") least_jid_length in
    let typed = both_decided long (long_string text members (codes "jobtype") 1) in
    let arguments = both_decided typed (array_there inner_levels text members (codes "args") is) in
    let queued = both_decided arguments (queue_there text members) in
    let reserved = both_decided queued (reserve_there text members) in
    let retried = both_decided reserved (retry_there text members) in
    record {
      jid = string_there text members (codes "jid");
      long = long;
      typed = typed;
      arguments = arguments;
      queued = queued;
      reserved = reserved;
      retried = retried;
      due = both_decided retried (at_there text members);
    }

-- all of it holds, or there is a first fault
abbrev Outcome : List ℕ → List Member → Type 0
Outcome text members = HasAt text members ⊎ ((fault : JobFault) × HasFault text fault)

first_fault : (text : List ℕ) (members : List Member) → IsObjectText most_levels text members
    → Decision (HasJid text members) → Decision (HasLongJid text members) → Decision (HasType text members)
    → Decision (HasArgs text members) → Decision (HasQueue text members) → Decision (HasReserve text members)
    → Decision (HasRetry text members) → Decision (HasAt text members) → Outcome text members
first_fault text members is (inr none) _ _ _ _ _ _ _ = inr (NoJid, (members, is, none))
first_fault text members is (inl jid) (inr none) _ _ _ _ _ _ = inr (ShortJid, (members, is, (jid, none)))
first_fault text members is (inl _) (inl long) (inr none) _ _ _ _ _ =
    inr (NoType, (members, is, (long, none)))
first_fault text members is (inl _) (inl _) (inl typed) (inr none) _ _ _ _ =
    inr (NoArgs, (members, is, (typed, none)))
first_fault text members is (inl _) (inl _) (inl _) (inl arguments) (inr none) _ _ _ =
    inr (BadQueue, (members, is, (arguments, none)))
first_fault text members is (inl _) (inl _) (inl _) (inl _) (inl queued) (inr none) _ _ =
    inr (BadReserve, (members, is, (queued, none)))
first_fault text members is (inl _) (inl _) (inl _) (inl _) (inl _) (inl reserved) (inr none) _ =
    inr (BadRetry, (members, is, (reserved, none)))
first_fault text members is (inl _) (inl _) (inl _) (inl _) (inl _) (inl _) (inl retried) (inr none) =
    inr (BadAt, (members, is, (retried, none)))
first_fault text members is (inl _) (inl _) (inl _) (inl _) (inl _) (inl _) (inl _) (inl due) = inl due

-- what holds of the members makes a job
made_job : (text : List ℕ) (members : List Member) → HasAt text members → (job : Job) × IsJob text members job
made_job text members ((((((long, typed), arguments), queued), reserved), retried), due) = (
  record {
    jid = long.0;
    jobtype = typed.0;
    queue = queued.0;
    retry = retried.0;
    reserve_for = reserved.0;
    at = due.0;
    has_created = is_some (given_value text members (codes "created_at"));
    body = body_of text members;
  },
  record {
    named = long.1;
    long = long.2;
    typed = typed.1;
    some_type = typed.2;
    arguments = arguments;
    queued = queued.1;
    reserved = reserved.1;
    retried = retried.1;
    due = due.1;
    created = refl;
    body = refl;
  },
)

-- and a job has it all
job_has : (text : List ℕ) (members : List Member) (job : Job) → IsJob text members job → HasAt text members
job_has text members job h = (
  (
    (
      (
        (
          (
            (job.jid, h.named, h.long),
            (job.jobtype, h.typed, h.some_type),
          ),
          h.arguments,
        ),
        (job.queue, h.queued),
      ),
      (job.reserve_for, h.reserved),
    ),
    (job.retry, h.retried),
  ),
  (job.at, h.due),
)

-- ---- each text is a job's, or has a fault

abbrev Decided : List ℕ → Type 0
Decided text = ((job : Job) × IsJobOf text job) ⊎ ((fault : JobFault) × HasFault text fault)

by_outcome : (text : List ℕ) (members : List Member) → IsObjectText most_levels text members
    → Outcome text members → Decided text
by_outcome text members is (inl has) =
    let (job, made) = made_job text members has in
    inl (job, (members, is, made))
by_outcome text members is (inr fault) = inr fault

by_members : (text : List ℕ) (members : List Member) → IsObjectText most_levels text members → Decided text
by_members text members is =
    let d = decisions text members is in
    by_outcome text members is
    (first_fault text members is d.jid d.long d.typed d.arguments d.queued d.reserved d.retried d.due)

by_object : (text : List ℕ)
    → ((members : List Member) × IsObjectText most_levels text members)
    ⊎ (((at : ℕ) × FailsAt IsObjectText text at) ⊎ ((at : ℕ) × IsTooDeepAt IsObjectText text at))
    → Decided text
by_object text (inl (members, is)) = by_members text members is
by_object text (inr (inl (at, fails))) = inr (Syntax at, fails)
by_object text (inr (inr (at, deep))) = inr (TooDeep at, deep)

pub job_decided : (text : List ℕ)
    → ((job : Job) × IsJobOf text job) ⊎ ((fault : JobFault) × HasFault text fault)
job_decided text = by_object text (object_decided text)

-- ---- one job

abbrev job_with : List ℕ → List ℕ → List ℕ → ℤ → ℕ → Option ℕ → Bool → List ℕ → Job
job_with jid jobtype queue retry reserve_for at has_created body = record {
  jid = jid;
  jobtype = jobtype;
  queue = queue;
  retry = retry;
  reserve_for = reserve_for;
  at = at;
  has_created = has_created;
  body = body;
}

jobs_with : {a b c d e f : List ℕ} {m n : ℤ} {k l : ℕ} {o p : Option ℕ} {s t : Bool} {x y : List ℕ}
    → a ≡ b → c ≡ d → e ≡ f → m ≡ n → k ≡ l → o ≡ p → s ≡ t → x ≡ y
    → job_with a c e m k o s x ≡ job_with b d f n l p t y
jobs_with jid jobtype queue retry reserve at created body =
    rw (jid, jobtype, queue, retry, reserve, at, created, body) refl

same_job : (text : List ℕ) (members : List Member) (one other : Job) → IsJob text members one
    → IsJob text members other → one ≡ other
same_job text members one other h k =
    jobs_with
    (string_one text members (codes "jid") one.jid other.jid h.named k.named)
    (string_one text members (codes "jobtype") one.jobtype other.jobtype h.typed k.typed)
    (queue_one text members one.queue other.queue h.queued k.queued)
    (retry_one text members one.retry other.retry h.retried k.retried)
    (reserve_one text members one.reserve_for other.reserve_for h.reserved k.reserved)
    (at_one text members one.at other.at h.due k.due)
    (h.created ∙ sym k.created)
    (h.body ∙ sym k.body)

pub job_one : (text : List ℕ) (one other : Job) → IsJobOf text one → IsJobOf text other → one ≡ other
job_one text one other (members, is, h) (others, also, k) =
    let same = one_object most_levels most_levels text others members also is in
    same_job text members one other h (subst (λ m. IsJob text m other) same k)

-- ---- no fault

no_first_fault : (text : List ℕ) (members : List Member) (fault : JobFault) → HasAt text members
    → ¬ IsFirstFault text members fault
no_first_fault text members NoJid has first = first (has.0.0.0.0.0.0.0, has.0.0.0.0.0.0.1)
no_first_fault text members ShortJid has first = first.1 has.0.0.0.0.0.0
no_first_fault text members NoType has first = first.1 has.0.0.0.0.0
no_first_fault text members NoArgs has first = first.1 has.0.0.0.0
no_first_fault text members BadQueue has first = first.1 has.0.0.0
no_first_fault text members BadReserve has first = first.1 has.0.0
no_first_fault text members BadRetry has first = first.1 has.0
no_first_fault text members BadAt has first = first.1 has
no_first_fault text members (Syntax at) has first = first
no_first_fault text members (TooDeep at) has first = first
no_first_fault text members NoMemory has first = first

no_member_fault : (text : List ℕ) (job : Job) (fault : JobFault) → IsJobOf text job
    → ¬ ((members : List Member) × IsObjectText most_levels text members × IsFirstFault text members fault)
no_member_fault text job fault (members, is, h) (others, also, first) =
    let same = one_object most_levels most_levels text others members also is in
    no_first_fault text members fault (job_has text members job h)
    (subst (λ m. IsFirstFault text m fault) same first)

pub fault_none : (text : List ℕ) (job : Job) (fault : JobFault) → IsJobOf text job → ¬ HasFault text fault
fault_none text job (Syntax at) is fault = fault.none most_levels is.0 is.1
fault_none text job (TooDeep at) is fault = text_not_deep IsObjectText text is.0 at is.1 fault
fault_none text job fault is has = no_member_fault text job fault is has

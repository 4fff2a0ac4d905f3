-- A file can hold the job of a text of fewer than 2^32 bytes.
use Rattle.std.proofs.Common.{◌≡◌, ℕ, ◌<◌, ◌≤◌, ℤ, pos, negsuc, neg_ℤ, ◌≤ℤ◌, List, [], ◌∷◌, length, map, filter, Option, None, Some, MatchOption, IfSome, codes, sym, subst, arith}
use Rattle.std.specs.Prelude.{All, FitsSigned}
use Rattle.std.specs.Int.{w64}
use Rattle.std.specs.Str.{byte}
use Rattle.std.proofs.lemmas.Bool.Decides.{nat_tests}
use Rattle.std.proofs.lemmas.Int.{ints}
use Rattle.std.proofs.lemmas.List.Elements.{All-append, All-cons, All-nil}
use Rattle.fk_json.specs.declared.member.Member.{Member}
use Rattle.fk_json.specs.Json.{most_levels}
use Rattle.fk_json.specs.String.{IsString}
use Rattle.fk_time.specs.Reading.{moment_of, milliseconds}
use Rattle.fk_job.specs.declared.job.Job.{Job}
use Rattle.fk_job.specs.Fields.{IsMomentOf, IsQueueNamed, default_reserve, default_retry, least_reserve, most_reserve, reserve_seconds, retries}
use Rattle.fk_job.specs.JobText.{IsJob, IsJobOf, IsWithin}
use Rattle.fk_job.specs.Members.{body_of, counting_members, given_value, is_handed_on, sent_member, sent_value, value_of}
use Rattle.fk_job.specs.Spellings.{AreBytes, HasJobSpelling, IsMoment, IsQueueName, IsText}
use Rattle.fk_job.specs.Values.{IsAtIn, IsReserveIn, IsRetryIn}
use Rattle.fk_job.proofs.Bytes.{joined_bytes, range_bytes, string_bytes, utf8_bytes}
use Rattle.fk_job.proofs.Within.{is_within}
use Rattle.fk_job.proofs.WrittenJob.{named_utf8, queue_again}

-- ---- texts

found_bytes : (value : Option (List ℕ)) (decoded : List ℕ)
    → MatchOption value ⊥ (λ v. IsString v decoded) → AreBytes decoded
found_bytes None decoded is = absurd is
found_bytes (Some value) decoded is = string_bytes value decoded is

member_bytes : (text : List ℕ) → AreBytes text → (member : Member) → AreBytes (sent_member text member)
member_bytes text are member =
    All-append (λ b. b < 256) (_) (sent_value text member)
    (All-append (λ b. b < 256) _ (codes ":") (range_bytes text member.name_from member.name_to are)
    (All-cons (λ b. b < 256) 58 [] (omega arith) (All-nil (λ b. b < 256))))
    (range_bytes text member.from member.to are)

all_sent : (text : List ℕ) → AreBytes text → (members : List Member)
    → All AreBytes (map (sent_member text) members)
all_sent text are [] = All-nil AreBytes
all_sent text are (member ∷ members) =
    All-cons AreBytes (sent_member text member) (map (sent_member text) members)
    (member_bytes text are member) (all_sent text are members)

body_bytes : (text : List ℕ) (members : List Member) → AreBytes text → AreBytes (body_of text members)
body_bytes text members are =
    joined_bytes (byte ",") (map (sent_member text) (filter (is_handed_on text) (counting_members members)))
    (omega arith) (all_sent text are (filter (is_handed_on text) (counting_members members)))

-- ---- a queue, numbers and a moment

queue_name : (queue : List ℕ) → IsQueueNamed queue queue → IsQueueName queue
queue_name [] named = absurd (cc)
queue_name (first ∷ name) named = record { some = omega arith; plain = named.1 }

number_retries : (number : ℤ) → FitsSigned w64 number
    → (neg_ℤ (pos 1) ≤ℤ retries number) × FitsSigned w64 (retries number)
number_retries (pos times) fits = (omega (arith, ints), fits)
number_retries (negsuc below) fits = (omega (arith, ints), omega (arith, ints))

retry_fits : (value : Option (List ℕ)) (retry : ℤ)
    → MatchOption value (retry ≡ pos default_retry) (λ v. IsRetryIn v retry)
    → (neg_ℤ (pos 1) ≤ℤ retry) × FitsSigned w64 retry
retry_fits None retry is = rw is (omega (arith, ints), omega (arith, ints))
retry_fits (Some value) retry (number, is, counts) = rw counts (number_retries number is.fits)

seconds_fit : (number : ℤ) → number ≤ℤ pos most_reserve
    → (least_reserve ≤ reserve_seconds number) × (reserve_seconds number ≤ most_reserve)
seconds_fit (pos seconds) most = grind (arith, ints, nat_tests, most)
seconds_fit (negsuc below) most = (omega arith, omega arith)

reserve_fits : (value : Option (List ℕ)) (seconds : ℕ)
    → MatchOption value (seconds ≡ default_reserve) (λ v. IsReserveIn v seconds)
    → (least_reserve ≤ seconds) × (seconds ≤ most_reserve)
reserve_fits None seconds is = (omega (arith, is), omega (arith, is))
reserve_fits (Some value) seconds (number, is, most, counts) = rw counts (seconds_fit number most)

moment_fits : (number : ℤ) → IsMoment (moment_of number)
moment_fits (pos n) = omega arith
moment_fits (negsuc n) = omega arith

text_moment : (decoded : List ℕ) (at : Option ℕ) → IsMomentOf decoded at → IfSome at IsMoment
text_moment [] at none = rw none tt
text_moment (first ∷ text) at (moment, reads, is) =
    rw (is, reads.counted) (moment_fits (milliseconds reads.fields))

at_fits : (value : Option (List ℕ)) (at : Option ℕ) → MatchOption value (at ≡ None) (λ v. IsAtIn v at)
    → IfSome at IsMoment
at_fits None at none = rw none tt
at_fits (Some value) at (decoded, is, says) = text_moment decoded at says

-- ---- the job

spelled_of : (text : List ℕ) (members : List Member) (job : Job) → IsText text → IsWithin (length text) job
    → IsJob text members job → HasJobSpelling job
spelled_of text members job is_text within is =
    let named = queue_again text members job.queue is.queued in
    let retry = retry_fits (given_value text members (codes "retry")) job.retry is.retried in
    let reserve = reserve_fits (given_value text members (codes "reserve_for")) job.reserve_for is.reserved in
    record {
      jid = record {
        bytes = found_bytes (value_of text members (codes "jid")) job.jid is.named;
        short = omega (arith, within.jid, is_text.short);
      };
      jobtype = record {
        bytes = found_bytes (value_of text members (codes "jobtype")) job.jobtype is.typed;
        short = omega (arith, within.jobtype, is_text.short);
      };
      queue = record {
        bytes = utf8_bytes job.queue (named_utf8 job.queue named);
        short = omega (arith, within.queue, is_text.short);
      };
      named = queue_name job.queue named;
      retry = retry.0;
      retries = retry.1;
      least = reserve.0;
      most = reserve.1;
      due = at_fits (given_value text members (codes "at")) job.at is.due;
      body = record {
        bytes = subst AreBytes (sym is.body) (body_bytes text members is_text.bytes);
        short = omega (arith, within.body, is_text.short);
      };
    }

pub job_spelled : (text : List ℕ) (job : Job) → IsText text → IsJobOf text job → HasJobSpelling job
job_spelled text job is_text (members, object, is) =
    spelled_of text members job is_text (is_within most_levels text members job object is) is

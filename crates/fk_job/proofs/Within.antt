-- No text of a job is longer than the text that the job is of.
use Rattle.std.proofs.Common.{◌≡◌, ℕ, ◌-◌, ◌≤◌, Bool, true, false, if◌then◌else◌, List, [], ◌∷◌, length, take, drop, Option, None, Some, MatchOption, Result, Ok, Err, IfOk, find, reverse, codes, ap, arith}
use Rattle.std.proofs.lemmas.List.{length-drop, length-take}
use Rattle.std.specs.Option.{option_map}
use Rattle.std.specs.Str.{bytes_eq}
use Rattle.fk_json.specs.declared.member.Member.{Member}
use Rattle.fk_json.specs.Json.{IsObjectText}
use Rattle.fk_json.specs.String.{IsString}
use Rattle.fk_json.proofs.Unique.{string_shorter}
use Rattle.fk_job.specs.declared.job.Job.{Job}
use Rattle.fk_job.specs.Members.{is_named, sent_value, unless_null}
use Rattle.fk_job.specs.Fields.{HasString, IsQueueNamed, default_queue}
use Rattle.fk_job.specs.JobText.{IsJob, IsWithin}
use Rattle.fk_job.specs.Values.{IsQueueIn}
use Rattle.fk_job.proofs.Shorter.{body_shorter}

part_shorter : (n : ℕ) (text : List ℕ) → length (take n text) ≤ length text
part_shorter n text = omega (arith, length-take n text)

sent_shorter : (text : List ℕ) (member : Member) → length (sent_value text member) ≤ length text
sent_shorter text member =
    omega (arith, part_shorter (member.to - member.from) (drop member.from text), length-drop member.from text)

decoded_shorter : (text decoded : List ℕ) (member : Member) → IsString (sent_value text member) decoded
    → length decoded ≤ length text
decoded_shorter text decoded member is =
    omega (arith, string_shorter (sent_value text member) decoded is, sent_shorter text member)

-- a string that has to be there
found_shorter : (text decoded : List ℕ) (found : Option Member)
    → MatchOption (option_map (sent_value text) found) ⊥ (λ value. IsString value decoded)
    → length decoded ≤ length text
found_shorter text decoded None is = absurd is
found_shorter text decoded (Some member) is = decoded_shorter text decoded member is

string_within : (text : List ℕ) (members : List Member) (name decoded : List ℕ)
    → HasString text members name decoded → length decoded ≤ length text
string_within text members name decoded = found_shorter text decoded (find (is_named name) (reverse members))

-- a queue
named_shorter : (text name queue : List ℕ) → 8 ≤ length text → length name ≤ length text
    → IsQueueNamed name queue → length queue ≤ length text
named_shorter text [] queue long within named = omega (arith, ap length named)
named_shorter text (first ∷ name) queue long within named = omega (arith, ap length named.0)

given_shorter : (text queue : List ℕ) (member : Member) (is_null : Bool) → 8 ≤ length text
    → MatchOption (if is_null then None else Some (sent_value text member)) (queue ≡ default_queue)
    (λ value. IsQueueIn value queue) → length queue ≤ length text
given_shorter text queue member true long is = omega (arith, ap length is)
given_shorter text queue member false long (name, is, named) =
    named_shorter text name queue long (decoded_shorter text name member is) named

queue_shorter : (text queue : List ℕ) (found : Option Member) → 8 ≤ length text
    → MatchOption (unless_null (option_map (sent_value text) found)) (queue ≡ default_queue)
    (λ value. IsQueueIn value queue) → length queue ≤ length text
queue_shorter text queue None long is = omega (arith, ap length is)
queue_shorter text queue (Some member) long is =
    given_shorter text queue member (bytes_eq (sent_value text member) (codes "null")) long is

pub is_within : (levels : ℕ) (text : List ℕ) (members : List Member) (job : Job)
    → IsObjectText levels text members → IsJob text members job → IsWithin (length text) job
is_within levels text members job object is =
    let jid = string_within text members (codes "jid") job.jid is.named in
    let long : 8 ≤ length text = omega (arith, jid, is.long) in
    record {
      jid = jid;
      jobtype = string_within text members (codes "jobtype") job.jobtype is.typed;
      queue = queue_shorter text job.queue (find (is_named (codes "queue")) (reverse members)) long is.queued;
      body = omega (arith, ap length is.body, body_shorter levels text members object);
    }

pub within_ok : {E : Type 0} (r : Result Job E) (levels : ℕ) (text : List ℕ) (members : List Member)
    → IsObjectText levels text members → IfOk r (IsJob text members) → IfOk r (IsWithin (length text))
within_ok (Ok job) levels text members object is = is_within levels text members job object is
within_ok (Err fault) levels text members object is = tt

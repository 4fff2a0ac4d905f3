-- The first fault of a text's members is the fault of the text.
use Rattle.std.proofs.Common.{◌≡◌, ◌⊎◌, inl, inr, ℕ, List, Result, Ok, Err, IfErr}
use Rattle.fk_json.specs.declared.member.Member.{Member}
use Rattle.fk_json.specs.Json.{IsObjectText, most_levels}
use Rattle.fk_job.specs.declared.fault.JobFault.{JobFault}
use Rattle.fk_job.specs.declared.fault.JobFault.TheVariants.{NoJid, ShortJid, NoType, NoArgs, BadQueue, BadReserve, BadRetry, BadAt, Syntax, TooDeep, NoMemory}
use Rattle.fk_job.specs.JobText.{HasFault, IsFirstFault}

first_of : (text : List ℕ) (members : List Member) (fault : JobFault) → IsObjectText most_levels text members
    → IsFirstFault text members fault → HasFault text fault
first_of text members (Syntax at) is first = absurd first
first_of text members (TooDeep at) is first = absurd first
first_of text members NoMemory is first = absurd first
first_of text members NoJid is first = (members, is, first)
first_of text members ShortJid is first = (members, is, first)
first_of text members NoType is first = (members, is, first)
first_of text members NoArgs is first = (members, is, first)
first_of text members BadQueue is first = (members, is, first)
first_of text members BadReserve is first = (members, is, first)
first_of text members BadRetry is first = (members, is, first)
first_of text members BadAt is first = (members, is, first)

-- the fault that is reported: the first, or want of memory
abbrev pub IsReported : List ℕ → List Member → JobFault → Type 0
IsReported text members fault = (fault ≡ NoMemory) ⊎ IsFirstFault text members fault

reported : (text : List ℕ) (members : List Member) (fault : JobFault) → IsObjectText most_levels text members
    → IsReported text members fault → (fault ≡ NoMemory) ⊎ HasFault text fault
reported text members fault is (inl memory) = inl memory
reported text members fault is (inr first) = inr (first_of text members fault is first)

pub reported_err : {X : Type 0} (r : Result X JobFault) (text : List ℕ) (members : List Member)
    → IsObjectText most_levels text members → IfErr r (IsReported text members)
    → IfErr r (λ fault. (fault ≡ NoMemory) ⊎ HasFault text fault)
reported_err (Ok x) text members is first = tt
reported_err (Err fault) text members is first = reported text members fault is first

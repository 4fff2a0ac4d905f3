-- A text has one fault at most.
use Rattle.std.proofs.Common.{◌≡◌, ◌⊎◌, inl, inr, ℕ, List, refl, sym, ap, subst, ◌∙◌}
use Rattle.fk_json.specs.declared.member.Member.{Member}
use Rattle.fk_json.specs.Json.{FailsAt, IsObjectText, IsTooDeepAt, most_levels}
use Rattle.fk_json.proofs.OnePlace.{depth_one, fails_or_deep, place_one, text_no_fault, text_not_deep}
use Rattle.fk_json.proofs.Unique.{one_object}
use Rattle.fk_job.specs.declared.fault.JobFault.{JobFault}
use Rattle.fk_job.specs.declared.fault.JobFault.TheVariants.{NoJid, ShortJid, NoType, NoArgs, BadQueue, BadReserve, BadRetry, BadAt, Syntax, TooDeep, NoMemory}
use Rattle.fk_job.specs.JobText.{HasArgs, HasAt, HasFault, HasJid, HasLongJid, HasQueue, HasReserve, HasRetry, HasType, IsFirstFault}

-- ---- the first fault of members

-- the fault is this one and something doesn't hold, or that holds and the fault is a later one
abbrev Or : Type 0 → JobFault → (JobFault → Type 0) → JobFault → Type 0
Or Held this Later fault = ((fault ≡ this) × ¬ Held) ⊎ (Held × Later fault)

or_one : (Held : Type 0) (this : JobFault) (Later : JobFault → Type 0)
    → ((one other : JobFault) → Later one → Later other → one ≡ other)
    → (one other : JobFault) → Or Held this Later one → Or Held this Later other → one ≡ other
or_one Held this Later later one other (inl is) (inl also) = is.0 ∙ sym also.0
or_one Held this Later later one other (inl is) (inr held) = absurd (is.1 held.0)
or_one Held this Later later one other (inr held) (inl is) = absurd (is.1 held.0)
or_one Held this Later later one other (inr is) (inr also) = later one other is.1 also.1

-- the faults in order, from each on
abbrev FromAt : List ℕ → List Member → JobFault → Type 0
FromAt text members = Or (HasAt text members) BadAt (λ _. ⊥)

abbrev FromRetry : List ℕ → List Member → JobFault → Type 0
FromRetry text members = Or (HasRetry text members) BadRetry (FromAt text members)

abbrev FromReserve : List ℕ → List Member → JobFault → Type 0
FromReserve text members = Or (HasReserve text members) BadReserve (FromRetry text members)

abbrev FromQueue : List ℕ → List Member → JobFault → Type 0
FromQueue text members = Or (HasQueue text members) BadQueue (FromReserve text members)

abbrev FromArgs : List ℕ → List Member → JobFault → Type 0
FromArgs text members = Or (HasArgs text members) NoArgs (FromQueue text members)

abbrev FromType : List ℕ → List Member → JobFault → Type 0
FromType text members = Or (HasType text members) NoType (FromArgs text members)

abbrev FromLong : List ℕ → List Member → JobFault → Type 0
FromLong text members = Or (HasLongJid text members) ShortJid (FromType text members)

abbrev FromJid : List ℕ → List Member → JobFault → Type 0
FromJid text members = Or (HasJid text members) NoJid (FromLong text members)

from_one : (text : List ℕ) (members : List Member) (one other : JobFault) → FromJid text members one
    → FromJid text members other → one ≡ other
from_one text members =
    or_one (HasJid text members) NoJid (FromLong text members)
    (or_one (HasLongJid text members) ShortJid (FromType text members)
    (or_one (HasType text members) NoType (FromArgs text members)
    (or_one (HasArgs text members) NoArgs (FromQueue text members)
    (or_one (HasQueue text members) BadQueue (FromReserve text members)
    (or_one (HasReserve text members) BadReserve (FromRetry text members)
    (or_one (HasRetry text members) BadRetry (FromAt text members)
    (or_one (HasAt text members) BadAt (λ _. ⊥) (λ one other is also. absurd is))))))))

-- what holds has all before it
behind_long : (text : List ℕ) (members : List Member) (fault : JobFault) → HasLongJid text members
    → FromType text members fault → FromJid text members fault
behind_long text members fault has later = inr ((has.0, has.1), inr (has, later))

behind_type : (text : List ℕ) (members : List Member) (fault : JobFault) → HasType text members
    → FromArgs text members fault → FromJid text members fault
behind_type text members fault has later = behind_long text members fault has.0 (inr (has, later))

behind_args : (text : List ℕ) (members : List Member) (fault : JobFault) → HasArgs text members
    → FromQueue text members fault → FromJid text members fault
behind_args text members fault has later = behind_type text members fault has.0 (inr (has, later))

behind_queue : (text : List ℕ) (members : List Member) (fault : JobFault) → HasQueue text members
    → FromReserve text members fault → FromJid text members fault
behind_queue text members fault has later = behind_args text members fault has.0 (inr (has, later))

behind_reserve : (text : List ℕ) (members : List Member) (fault : JobFault) → HasReserve text members
    → FromRetry text members fault → FromJid text members fault
behind_reserve text members fault has later = behind_queue text members fault has.0 (inr (has, later))

behind_retry : (text : List ℕ) (members : List Member) (fault : JobFault) → HasRetry text members
    → FromAt text members fault → FromJid text members fault
behind_retry text members fault has later = behind_reserve text members fault has.0 (inr (has, later))

in_order : (text : List ℕ) (members : List Member) (fault : JobFault) → IsFirstFault text members fault
    → FromJid text members fault
in_order text members NoJid first = inl (refl, first)
in_order text members ShortJid first = inr (first.0, inl (refl, first.1))
in_order text members NoType first = behind_long text members NoType first.0 (inl (refl, first.1))
in_order text members NoArgs first = behind_type text members NoArgs first.0 (inl (refl, first.1))
in_order text members BadQueue first = behind_args text members BadQueue first.0 (inl (refl, first.1))
in_order text members BadReserve first = behind_queue text members BadReserve first.0 (inl (refl, first.1))
in_order text members BadRetry first = behind_reserve text members BadRetry first.0 (inl (refl, first.1))
in_order text members BadAt first = behind_retry text members BadAt first.0 (inl (refl, first.1))
in_order text members (Syntax at) first = absurd first
in_order text members (TooDeep at) first = absurd first
in_order text members NoMemory first = absurd first

pub first_fault_one : (text : List ℕ) (members : List Member) (one other : JobFault)
    → IsFirstFault text members one → IsFirstFault text members other → one ≡ other
first_fault_one text members one other is also =
    from_one text members one other (in_order text members one is) (in_order text members other also)

-- ---- the fault of a text

-- a fault of the text as an object, or the first of its members
abbrev OfMembers : List ℕ → JobFault → Type 0
OfMembers text fault =
    (members : List Member) × IsObjectText most_levels text members × IsFirstFault text members fault

abbrev Sorted : List ℕ → JobFault → Type 0
Sorted text fault =
    ((at : ℕ) × (fault ≡ Syntax at) × FailsAt IsObjectText text at)
    ⊎ (((at : ℕ) × (fault ≡ TooDeep at) × IsTooDeepAt IsObjectText text at) ⊎ OfMembers text fault)

sorted : (text : List ℕ) (fault : JobFault) → HasFault text fault → Sorted text fault
sorted text (Syntax at) has = inl (at, refl, has)
sorted text (TooDeep at) has = inr (inl (at, refl, has))
sorted text fault has = inr (inr has)

members_one : (text : List ℕ) (one other : JobFault) → OfMembers text one → OfMembers text other → one ≡ other
members_one text one other (members, is, first) (others, also, early) =
    let same = one_object most_levels most_levels text others members also is in
    first_fault_one text members one other first (subst (λ m. IsFirstFault text m other) same early)

sorted_one : (text : List ℕ) (one other : JobFault) → Sorted text one → Sorted text other → one ≡ other
sorted_one text one other (inl (at, is, fails)) (inl (place, also, stops)) =
    is ∙ ap (λ n. Syntax n) (place_one IsObjectText text at place fails stops) ∙ sym also
sorted_one text one other (inl (at, is, fails)) (inr (inl (depth, also, deep))) =
    absurd (fails_or_deep IsObjectText text at depth fails deep)
sorted_one text one other (inl (at, is, fails)) (inr (inr (members, also, first))) =
    absurd (text_no_fault IsObjectText text members at also fails)
sorted_one text one other (inr (inl (depth, is, deep))) (inl (at, also, fails)) =
    absurd (fails_or_deep IsObjectText text at depth fails deep)
sorted_one text one other (inr (inl (depth, is, deep))) (inr (inl (place, also, low))) =
    is ∙ ap (λ n. TooDeep n) (depth_one IsObjectText text depth place deep low) ∙ sym also
sorted_one text one other (inr (inl (depth, is, deep))) (inr (inr (members, also, first))) =
    absurd (text_not_deep IsObjectText text members depth also deep)
sorted_one text one other (inr (inr (members, is, first))) (inl (at, also, fails)) =
    absurd (text_no_fault IsObjectText text members at is fails)
sorted_one text one other (inr (inr (members, is, first))) (inr (inl (depth, also, deep))) =
    absurd (text_not_deep IsObjectText text members depth is deep)
sorted_one text one other (inr (inr is)) (inr (inr also)) = members_one text one other is also

pub fault_one : (text : List ℕ) (one other : JobFault) → HasFault text one → HasFault text other → one ≡ other
fault_one text one other is also = sorted_one text one other (sorted text one is) (sorted text other also)

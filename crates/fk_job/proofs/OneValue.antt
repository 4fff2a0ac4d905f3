-- What the value of a member says is one thing, and when it says none.
use Rattle.std.proofs.Common.{◌≡◌, ◌≢◌, ◌↔◌, ℕ, zero, suc, ◌<◌, Bool, false, List, [], ◌∷◌, length, slice_get, Option, None, Some, Result, Ok, IfNone, MatchOption, IsTrue, codes, refl, sym, ap, subst, ◌∙◌, arith}
use Rattle.std.proofs.lemmas.Bool.{false≢true}
use Rattle.std.specs.List.{AllPass}
use Rattle.fk_json.specs.String.{IsString}
use Rattle.fk_json.specs.Json.{IsValue}
use Rattle.fk_json.specs.declared.member.Member.{Member}
use Rattle.fk_json.proofs.Strings.{one_value}
use Rattle.fk_json.proofs.Values.{value_array, value_flat}
use Rattle.fk_time.specs.Reading.{IsMomentText}
use Rattle.fk_job.specs.Members.{value_of}
use Rattle.fk_job.specs.Fields.{HasString, IsArrayValue, IsMomentOf, IsQueueNamed, is_queue_byte, least_jid_length}
use Rattle.fk_job.specs.JobText.{HasJid, HasLongJid}
use Rattle.fk_job.specs.Values.{IsAtIn, IsQueueIn, IsSomeValue, IsType}

-- ---- strings

one_in : (o : Option (List ℕ)) (a b : List ℕ) → MatchOption o ⊥ (λ value. IsString value a)
    → MatchOption o ⊥ (λ value. IsString value b) → a ≡ b
one_in None a b here there = absurd here
one_in (Some value) a b here there = one_value value a b here there

pub one_string : (text : List ℕ) (members : List Member) (name a b : List ℕ)
    → HasString text members name a → HasString text members name b → a ≡ b
one_string text members name a b = one_in (value_of text members name) a b

pub short_jid : (text : List ℕ) (members : List Member) (jid : List ℕ)
    → HasString text members (codes "jid") jid → length jid < least_jid_length
    → HasJid text members × ¬ HasLongJid text members
short_jid text members jid is short = (
  (jid, is),
  λ (other, also, long).
      let same = one_string text members (codes "jid") jid other is also in
      absurd (omega (arith, ap length same)),
)

pub empty_type : (text : List ℕ) (members : List Member) (found : List ℕ)
    → HasString text members (codes "jobtype") found → found ≡ [] → (jobtype : List ℕ)
    → ¬ IsType text members jobtype
empty_type text members found is none jobtype (also, some) =
    let same = one_string text members (codes "jobtype") found jobtype is also in
    absurd (omega (arith, ap length same, ap length none))

-- ---- arrays

begins_array : (levels : ℕ) (rest : List ℕ) → IsValue levels (91 ∷ rest) → IsArrayValue (91 ∷ rest)
begins_array zero rest value = absurd ((value_flat rest).0 value)
begins_array (suc levels) rest value =
    let (elements, array) = (value_array levels rest).0 value in
    (levels, elements, array)

pub bracket_array : (value : List ℕ) (byte : ℕ) → IsSomeValue value → Some byte ≡ slice_get value 0
    → byte ≡ 91 → IsArrayValue value
bracket_array [] byte is begins e = absurd (cc)
bracket_array (first ∷ rest) byte is begins e =
    let same : first ≡ 91 = cc in
    subst (λ b. IsArrayValue (b ∷ rest)) (sym same)
    (begins_array is.0 rest (subst (λ b. IsValue is.0 (b ∷ rest)) same is.1))

pub array_bracket : (value : List ℕ) → IsArrayValue value → slice_get value 0 ≡ Some 91
array_bracket value (levels, elements, (inner, items, whole)) = ap (λ l. slice_get l 0) whole

-- ---- queues

pub bad_name : (value name queue : List ℕ) → IsString value name → name ≢ [] → ¬ AllPass is_queue_byte name
    → ¬ IsQueueIn value queue
bad_name value [] queue is some bad = absurd (some refl)
bad_name value (first ∷ name) queue is some bad = λ (other, also, named).
    let same = one_value value other (first ∷ name) also is in
    let there : IsQueueNamed (first ∷ name) queue = subst (λ l. IsQueueNamed l queue) same named in
    bad there.1

pub good_name : (value name : List ℕ) → IsString value name → name ≢ [] → AllPass is_queue_byte name
    → IsQueueIn value name
good_name value [] is some good = absurd (some refl)
good_name value (first ∷ name) is some good = (first ∷ name, is, (refl, good))

-- ---- moments

pub bad_moment : (value decoded : List ℕ) (at : Option ℕ) → IsString value decoded → decoded ≢ []
    → ¬ IsMomentText decoded → ¬ IsAtIn value at
bad_moment value [] at is some bad = absurd (some refl)
bad_moment value (first ∷ decoded) at is some bad = λ (other, also, said).
    let same = one_value value other (first ∷ decoded) also is in
    let there : IsMomentOf (first ∷ decoded) at = subst (λ l. IsMomentOf l at) same said in
    bad (there.0, there.1)

-- ---- what none of a value is, is none of the member

pub none_given : {X : Type 0} (r : Option X) (o : Option (List ℕ)) (value : List ℕ) (D : X → Type 0)
    (I : List ℕ → X → Type 0) → Some value ≡ o → IfNone r ((x : X) → ¬ I value x)
    → IfNone r ((x : X) → ¬ MatchOption o (D x) (λ v. I v x))
none_given r o value D I e h =
    subst (λ p. IfNone r ((x : _) → ¬ MatchOption p (D x) (λ v. I v x))) e h

pub no_string : {E : Type 0} (r : Result (Option (List ℕ)) E) (found : Option (List ℕ)) (value : List ℕ)
    → (r ≡ Ok None → (decoded : List ℕ) → ¬ IsString value decoded) → r ≡ Ok found → found ≡ None
    → (decoded : List ℕ) → ¬ IsString value decoded
no_string r found value none was is = none (was ∙ ap Ok is)

pub some_text : {t : Bool} {text : List ℕ} → (IsTrue t ↔ (text ≡ [])) → t ≡ false → text ≢ []
some_text empty is = λ e. absurd (false≢true (sym is ∙ empty.1 e))

pub only_true : {t : Bool} {P : Type 0} → (IsTrue t ↔ P) → t ≡ false → ¬ P
only_true says is = λ p. false≢true (sym is ∙ says.1 p)

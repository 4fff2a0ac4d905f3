-- Each field of a job that has a default is as it has to be, or it isn't; and where it is, it is one.
use Rattle.std.proofs.Common.{◌≡◌, inl, inr, ℕ, ◌^◌, ℤ, pos, negsuc, ◌≤ℤ◌, FitsSigned, Bool, true, false, List, [], ◌∷◌, Option, None, Some, MatchOption, codes, refl, sym, ap, subst, ◌∙◌, arith}
use Rattle.std.specs.Int.{w64}
use Rattle.std.specs.List.{list_all}
use Rattle.std.proofs.lemmas.Bool.{cases_Bool, cases_lt, false≢true}
use Rattle.std.proofs.lemmas.List.Sums.{AllPass-from_list_all, list_all-from_AllPass}
use Rattle.fk_json.specs.String.{IsString}
use Rattle.fk_json.specs.Number.{IsInteger, integer_of, is_integer}
use Rattle.fk_json.specs.declared.member.Member.{Member}
use Rattle.fk_json.proofs.Decided.{string_decided}
use Rattle.fk_json.proofs.Integers.{integer_from_test, test_from_integer}
use Rattle.fk_json.proofs.Strings.{one_value}
use Rattle.fk_time.proofs.Decided.{Decision, moment_decided, signed_decided}
use Rattle.fk_time.proofs.Forms.{reads_one}
use Rattle.fk_job.specs.Members.{given_value}
use Rattle.fk_job.specs.Fields.{IsAt, IsInteger64, IsMomentOf, IsQueue, IsQueueNamed, IsReserve, IsRetry, default_queue, default_reserve, default_retry, is_queue_byte, most_reserve, reserve_seconds, retries}

-- ---- fields with a default

-- what a value says, or the default
abbrev Given : {X : Type 0} → X → (List ℕ → X → Type 0) → Option (List ℕ) → X → Type 0
Given usual Says o x = MatchOption o (x ≡ usual) (λ value. Says value x)

given_decided : {X : Type 0} (usual : X) (Says : List ℕ → X → Type 0)
    → ((value : List ℕ) → Decision ((x : X) × Says value x))
    → (o : Option (List ℕ)) → Decision ((x : X) × Given usual Says o x)
given_decided usual Says says None = inl (usual, refl)
given_decided usual Says says (Some value) = says value

-- it says one thing
abbrev SaysOne : {X : Type 0} → (List ℕ → X → Type 0) → Type 0
SaysOne {X} Says = (value : List ℕ) (x y : X) → Says value x → Says value y → x ≡ y

given_one : {X : Type 0} (usual : X) (Says : List ℕ → X → Type 0) → SaysOne Says
    → (o : Option (List ℕ)) (x y : X) → Given usual Says o x → Given usual Says o y → x ≡ y
given_one usual Says one None x y h k = h ∙ sym k
given_one usual Says one (Some value) x y h k = one value x y h k

-- what a string says
abbrev Decoded : {X : Type 0} → (List ℕ → X → Type 0) → List ℕ → X → Type 0
Decoded Says value x = (decoded : List ℕ) × IsString value decoded × Says decoded x

by_decoded : {X : Type 0} (Says : List ℕ → X → Type 0) (value decoded : List ℕ) → IsString value decoded
    → Decision ((x : X) × Says decoded x) → Decision ((x : X) × Decoded Says value x)
by_decoded Says value decoded is (inl (x, says)) = inl (x, (decoded, is, says))
by_decoded Says value decoded is (inr none) =
    inr (λ (x, (other, also, says)).
    none (x, subst (λ l. Says l x) (one_value value other decoded also is) says))

decoded_decided : {X : Type 0} (Says : List ℕ → X → Type 0)
    → ((decoded : List ℕ) → Decision ((x : X) × Says decoded x))
    → (value : List ℕ) → Decision ((x : X) × Decoded Says value x)
decoded_decided Says says value =
    elim (string_decided value) [
      | inl (decoded, is) ↦ by_decoded Says value decoded is (says decoded)
      | inr none ↦ inr (λ (x, (decoded, is, said)). none decoded is)
    ]

decoded_one : {X : Type 0} (Says : List ℕ → X → Type 0) → SaysOne Says → SaysOne (Decoded Says)
decoded_one Says one value x y (decoded, is, says) (other, also, said) =
    one other x y (subst (λ l. Says l x) (one_value value decoded other is also) says) said

-- ---- the queue

by_bytes : (first : ℕ) (name : List ℕ) → (good : Bool) → list_all is_queue_byte (first ∷ name) ≡ good
    → Decision ((queue : List ℕ) × IsQueueNamed (first ∷ name) queue)
by_bytes first name true e = inl (first ∷ name, (refl, AllPass-from_list_all is_queue_byte (first ∷ name) e))
by_bytes first name false e =
    inr (λ (queue, (same, good)).
    false≢true (sym e ∙ list_all-from_AllPass is_queue_byte (first ∷ name) good))

queue_named : (name : List ℕ) → Decision ((queue : List ℕ) × IsQueueNamed name queue)
queue_named [] = inl (default_queue, refl)
queue_named (first ∷ name) = by_bytes first name (list_all is_queue_byte (first ∷ name)) refl

queue_named_one : SaysOne IsQueueNamed
queue_named_one [] x y h k = h ∙ sym k
queue_named_one (first ∷ name) x y h k = h.0 ∙ sym k.0

pub queue_there : (text : List ℕ) (members : List Member)
    → Decision ((queue : List ℕ) × IsQueue text members queue)
queue_there text members =
    given_decided default_queue (Decoded IsQueueNamed) (decoded_decided IsQueueNamed queue_named)
    (given_value text members (codes "queue"))

pub queue_one : (text : List ℕ) (members : List Member) (a b : List ℕ) → IsQueue text members a
    → IsQueue text members b → a ≡ b
queue_one text members a b =
    given_one default_queue (Decoded IsQueueNamed) (decoded_one IsQueueNamed queue_named_one)
    (given_value text members (codes "queue")) a b

-- ---- the moment

moment_of_text : (text : List ℕ) → Decision ((at : Option ℕ) × IsMomentOf text at)
moment_of_text [] = inl (None, refl)
moment_of_text (first ∷ text) =
    elim (moment_decided (first ∷ text)) [
      | inl (moment, reads) ↦ inl (Some moment, (moment, reads, refl))
      | inr none ↦ inr (λ (at, (moment, reads, is)). none moment reads)
    ]

moment_of_one : SaysOne IsMomentOf
moment_of_one [] x y h k = h ∙ sym k
moment_of_one (first ∷ text) x y (m, reads, is) (n, also, was) =
    is ∙ ap Some (reads_one (first ∷ text) m n reads also) ∙ sym was

pub at_there : (text : List ℕ) (members : List Member) → Decision ((at : Option ℕ) × IsAt text members at)
at_there text members =
    given_decided None (Decoded IsMomentOf) (decoded_decided IsMomentOf moment_of_text)
    (given_value text members (codes "at"))

pub at_one : (text : List ℕ) (members : List Member) (a b : Option ℕ) → IsAt text members a
    → IsAt text members b → a ≡ b
at_one text members a b =
    given_one None (Decoded IsMomentOf) (decoded_one IsMomentOf moment_of_one)
    (given_value text members (codes "at")) a b

-- ---- numbers

fits_decided : (number : ℤ) → Decision (FitsSigned w64 number)
fits_decided (pos n) =
    elim (cases_lt n (2 ^ 63)) [
      | inl small ↦ inl (record { sfits = small })
      | inr large ↦ inr (λ h. absurd (omega (arith, large, h.sfits)))
    ]
fits_decided (negsuc n) =
    elim (cases_lt n (2 ^ 63)) [
      | inl small ↦ inl (record { sfits = small })
      | inr large ↦ inr (λ h. absurd (omega (arith, large, h.sfits)))
    ]

by_fits : (value : List ℕ) → IsInteger value → Decision (FitsSigned w64 (integer_of value))
    → Decision ((number : ℤ) × IsInteger64 value number)
by_fits value is (inl fits) = inl (integer_of value, record { spelled = is; counted = refl; fits = fits })
by_fits value is (inr none) = inr (λ (number, h). none (subst (FitsSigned w64) h.counted h.fits))

integer64_decided : (value : List ℕ) → Decision ((number : ℤ) × IsInteger64 value number)
integer64_decided value =
    elim (cases_Bool (is_integer value)) [
      | inl passes ↦ by_fits value (integer_from_test value passes) (fits_decided (integer_of value))
      | inr fails ↦ inr (λ (number, h). false≢true (sym fails ∙ test_from_integer value h.spelled))
    ]

integer64_one : SaysOne IsInteger64
integer64_one value x y h k = h.counted ∙ sym k.counted

abbrev SaysReserve : List ℕ → ℕ → Type 0
SaysReserve value seconds =
    (number : ℤ) × IsInteger64 value number × (number ≤ℤ pos most_reserve)
    × (seconds ≡ reserve_seconds number)

by_most : (value : List ℕ) (number : ℤ) → IsInteger64 value number → Decision (number ≤ℤ pos most_reserve)
    → Decision ((seconds : ℕ) × SaysReserve value seconds)
by_most value number is (inl below) = inl (reserve_seconds number, (number, is, below, refl))
by_most value number is (inr above) =
    inr (λ (seconds, (other, also, below, e)).
    above (subst (λ z. z ≤ℤ pos most_reserve) (integer64_one value other number also is) below))

reserve_says : (value : List ℕ) → Decision ((seconds : ℕ) × SaysReserve value seconds)
reserve_says value =
    elim (integer64_decided value) [
      | inl (number, is) ↦ by_most value number is (signed_decided number (pos most_reserve))
      | inr none ↦ inr (λ (seconds, (number, is, below, e)). none (number, is))
    ]

reserve_says_one : SaysOne SaysReserve
reserve_says_one value x y (m, is, below, e) (n, also, under, g) =
    e ∙ ap reserve_seconds (integer64_one value m n is also) ∙ sym g

pub reserve_there : (text : List ℕ) (members : List Member)
    → Decision ((seconds : ℕ) × IsReserve text members seconds)
reserve_there text members =
    given_decided default_reserve SaysReserve reserve_says (given_value text members (codes "reserve_for"))

pub reserve_one : (text : List ℕ) (members : List Member) (a b : ℕ) → IsReserve text members a
    → IsReserve text members b → a ≡ b
reserve_one text members a b =
    given_one default_reserve SaysReserve reserve_says_one
    (given_value text members (codes "reserve_for")) a b

abbrev SaysRetry : List ℕ → ℤ → Type 0
SaysRetry value retry = (number : ℤ) × IsInteger64 value number × (retry ≡ retries number)

retry_says : (value : List ℕ) → Decision ((retry : ℤ) × SaysRetry value retry)
retry_says value =
    elim (integer64_decided value) [
      | inl (number, is) ↦ inl (retries number, (number, is, refl))
      | inr none ↦ inr (λ (retry, (number, is, e)). none (number, is))
    ]

retry_says_one : SaysOne SaysRetry
retry_says_one value x y (m, is, e) (n, also, g) = e ∙ ap retries (integer64_one value m n is also) ∙ sym g

pub retry_there : (text : List ℕ) (members : List Member)
    → Decision ((retry : ℤ) × IsRetry text members retry)
retry_there text members =
    given_decided (pos default_retry) SaysRetry retry_says (given_value text members (codes "retry"))

pub retry_one : (text : List ℕ) (members : List Member) (a b : ℤ) → IsRetry text members a
    → IsRetry text members b → a ≡ b
retry_one text members a b =
    given_one (pos default_retry) SaysRetry retry_says_one (given_value text members (codes "retry")) a b

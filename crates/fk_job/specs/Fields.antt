-- The fields of a job in its text: what Faktory's job payload says, with this server's bounds and
-- defaults.
use Rattle.std.specs.Prelude.{◌≡◌, ℕ, ◌==◌, ◌||◌, nat_lt, Bool, if◌then◌else◌, ℤ, pos, negsuc, neg_ℤ, ◌≤ℤ◌, List, [], ◌∷◌, Option, None, Some, MatchOption, codes, FitsSigned}
use Rattle.std.specs.Char.{is_ascii_alphanumeric}
use Rattle.std.specs.Int.{w64}
use Rattle.std.specs.List.{AllPass}
use Rattle.std.specs.Str.{byte}
use Rattle.fk_json.specs.declared.member.Member.{Member}
use Rattle.fk_json.specs.declared.span.Span.{Span}
use Rattle.fk_json.specs.String.{IsString}
use Rattle.fk_json.specs.Number.{IsInteger, integer_of}
use Rattle.fk_json.specs.Json.{IsArray, IsValue}
use Rattle.fk_time.specs.Reading.{ReadsAs}
use Rattle.fk_job.specs.Members.{value_of, given_value}

-- the fewest bytes of a decoded jid
abbrev pub least_jid_length : ℕ
least_jid_length = 8

-- how often a job is tried again where it doesn't say
abbrev pub default_retry : ℕ
default_retry = 25

-- the fewest and the most seconds of a reservation, and those of one that isn't said or too short
abbrev pub least_reserve : ℕ
least_reserve = 60

abbrev pub most_reserve : ℕ
most_reserve = 86_400

abbrev pub default_reserve : ℕ
default_reserve = 1800

-- the queue of a job that names none
abbrev pub default_queue : List ℕ
default_queue = codes "default"

-- a string that has to be there
abbrev pub HasString : List ℕ → List Member → List ℕ → List ℕ → Type 0
HasString text members name decoded =
    MatchOption (value_of text members name) ⊥ (λ value. IsString value decoded)

-- an array of any depth, which the text that it stands in bounds
abbrev pub IsArrayValue : List ℕ → Type 0
IsArrayValue value =
    (levels : ℕ) × (elements : List Span) × IsArray (IsValue levels) 0 value elements

-- an array that has to be there
abbrev pub HasArray : List ℕ → List Member → List ℕ → Type 0
HasArray text members name = MatchOption (value_of text members name) ⊥ IsArrayValue

-- ASCII letters and digits, `.`, `_` and `-`
abbrev pub is_queue_byte : ℕ → Bool
is_queue_byte c = is_ascii_alphanumeric c || (c == byte ".") || (c == byte "_") || (c == byte "-")

-- the queue of a name: the empty one is the default
abbrev pub IsQueueNamed : List ℕ → List ℕ → Type 0
IsQueueNamed [] queue = queue ≡ default_queue
IsQueueNamed (first ∷ name) queue = (queue ≡ first ∷ name) × AllPass is_queue_byte (first ∷ name)

-- the queue of a job: absent, null or empty, it is the default
abbrev pub IsQueue : List ℕ → List Member → List ℕ → Type 0
IsQueue text members queue =
    MatchOption (given_value text members (codes "queue")) (queue ≡ default_queue)
    (λ value. (name : List ℕ) × IsString value name × IsQueueNamed name queue)

-- an integer of 64 bits with a sign
pub record IsInteger64 (value : List ℕ) (number : ℤ) : Type 0 where
  pub spelled : IsInteger value
  pub counted : number ≡ integer_of value
  pub fits : FitsSigned w64 number

-- the seconds that a number of them counts as: fewer than a minute are half an hour
abbrev pub reserve_seconds : ℤ → ℕ
reserve_seconds (pos seconds) = if nat_lt seconds least_reserve then default_reserve else seconds
reserve_seconds (negsuc below) = default_reserve

-- how long a worker may have the job
abbrev pub IsReserve : List ℕ → List Member → ℕ → Type 0
IsReserve text members seconds =
    MatchOption (given_value text members (codes "reserve_for")) (seconds ≡ default_reserve)
    (λ value. (number : ℤ) × IsInteger64 value number × (number ≤ℤ pos most_reserve)
    × (seconds ≡ reserve_seconds number))

-- how often a job is tried again: below -1 counts as -1
abbrev pub retries : ℤ → ℤ
retries (pos times) = pos times
retries (negsuc below) = neg_ℤ (pos 1)

-- how often the job is tried again
abbrev pub IsRetry : List ℕ → List Member → ℤ → Type 0
IsRetry text members retry =
    MatchOption (given_value text members (codes "retry")) (retry ≡ pos default_retry)
    (λ value. (number : ℤ) × IsInteger64 value number × (retry ≡ retries number))

-- the moment of a text: the empty one is none
abbrev pub IsMomentOf : List ℕ → Option ℕ → Type 0
IsMomentOf [] at = at ≡ None
IsMomentOf (first ∷ text) at = (moment : ℕ) × ReadsAs (first ∷ text) moment × (at ≡ Some moment)

-- when the job is due, if it says
abbrev pub IsAt : List ℕ → List Member → Option ℕ → Type 0
IsAt text members at =
    MatchOption (given_value text members (codes "at")) (at ≡ None)
    (λ value. (decoded : List ℕ) × IsString value decoded × IsMomentOf decoded at)

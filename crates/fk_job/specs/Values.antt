-- What the value of a job's member says, and when none is said.
use Rattle.std.specs.Prelude.{◌≡◌, ◌⊎◌, ℕ, ◌<◌, ◌≤ℤ◌, ℤ, pos, List, Option, length, codes}
use Rattle.std.specs.List.{AllByRecursion}
use Rattle.fk_json.specs.String.{IsString}
use Rattle.fk_json.specs.Json.{IsValue}
use Rattle.fk_json.specs.Members.{IsMemberIn, inner_levels}
use Rattle.fk_json.specs.declared.member.Member.{Member}
use Rattle.fk_job.specs.declared.fault.JobFault.{JobFault}
use Rattle.fk_job.specs.declared.fault.JobFault.TheVariants.{NoMemory}
use Rattle.fk_job.specs.Fields.{HasString, IsInteger64, IsMomentOf, IsQueueNamed, most_reserve, reserve_seconds, retries}

-- the members stand in the text
abbrev pub ArePlaced : List ℕ → List Member → Type 0
ArePlaced text members = AllByRecursion (IsMemberIn inner_levels text) members

-- a value of some depth
abbrev pub IsSomeValue : List ℕ → Type 0
IsSomeValue value = (levels : ℕ) × IsValue levels value

-- a `jobtype`
abbrev pub IsType : List ℕ → List Member → List ℕ → Type 0
IsType text members jobtype =
    HasString text members (codes "jobtype") jobtype × (0 < length jobtype)

-- the value of a `queue`, a `reserve_for`, a `retry` and an `at`
abbrev pub IsQueueIn : List ℕ → List ℕ → Type 0
IsQueueIn value queue = (name : List ℕ) × IsString value name × IsQueueNamed name queue

abbrev pub IsReserveIn : List ℕ → ℕ → Type 0
IsReserveIn value seconds =
    (number : ℤ) × IsInteger64 value number × (number ≤ℤ pos most_reserve)
    × (seconds ≡ reserve_seconds number)

abbrev pub IsRetryIn : List ℕ → ℤ → Type 0
IsRetryIn value retry = (number : ℤ) × IsInteger64 value number × (retry ≡ retries number)

abbrev pub IsAtIn : List ℕ → Option ℕ → Type 0
IsAtIn value at = (decoded : List ℕ) × IsString value decoded × IsMomentOf decoded at

-- there was no memory, or nothing is what was looked for and the fault says so
abbrev pub Fails : {X : Type 0} → JobFault → (X → Type 0) → JobFault → Type 0
Fails {X} bad IsIt fault = (fault ≡ NoMemory) ⊎ ((fault ≡ bad) × ((x : X) → ¬ IsIt x))

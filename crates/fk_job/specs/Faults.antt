-- The fault of a job whose text isn't read as JSON.
use Rattle.std.specs.Prelude.{◌≡◌}
use Rattle.fk_json.specs.declared.fault.JsonFault.{JsonFault}
use Rattle.fk_json.specs.declared.fault.JsonFault.TheVariants as json
use Rattle.fk_job.specs.declared.fault.JobFault.{JobFault}
use Rattle.fk_job.specs.declared.fault.JobFault.TheVariants as job

-- the same fault, at the same place
abbrev pub IsFaultOf : JsonFault → JobFault → Type 0
IsFaultOf (json.Syntax at) fault = fault ≡ job.Syntax at
IsFaultOf (json.TooDeep at) fault = fault ≡ job.TooDeep at
IsFaultOf json.NoMemory fault = fault ≡ job.NoMemory

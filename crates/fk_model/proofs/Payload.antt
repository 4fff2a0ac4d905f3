-- What is decided of texts, and so: a PUSH and a PUSHB always give something.
use Rattle.std.proofs.Common.{ℕ, List}
use Rattle.fk_json.specs.Json.{most_levels}
use Rattle.fk_json.proofs.Decided.{array_decided, object_decided, string_decided}
use Rattle.fk_json.proofs.Unique.{one_object}
use Rattle.fk_job.proofs.Decided.{job_decided}
use Rattle.fk_model.specs.declared.item.Item.{Item}
use Rattle.fk_model.specs.Payloads.{IsBatch, IsPushed}
use Rattle.fk_model.proofs.Total as total
use Rattle.fk_model.proofs.Total.{Laws}

pub laws : Laws
laws = record {
  jobs = job_decided;
  objects = object_decided;
  arrays = array_decided;
  strings = string_decided;
  one_object = one_object most_levels most_levels;
}

pub push_total : (arguments : List ℕ) → (item : Item) × IsPushed arguments item
push_total arguments = total.push_total laws arguments

pub batch_total : (arguments : List ℕ) → (item : Item) × IsBatch arguments item
batch_total arguments = total.batch_total laws arguments

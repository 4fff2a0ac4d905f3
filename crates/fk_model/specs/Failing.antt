-- A job failed: the failure that its row has then, where that stands, and the counts.
use Rattle.std.specs.Prelude.{ℕ, List, [], Option, None, Some, option_map, codes}
use Rattle.std.specs.Option.{option_map_or}
use Rattle.fk_job.specs.declared.failure.Failure.{Failure}
use Rattle.fk_job.specs.declared.stamp.Stamp.{Stamp}
use Rattle.fk_model.specs.declared.row.Row.{Row}
use Rattle.fk_model.specs.declared.place.Place.{Place}
use Rattle.fk_model.specs.declared.place.Place.TheVariants.{Retry, Dead}
use Rattle.fk_model.specs.declared.fate.Fate.{Fate}
use Rattle.fk_model.specs.declared.fate.Fate.TheVariants as fate
use Rattle.fk_model.specs.Limits.{raised}
use Rattle.fk_model.specs.Rows.{ticket_of, row_of, with_row, without_row}
use Rattle.fk_model.specs.State.{KeptState}
use Rattle.fk_model.specs.Fate.{fate}

-- why a job failed: a name for what went wrong, words on it, and where the code was, line by line
pub record Reason : Type 0 where
  pub errtype : List ℕ
  pub message : List ℕ
  pub backtrace : List (List ℕ)

-- why a job failed whose reservation has run out
abbrev pub expiry : Reason
expiry = record {
  errtype = codes "ReservationExpired";
  message = codes "Faktory job reservation expired";
  backtrace = [];
}

-- how often the job failed before, up to 2^64 - 1
abbrev pub failures_before : Stamp → ℕ
failures_before stamp = option_map_or (λ failure. raised failure.count) stamp.failure 0

-- what becomes of a row whose job failed
abbrev pub fate_of : ℕ → ℕ → ℕ × Row → Fate
fate_of moment word filed =
    fate (row_of filed).job.retry (failures_before (row_of filed).stamp) (ticket_of filed) word moment

-- when it is tried again, if it is
abbrev pub tried_at : Fate → Option ℕ
tried_at (fate.Retry at) = Some at
tried_at other = None

-- where it stands then, unless it leaves
abbrev pub place_of : Fate → Option Place
place_of fate.Drop = None
place_of (fate.Retry at) = Some (Retry at)
place_of (fate.Dead until) = Some (Dead until)

-- its failure
abbrev pub failure_of : Reason → ℕ → ℕ → ℕ × Row → Failure
failure_of reason moment word filed = record {
  count = failures_before (row_of filed).stamp;
  failed = moment;
  next = tried_at (fate_of moment word filed);
  errtype = reason.errtype;
  message = reason.message;
  backtrace = reason.backtrace;
}

-- a row with this failure, in this place
abbrev pub failed_in : Row → Failure → Place → Row
failed_in row failure place =
    record row {
      stamp = record { created = row.stamp.created; enqueued = row.stamp.enqueued; failure = Some failure };
      place = place;
    }

-- the row as it is then, unless it leaves
abbrev pub failed_row : Reason → ℕ → ℕ → ℕ × Row → Option Row
failed_row reason moment word filed =
    option_map (failed_in (row_of filed) (failure_of reason moment word filed))
    (place_of (fate_of moment word filed))

-- rows of which the one of a ticket is as it is then, or has left
abbrev pub with_outcome : List (ℕ × Row) → ℕ → Option Row → List (ℕ × Row)
with_outcome rows ticket None = without_row rows ticket
with_outcome rows ticket (Some row) = with_row rows ticket row

-- a row has met its fate, and both counts have risen, up to 2^64 - 1
abbrev pub failed : Reason → ℕ → ℕ → KeptState → ℕ × Row → KeptState
failed reason moment word kept filed =
    record kept {
      rows = with_outcome kept.rows (ticket_of filed) (failed_row reason moment word filed);
      processed = raised kept.processed;
      failures = raised kept.failures;
    }

-- What of a well kept state holds of it even where its next number is beyond the greatest.
use Rattle.std.proofs.Common.{ℕ}
use Rattle.std.specs.Prelude.{All}
use Rattle.std.proofs.lemmas.List.Elements.{All-weaker}
use Rattle.fk_job.specs.Spellings.{HasJobSpelling}
use Rattle.fk_model.specs.declared.row.Row.{Row}
use Rattle.fk_model.specs.declared.move_.Move.TheVariants.{Add}
use Rattle.fk_model.specs.Rows.{ticket_of, row_of, IsByTicket}
use Rattle.fk_model.specs.State.{KeptState}
use Rattle.fk_model.specs.Spellings.{HasSpelling}
use Rattle.fk_model.specs.Between.{IsAboveAll, IsWellKept}

-- the job of a row can be written
abbrev pub HasJob : ℕ × Row → Type 0
HasJob filed = HasJobSpelling (row_of filed).job

-- rows in order of ticket, below the next number, of jobs that can be written
pub record IsOrderly (kept : KeptState) : Type 0 where
  pub by_ticket : IsByTicket kept.rows
  pub above : IsAboveAll kept.next kept.rows
  pub jobs : All HasJob kept.rows

pub orderly : (kept : KeptState) → IsWellKept kept → IsOrderly kept
orderly kept well = record {
  by_ticket = well.by_ticket;
  above = well.above;
  jobs = All-weaker (λ filed. HasSpelling (Add (ticket_of filed) (row_of filed))) HasJob
      (λ filed spelled. spelled.1.job) kept.rows well.spelled;
}

-- A kept state whose tables are tied, with a next number above all, is well kept.
use Rattle.fk_model.specs.Spellings.{IsWord}
use Rattle.fk_model.specs.State.{KeptState}
use Rattle.fk_model.specs.Between.{IsAboveAll, IsWellKept}
use Rattle.fk_core.specs.Index.{Index}
use Rattle.fk_core.specs.Tied.{AreTied}

pub well_kept : (kept : KeptState) (index : Index) → AreTied kept.rows index kept.next
    → IsWord kept.processed → IsWord kept.failures → IsAboveAll kept.next kept.rows → IsWellKept kept
well_kept kept index tied processed failures above = record {
  by_ticket = tied.by_ticket;
  above = above;
  distinct = tied.distinct;
  spelled = tied.spelled;
  processed = processed;
  failures = failures;
}

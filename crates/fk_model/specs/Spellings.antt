-- The bounds of what is written into a file: of a move with a spelling each number, text and list is
-- within its bound.
use Rattle.std.specs.Prelude.{ℕ, ◌<◌, ◌≤◌, List, length, Option, IfSome, All}
use Rattle.fk_job.specs.declared.failure.Failure.{Failure}
use Rattle.fk_job.specs.Spellings.{HasJobSpelling, IsMoment, IsText, text_limit}
use Rattle.fk_model.specs.declared.row.Row.{Row}
use Rattle.fk_model.specs.declared.place.Place.{Place}
use Rattle.fk_model.specs.declared.place.Place.TheVariants.{Queued, Scheduled, Retry, Dead, Working}
use Rattle.fk_model.specs.declared.move_.Move.{Move}
use Rattle.fk_model.specs.declared.move_.Move.TheVariants.{Add, Put, Drop, DropAll, Totals}
use Rattle.fk_model.specs.Limits.{greatest_count}

-- a number of 64 bits
abbrev pub IsWord : ℕ → Type 0
IsWord n = n ≤ greatest_count

-- texts, fewer than 2^32
pub record AreTexts (texts : List (List ℕ)) : Type 0 where
  pub each : All IsText texts
  pub short : length texts < text_limit

-- a failure that a file can hold
pub record HasFailureSpelling (failure : Failure) : Type 0 where
  pub count : IsWord failure.count
  pub failed : IsMoment failure.failed
  pub next : IfSome failure.next IsMoment
  pub errtype : IsText failure.errtype
  pub message : IsText failure.message
  pub backtrace : AreTexts failure.backtrace

-- a place that a file can hold
abbrev pub HasPlaceSpelling : Place → Type 0
HasPlaceSpelling (Queued rank) = IsWord rank
HasPlaceSpelling (Scheduled at) = IsMoment at
HasPlaceSpelling (Retry at) = IsMoment at
HasPlaceSpelling (Dead until) = IsMoment until
HasPlaceSpelling (Working wid since until) = IsText wid × IsMoment since × IsMoment until

-- what a move says of a row but its job and when it was pushed
pub record HasRestSpelling
    (enqueued : Option ℕ) (failure : Option Failure) (place : Place) : Type 0 where
  pub when : IfSome enqueued IsMoment
  pub failed : IfSome failure HasFailureSpelling
  pub stands : HasPlaceSpelling place

-- a row that a file can hold
pub record HasRowSpelling (row : Row) : Type 0 where
  pub job : HasJobSpelling row.job
  pub created : IsMoment row.stamp.created
  pub rest : HasRestSpelling row.stamp.enqueued row.stamp.failure row.place

-- a move that a file can hold
abbrev pub HasSpelling : Move → Type 0
HasSpelling (Add ticket row) = IsWord ticket × HasRowSpelling row
HasSpelling (Put ticket enqueued failure place) =
    IsWord ticket × HasRestSpelling enqueued failure place
HasSpelling (Drop ticket) = IsWord ticket
HasSpelling DropAll = Unit {0}
HasSpelling (Totals next processed failures) = IsWord next × IsWord processed × IsWord failures

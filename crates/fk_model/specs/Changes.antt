-- What moves do to the kept state, and which of them fit it.
use Rattle.std.specs.Prelude.{◌≡◌, ℕ, ◌<◌, ◌≤◌, IsTrue, List, [], ◌∷◌, ◌++◌, Option, None, Some, IsSomeAnd, option_map, All, fold, slice_get}
use Rattle.fk_job.specs.declared.failure.Failure.{Failure}
use Rattle.fk_model.specs.declared.row.Row.{Row}
use Rattle.fk_model.specs.declared.place.Place.{Place}
use Rattle.fk_model.specs.declared.place.Place.TheVariants.{Queued, Working}
use Rattle.fk_model.specs.declared.move_.Move.{Move}
use Rattle.fk_model.specs.declared.move_.Move.TheVariants.{Add, Put, Drop, DropAll, Totals}
use Rattle.fk_model.specs.Limits.{greatest_next}
use Rattle.fk_model.specs.Rows.{row_at, with_row, with_changed, without_row}
use Rattle.fk_model.specs.State.{KeptState}
use Rattle.fk_model.specs.Orders.{number_in, ticket_in, is_queued, queue}
use Rattle.fk_model.specs.Spellings.{HasSpelling}
use Rattle.fk_model.specs.Between.{IsAboveAll}

-- ---- what they do

-- a row with all new that a Put tells of it
abbrev pub put_row : Option ℕ → Option Failure → Place → Row → Row
put_row enqueued failure place row =
    record row {
      stamp = record { created = row.stamp.created; enqueued = enqueued; failure = failure };
      place = place;
    }

-- the kept state after a move
unfoldable pub after_move : KeptState → Move → KeptState
after_move kept (Add ticket row) = record kept { rows = with_row kept.rows ticket row }
after_move kept (Put ticket enqueued failure place) =
    record kept { rows = with_changed kept.rows ticket (put_row enqueued failure place) }
after_move kept (Drop ticket) = record kept { rows = without_row kept.rows ticket }
after_move kept DropAll = record kept { rows = [] }
after_move kept (Totals next processed failures) =
    record kept { next = next; processed = processed; failures = failures }

-- the kept state after one move behind the other
abbrev pub after_moves : KeptState → List Move → KeptState
after_moves kept moves = fold after_move kept moves

-- ---- which of them fit

-- a rank is above all ranks of a queue
abbrev pub IsBehindQueue : KeptState → List ℕ → ℕ → Type 0
IsBehindQueue kept name rank = All (λ pair. number_in pair < rank) (queue kept.rows name)

-- the ticket is the first of a queue
abbrev pub IsFirstOf : KeptState → List ℕ → ℕ → Type 0
IsFirstOf kept name ticket =
    option_map ticket_in (slice_get (queue kept.rows name) 0) ≡ Some ticket

-- a place in a queue is behind all others
abbrev pub ComesLast : KeptState → List ℕ → Place → Type 0
ComesLast kept name (Queued rank) = IsBehindQueue kept name rank
ComesLast kept name elsewhere = Unit {0}

-- A row may go to a place: to a worker from the front of its queue, and from elsewhere than a queue
-- to the end of its queue or to any other place.
abbrev pub MayGo : KeptState → ℕ → Row → Place → Type 0
MayGo kept ticket row (Working wid since until) = IsFirstOf kept row.job.queue ticket
MayGo kept ticket row place =
    (¬ IsTrue (is_queued row.place)) × ComesLast kept row.job.queue place

-- a Totals has a next number within its limit, which doesn't fall and is above all tickets and ranks
pub record IsNextNumber (kept : KeptState) (next : ℕ) : Type 0 where
  pub within : next ≤ greatest_next
  pub risen : kept.next ≤ next
  pub above : IsAboveAll next kept.rows

-- what a move asks of the kept state
abbrev pub IsAllowed : KeptState → Move → Type 0
IsAllowed kept (Add ticket row) =
    (row_at kept.rows ticket ≡ None) × ComesLast kept row.job.queue row.place
IsAllowed kept (Put ticket enqueued failure place) =
    IsSomeAnd (row_at kept.rows ticket) (λ row. MayGo kept ticket row place)
IsAllowed kept (Drop ticket) =
    IsSomeAnd (row_at kept.rows ticket) (λ row. ¬ IsTrue (is_queued row.place))
IsAllowed kept DropAll = Unit {0}
IsAllowed kept (Totals next processed failures) = IsNextNumber kept next

-- a move fits: it has a spelling, and the kept state allows it
pub record Fits (kept : KeptState) (move : Move) : Type 0 where
  pub spelled : HasSpelling move
  pub allowed : IsAllowed kept move

-- each move fits the state that those before it leave
unfoldable pub FitInTurn : KeptState → List Move → Type 0
FitInTurn kept [] = Unit {0}
FitInTurn kept (move ∷ moves) = Fits kept move × FitInTurn (after_move kept move) moves

-- the moves lead from one kept state to another
pub record Lead (from : KeptState) (moves : List Move) (to : KeptState) : Type 0 where
  pub fit : FitInTurn from moves
  pub come : to ≡ after_moves from moves

-- ---- lists of moves as a file has them

-- the move tells the numbers
abbrev pub IsTotals : Move → Type 0
IsTotals (Totals next processed failures) = Unit {0}
IsTotals other = ⊥

-- exactly one move tells the numbers, and it is the last
pub record EndsWithTotals (moves : List Move) : Type 0 where
  pub others : List Move
  pub last : Move
  pub whole : moves ≡ others ++ last ∷ []
  pub totals : IsTotals last
  pub none : All (λ move. ¬ IsTotals move) others

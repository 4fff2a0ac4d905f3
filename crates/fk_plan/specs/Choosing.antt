-- A set by moment, and its rows, once moves have brought the state up to a moment: told by what stood before, and by
-- the moves.
use Rattle.std.specs.Prelude.{◌≡◌, ℕ, ◌==◌, ◌<◌, ◌≤◌, nat_lt, Bool, false, List, ◌++◌, length, Option, None, Some, IfSome, option_and_then, option_map, filter, filter_map, find, slice_get}
use Rattle.std.specs.Option.{option_map_or}
use Rattle.std.specs.Ordering.{nat_cmp}
use Rattle.std.specs.BTreeMap.{BTreeMap, get}
use Rattle.fk_time.specs.Moments.{greatest}
use Rattle.fk_job.specs.RowText.{HasFailureMoments}
use Rattle.fk_model.specs.declared.row.Row.{Row}
use Rattle.fk_model.specs.declared.mutation.Target.{Target}
use Rattle.fk_model.specs.declared.move_.Move.{Move}
use Rattle.fk_model.specs.declared.move_.Move.TheVariants.{Put, Drop}
use Rattle.fk_model.specs.Rows.{row_at}
use Rattle.fk_model.specs.Orders.{number_in, ticket_in, in_order, moment_in, timed}
use Rattle.fk_model.specs.Changes.{put_row}

-- ---- the pairs

-- the pairs whose moment is still to come
abbrev pub beyond : ℕ → List (ℕ × ℕ) → List (ℕ × ℕ)
beyond moment pairs = filter (λ pair. nat_lt moment (number_in pair)) pairs

-- the pair of the row that a move puts into a set, if it puts one there
abbrev pub entry_in : Target → Move → Option (ℕ × ℕ)
entry_in target (Put ticket enqueued failure place) = option_map (λ at. (at, ticket)) (moment_in target place)
entry_in target other = None

-- the pairs of the rows that moves put into a set
abbrev pub fresh : Target → List Move → List (ℕ × ℕ)
fresh target moves = filter_map (entry_in target) moves

-- the pairs of a set behind moves: those that are still to come, and those of the rows that are put there
abbrev pub set_behind : Target → List (ℕ × Row) → ℕ → List Move → List (ℕ × ℕ)
set_behind target rows moment moves = in_order (beyond moment (timed target rows) ++ fresh target moves)

-- ---- the rows

-- the ticket of a row that a move puts elsewhere, or by which it leaves
abbrev pub ticket_told : Move → Option ℕ
ticket_told (Put ticket enqueued failure place) = Some ticket
ticket_told (Drop ticket) = Some ticket
ticket_told other = None

-- whether a move is of a ticket
abbrev pub is_move_of : ℕ → Move → Bool
is_move_of ticket move = option_map_or (λ own. own == ticket) (ticket_told move) false

-- the move of a ticket, if there is one
abbrev pub move_of : List Move → ℕ → Option Move
move_of moves ticket = find (is_move_of ticket) moves

-- a row as its move leaves it, where that puts it somewhere
abbrev pub row_told : Option Move → Row → Row
row_told (Some (Put ticket enqueued failure place)) row = put_row enqueued failure place row
row_told other row = row

-- a ticket with its row, as moves leave it
abbrev pub told_at : List (ℕ × Row) → List Move → ℕ → Option (ℕ × Row)
told_at rows moves ticket =
    option_map (λ row. (ticket, row_told (move_of moves ticket) row)) (row_at rows ticket)

-- the rows of pairs, as moves leave them
abbrev pub rows_told : List (ℕ × Row) → List Move → List (ℕ × ℕ) → List (ℕ × Row)
rows_told rows moves pairs = filter_map (λ pair. told_at rows moves (ticket_in pair)) pairs

-- what a move tells of moments can be written
abbrev pub TellsMoments : Move → Type 0
TellsMoments (Put ticket enqueued failure place) =
    IfSome enqueued (λ at. at ≤ greatest) × IfSome failure HasFailureMoments
TellsMoments other = Unit {0}

-- ---- where the move of a ticket stands

-- under each ticket stands the place of its move in the list, if it has one
pub record ArePlacesOf (moves : List Move) (places : BTreeMap ℕ ℕ) : Type 0 where
  pub found : (ticket : ℕ) → option_and_then (slice_get moves) (get nat_cmp places ticket) ≡ move_of moves ticket
  pub within : (ticket : ℕ) → IfSome (get nat_cmp places ticket) (λ at. at < length moves)

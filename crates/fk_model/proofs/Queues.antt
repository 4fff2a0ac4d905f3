-- What a queue is as rows come and go: each line is one of the numbers of rows, read of ranks.
use Rattle.std.proofs.Common.{◌≡◌, ◌∙◌, ap, refl, ℕ, ◌<◌, List, [], ◌∷◌, ◌++◌, Bool, true, false, filter, drop}
use Rattle.std.specs.Prelude.{All, if◌then◌else◌, Option, None, Some, IfSome, option_map, slice_get, slice_index_or, bytes_eq}
use Rattle.fk_model.specs.declared.row.Row.{Row}
use Rattle.fk_model.specs.Rows.{row_of, IsByTicket, row_at, with_row, with_changed, without_row}
use Rattle.fk_json.specs.PairOrder.{with_pair}
use Rattle.fk_model.specs.Orders.{number_in, ticket_in, rank_of, rank_in, queue}
use Rattle.fk_model.proofs.Numbered.{gained, numbered_new, numbered_changed, numbered_stays, numbered_none_less}
use Rattle.fk_model.proofs.Ends.{numbered_without, numbered_last, changed_last, numbered_first, first_leaves, numbers_hold, is_of_other}

-- ---- the rank of a row in a queue

rank_if : (given : Option ℕ) (test : Bool) → given ≡ None → (if test then given else None) ≡ None
rank_if given true none = none
rank_if given false none = refl

-- a row that isn't queued has no rank in any queue
pub unranked : (name : List ℕ) (row : Row) → rank_of row.place ≡ None → rank_in name row ≡ None
unranked name row none = rank_if (rank_of row.place) (bytes_eq row.job.queue name) none

-- a row of another queue has no rank in this one
pub ranked_elsewhere : (name : List ℕ) (row : Row)
    → bytes_eq row.job.queue name ≡ false → rank_in name row ≡ None
ranked_elsewhere name row other = rw other refl

-- a row that is queued has its rank in its queue
pub ranked : (name : List ℕ) (row : Row) (rank : ℕ)
    → bytes_eq row.job.queue name ≡ true → rank_of row.place ≡ Some rank → rank_in name row ≡ Some rank
ranked name row rank same at = rw same at

-- ---- a new row

-- a new row that is queued there is one more
pub queue_gains : (rows : List (ℕ × Row)) (ticket : ℕ) (row : Row) (name : List ℕ) (rank : ℕ)
    → IsByTicket rows → row_at rows ticket ≡ None → rank_in name row ≡ Some rank
    → queue (with_row rows ticket row) name ≡ with_pair (rank, ticket) (queue rows name)
queue_gains rows ticket row name rank by_ticket none at =
    numbered_new (rank_in name) rows ticket row by_ticket none
    ∙ ap (λ o. gained o ticket (queue rows name)) at

-- a new row that isn't queued there leaves it
pub queue_stays : (rows : List (ℕ × Row)) (ticket : ℕ) (row : Row) (name : List ℕ)
    → IsByTicket rows → row_at rows ticket ≡ None → rank_in name row ≡ None
    → queue (with_row rows ticket row) name ≡ queue rows name
queue_stays rows ticket row name by_ticket none at =
    numbered_new (rank_in name) rows ticket row by_ticket none
    ∙ ap (λ o. gained o ticket (queue rows name)) at

-- a new row whose rank is above all of the queue comes last
pub queue_appends : (rows : List (ℕ × Row)) (ticket : ℕ) (row : Row) (name : List ℕ) (rank : ℕ)
    → IsByTicket rows → row_at rows ticket ≡ None → rank_in name row ≡ Some rank
    → All (λ pair. number_in pair < rank) (queue rows name)
    → queue (with_row rows ticket row) name ≡ queue rows name ++ (rank, ticket) ∷ []
queue_appends rows ticket row name rank by_ticket none at lower =
    numbered_last (rank_in name) rows ticket row rank by_ticket none at lower

-- ---- a row that is changed

-- a row whose rank stays leaves the queue as it is
pub queue_unchanged : (rows : List (ℕ × Row)) (ticket : ℕ) (change : Row → Row) (row : Row)
    (name : List ℕ) → IsByTicket rows → row_at rows ticket ≡ Some row
    → rank_in name (change row) ≡ rank_in name row
    → queue (with_changed rows ticket change) name ≡ queue rows name
queue_unchanged rows ticket change row name by_ticket at same =
    numbered_stays (rank_in name) rows ticket change row by_ticket at same

-- a row that is queued no longer is gone from the queue
pub queue_left : (rows : List (ℕ × Row)) (ticket : ℕ) (change : Row → Row) (row : Row)
    (name : List ℕ) → IsByTicket rows → row_at rows ticket ≡ Some row
    → rank_in name (change row) ≡ None
    → queue (with_changed rows ticket change) name ≡ queue (without_row rows ticket) name
queue_left rows ticket change row name by_ticket at none =
    numbered_changed (rank_in name) rows ticket change row by_ticket at
    ∙ ap (λ o. gained o ticket (queue (without_row rows ticket) name)) none

-- a row that wasn't queued and goes behind all others comes last
pub queue_joined : (rows : List (ℕ × Row)) (ticket : ℕ) (change : Row → Row) (row : Row)
    (name : List ℕ) (rank : ℕ) → IsByTicket rows → row_at rows ticket ≡ Some row
    → rank_in name row ≡ None → rank_in name (change row) ≡ Some rank
    → All (λ pair. number_in pair < rank) (queue rows name)
    → queue (with_changed rows ticket change) name ≡ queue rows name ++ (rank, ticket) ∷ []
queue_joined rows ticket change row name rank by_ticket at had has lower =
    changed_last (rank_in name) rows ticket change row rank by_ticket at had has lower

-- ---- a row that is taken away

-- its pair is taken out
pub queue_without : (rows : List (ℕ × Row)) (ticket : ℕ) (name : List ℕ)
    → queue (without_row rows ticket) name ≡ filter (is_of_other ticket) (queue rows name)
queue_without rows ticket name = numbered_without (rank_in name) rows ticket

-- where it wasn't queued, the queue stays
pub queue_keeps : (rows : List (ℕ × Row)) (ticket : ℕ) (row : Row) (name : List ℕ)
    → IsByTicket rows → row_at rows ticket ≡ Some row → rank_in name row ≡ None
    → queue (without_row rows ticket) name ≡ queue rows name
queue_keeps rows ticket row name by_ticket at none =
    numbered_none_less (rank_in name) rows ticket row by_ticket at none

-- where it was the first, the others are left
pub queue_first : (rows : List (ℕ × Row)) (ticket : ℕ) (row : Row) (name : List ℕ) (rank : ℕ)
    → IsByTicket rows → row_at rows ticket ≡ Some row → rank_in name row ≡ Some rank
    → option_map ticket_in (slice_get (queue rows name) 0) ≡ Some ticket
    → queue rows name ≡ (rank, ticket) ∷ queue (without_row rows ticket) name
queue_first rows ticket row name rank by_ticket at has first =
    numbered_first (rank_in name) rows ticket row rank by_ticket at has first

pub queue_rest : (rows : List (ℕ × Row)) (ticket : ℕ) (row : Row) (name : List ℕ) (rank : ℕ)
    → IsByTicket rows → row_at rows ticket ≡ Some row → rank_in name row ≡ Some rank
    → option_map ticket_in (slice_get (queue rows name) 0) ≡ Some ticket
    → queue (without_row rows ticket) name ≡ drop 1 (queue rows name)
queue_rest rows ticket row name rank by_ticket at has first =
    first_leaves (rank_in name) rows ticket row rank by_ticket at has first

-- a row that is queued no longer, and was the first: the others are left
pub queue_taken : (rows : List (ℕ × Row)) (ticket : ℕ) (change : Row → Row) (row : Row)
    (name : List ℕ) (rank : ℕ) → IsByTicket rows → row_at rows ticket ≡ Some row
    → rank_in name row ≡ Some rank → rank_in name (change row) ≡ None
    → option_map ticket_in (slice_get (queue rows name) 0) ≡ Some ticket
    → queue (with_changed rows ticket change) name ≡ drop 1 (queue rows name)
queue_taken rows ticket change row name rank by_ticket at has none first =
    queue_left rows ticket change row name by_ticket at none
    ∙ queue_rest rows ticket row name rank by_ticket at has first

-- ---- what holds of each rank

rank_holds : (P : ℕ → Type 0) (given : Option ℕ) (test : Bool) → IfSome given P
    → IfSome (if test then given else None) P
rank_holds P given true holds = holds
rank_holds P given false holds = tt

-- what holds of the rank of each row holds of each rank of a queue
pub ranks_hold : (P : ℕ → Type 0) (rows : List (ℕ × Row)) (name : List ℕ)
    → All (λ filed. IfSome (rank_of (row_of filed).place) P) rows
    → All (λ pair. P (number_in pair)) (queue rows name)
ranks_hold P rows name each =
    numbers_hold P (rank_in name) rows
    (λ k d within. rank_holds P (rank_of (row_of (slice_index_or rows k d)).place)
    (bytes_eq (row_of (slice_index_or rows k d)).job.queue name) (each k d within))

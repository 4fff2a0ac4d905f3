-- What becomes of one row: it is another then, or has left. The move that tells it fits, the other rows
-- stay, and what holds of each row holds of each.
use Rattle.std.proofs.Common.{◌≡◌, ◌≢◌, ◌∙◌, refl, ℕ, ◌<◌, ◌≤◌, ◌+◌, List, ◌∷◌, true, false, not, arith}
use Rattle.std.specs.Prelude.{All, Option, None, Some, IfSome, IsTrue, option_and_then, nat_lt, ◌==◌, slice_index_or}
use Rattle.std.proofs.lemmas.Bool.Decides.{nat_tests}
use Rattle.std.proofs.lemmas.Option.{IfSome_then}
use Rattle.std.proofs.lemmas.List.Elements.{All-weaker, All-append, All-cons, All-filter, filter_passes}
use Rattle.fk_model.specs.declared.row.Row.{Row}
use Rattle.fk_model.specs.declared.place.Place.{Place}
use Rattle.fk_model.specs.declared.place.Place.TheVariants.{Queued, Scheduled, Retry, Dead, Working}
use Rattle.fk_model.specs.declared.move_.Move.{Move}
use Rattle.fk_model.specs.Rows.{ticket_of, row_of, IsByTicket, row_at, without_row}
use Rattle.fk_model.specs.State.{KeptState}
use Rattle.fk_model.specs.Orders.{rank_of, is_queued, is_working}
use Rattle.fk_model.specs.Spellings.{HasSpelling}
use Rattle.fk_model.specs.Between.{IsAboveAll}
use Rattle.fk_model.specs.Changes.{put_row, after_move, MayGo, Fits}
use Rattle.fk_model.specs.Failing.{with_outcome}
use Rattle.fk_model.specs.Bringing.{move_for}
use Rattle.fk_model.proofs.Cuts.{below, above}
use Rattle.fk_model.proofs.Filed.{below_are, above_are, changed_at}
use Rattle.fk_model.proofs.Lookups.{row_at_without, row_at_with, row_at_without_other, row_at_with_other}
use Rattle.fk_model.proofs.Tickets.{by_ticket_with, by_ticket_without}
use Rattle.fk_model.proofs.Queues.{ranks_hold}

-- a row, and what it is then, unless it has left
pub record Outcome : Type 0 where
  pub filed : ℕ × Row
  pub becomes : Option Row

abbrev pub ticket_in : Outcome → ℕ
ticket_in one = ticket_of one.filed

abbrev pub row_in : Outcome → Row
row_in one = row_of one.filed

-- the move that tells it
abbrev pub told_by : Outcome → Move
told_by one = move_for (ticket_in one) one.becomes

-- the rows then
abbrev pub rows_with : List (ℕ × Row) → Outcome → List (ℕ × Row)
rows_with rows one = with_outcome rows (ticket_in one) one.becomes

-- ---- the rows that a move leaves

-- the job stays, and so does when it was pushed
abbrev pub IsOfJob : Row → Option Row → Type 0
IsOfJob row becomes =
    IfSome becomes (λ new. (new.job ≡ row.job) × (new.stamp.created ≡ row.stamp.created))

put_is : (row new : Row) → IsOfJob row (Some new)
    → put_row new.stamp.enqueued new.stamp.failure new.place row ≡ new
put_is row new same = rw (← same.0, ← same.1) refl

pub told_rows : (kept : KeptState) (ticket : ℕ) (row : Row) (becomes : Option Row)
    → IsByTicket kept.rows → row_at kept.rows ticket ≡ Some row → IsOfJob row becomes
    → (after_move kept (move_for ticket becomes)).rows ≡ with_outcome kept.rows ticket becomes
unfolding after_move
told_rows kept ticket row None by_ticket at same = refl
told_rows kept ticket row (Some new) by_ticket at same =
    changed_at kept.rows ticket (put_row new.stamp.enqueued new.stamp.failure new.place) row by_ticket at
    ∙ rw (put_is row new same) refl

-- ---- what stays

others_left : (rows : List (ℕ × Row)) (ticket : ℕ) → All (λ x. ticket_of x ≢ ticket) (without_row rows ticket)
others_left rows ticket =
    All-weaker (λ x. not (ticket_of x == ticket) ≡ true) (λ x. ticket_of x ≢ ticket)
    (λ x other same. absurd (grind (arith, nat_tests, other, same))) (without_row rows ticket)
    (filter_passes (λ x. not (ticket_of x == ticket)) rows)

pub outcome_by_ticket : (rows : List (ℕ × Row)) (ticket : ℕ) (becomes : Option Row) → IsByTicket rows
    → IsByTicket (with_outcome rows ticket becomes)
outcome_by_ticket rows ticket None by_ticket = by_ticket_without rows ticket by_ticket
outcome_by_ticket rows ticket (Some row) by_ticket = by_ticket_with rows ticket row by_ticket

pub outcome_here : (rows : List (ℕ × Row)) (ticket : ℕ) (becomes : Option Row)
    → row_at (with_outcome rows ticket becomes) ticket ≡ becomes
outcome_here rows ticket None = row_at_without rows ticket
outcome_here rows ticket (Some row) = row_at_with rows ticket row

pub outcome_other : (rows : List (ℕ × Row)) (ticket : ℕ) (becomes : Option Row) (other : ℕ)
    → IsByTicket rows → other ≢ ticket
    → row_at (with_outcome rows ticket becomes) other ≡ row_at rows other
outcome_other rows ticket None other by_ticket apart = row_at_without_other rows ticket other apart
outcome_other rows ticket (Some row) other by_ticket apart =
    row_at_with_other rows ticket row other by_ticket apart

-- what follows of each row that stays holds of each row then
pub outcome_all : (P Q : ℕ × Row → Type 0) (rows : List (ℕ × Row)) (ticket : ℕ) (becomes : Option Row)
    → ((filed : ℕ × Row) → ticket_of filed ≢ ticket → P filed → Q filed) → All P rows
    → IfSome becomes (λ row. Q (ticket, row)) → All Q (with_outcome rows ticket becomes)
outcome_all P Q rows ticket None follows each new = λ k d within.
    follows (slice_index_or (without_row rows ticket) k d) (others_left rows ticket k d within)
    (All-filter (λ x. not (ticket_of x == ticket)) P rows each k d within)
outcome_all P Q rows ticket (Some row) follows each new =
    All-append Q (below ticket rows) ((ticket, row) ∷ above ticket rows)
    (λ k d within. let lower = below_are ticket rows k d within in
    follows (slice_index_or (below ticket rows) k d) (omega arith)
    (All-filter (λ x. nat_lt (ticket_of x) ticket) P rows each k d within))
    (All-cons Q (ticket, row) (above ticket rows) new
    (λ k d within. let higher = above_are ticket rows k d within in
    follows (slice_index_or (above ticket rows) k d) (omega arith)
    (All-filter (λ x. nat_lt ticket (ticket_of x)) P rows each k d within)))

-- ---- ranks

-- the rank that a row has then, if it is put into its queue
abbrev pub new_rank : Option Row → Option ℕ
new_rank becomes = option_and_then (λ (row : Row). rank_of row.place) becomes

-- it has this rank
abbrev pub HasRank : ℕ → Option ℕ → Type 0
HasRank n given = IfSome given (λ rank. rank ≡ n)

-- the next number behind it
abbrev pub behind_rank : ℕ → Option ℕ → ℕ
behind_rank n None = n
behind_rank n (Some rank) = n + 1

rank_behind : (n : ℕ) (given : Option ℕ) → HasRank n given → IfSome given (λ rank. rank < behind_rank n given)
rank_behind n None has = tt
rank_behind n (Some rank) has = omega (arith, has)

number_grows : (n : ℕ) (given : Option ℕ) → n ≤ behind_rank n given
number_grows n None = omega arith
number_grows n (Some rank) = omega arith

of_any : {X : Type 0} (P : Type 0) (given : Option X) → P → IfSome given (λ x. P)
of_any P None holds = tt
of_any P (Some x) holds = holds

of_rank : (P : ℕ → Type 0) (becomes : Option Row) → IfSome (new_rank becomes) P
    → IfSome becomes (λ row. IfSome (rank_of row.place) P)
of_rank P None holds = tt
of_rank P (Some row) holds = holds

-- the number behind it is above all
pub outcome_above : (n : ℕ) (rows : List (ℕ × Row)) (ticket : ℕ) (becomes : Option Row) → IsAboveAll n rows
    → ticket < n → HasRank n (new_rank becomes)
    → IsAboveAll (behind_rank n (new_rank becomes)) (with_outcome rows ticket becomes)
outcome_above n rows ticket becomes higher lower has =
    let m = behind_rank n (new_rank becomes) in
    let grown : n ≤ m = number_grows n (new_rank becomes) in
    record {
      tickets = outcome_all (λ x. ticket_of x < n) (λ x. ticket_of x < m) rows ticket becomes
          (λ x apart first. omega arith) higher.tickets (of_any (ticket < m) becomes (omega arith));
      ranks = outcome_all (λ x. IfSome (rank_of (row_of x).place) (λ rank. rank < n))
          (λ x. IfSome (rank_of (row_of x).place) (λ rank. rank < m)) rows ticket becomes
          (λ x apart first. IfSome_then (rank_of (row_of x).place) first (λ rank less. omega arith))
          higher.ranks (of_rank (λ rank. rank < m) becomes (rank_behind n (new_rank becomes) has));
    }

-- ---- the move fits

may_go : (kept : KeptState) (n ticket : ℕ) (row : Row) (place : Place) → is_working place ≡ false
    → ¬ IsTrue (is_queued row.place) → HasRank n (rank_of place) → IsAboveAll n kept.rows
    → MayGo kept ticket row place
may_go kept n ticket row (Queued rank) idle not_there same higher =
    (not_there, rw same (ranks_hold (λ r. r < n) kept.rows row.job.queue higher.ranks))
may_go kept n ticket row (Scheduled at) idle not_there same higher = (not_there, tt)
may_go kept n ticket row (Retry at) idle not_there same higher = (not_there, tt)
may_go kept n ticket row (Dead until) idle not_there same higher = (not_there, tt)
may_go kept n ticket row (Working wid since until) idle not_there same higher = absurd (cc)

pub told_fits : (kept : KeptState) (n ticket : ℕ) (row : Row) (becomes : Option Row)
    → row_at kept.rows ticket ≡ Some row → ¬ IsTrue (is_queued row.place)
    → HasSpelling (move_for ticket becomes) → IfSome becomes (λ new. is_working new.place ≡ false)
    → HasRank n (new_rank becomes) → IsAboveAll n kept.rows → Fits kept (move_for ticket becomes)
told_fits kept n ticket row None at not_there spelled idle has higher =
    record { spelled = spelled; allowed = rw at not_there }
told_fits kept n ticket row (Some new) at not_there spelled idle has higher =
    record { spelled = spelled; allowed = rw at (may_go kept n ticket row new.place idle not_there has higher) }

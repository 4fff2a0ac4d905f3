-- What holds of a kept state holds behind each move that fits it, and behind moves that lead to another.
use Rattle.std.proofs.Common.{◌≡◌, refl, ℕ, List, [], ◌∷◌, map, arith}
use Rattle.std.specs.Prelude.{Option, None, Some, IsTrue, IsSomeAnd}
use Rattle.std.specs.List.Sorted.{IsStrictlyIncreasing}
use Rattle.std.proofs.lemmas.List.Elements.{All-nil}
use Rattle.fk_job.specs.declared.failure.Failure.{Failure}
use Rattle.fk_model.specs.declared.row.Row.{Row}
use Rattle.fk_model.specs.declared.place.Place.{Place}
use Rattle.fk_model.specs.declared.place.Place.TheVariants.{Queued, Scheduled, Retry, Dead, Working}
use Rattle.fk_model.specs.declared.move_.Move.{Move}
use Rattle.fk_model.specs.declared.move_.Move.TheVariants.{Add, Put, Drop, DropAll, Totals}
use Rattle.fk_model.specs.Rows.{ticket_of, row_of, row_at}
use Rattle.fk_model.specs.State.{KeptState}
use Rattle.fk_model.specs.Orders.{number_in, rank_of, rank_in, is_queued, queue, in_order}
use Rattle.fk_model.specs.Spellings.{HasSpelling}
use Rattle.fk_model.specs.Changes.{put_row, after_move, after_moves, MayGo, Fits, FitInTurn}
use Rattle.fk_model.proofs.Tickets.{by_ticket_with, by_ticket_without, by_ticket_changed, all_with, all_without, all_changed, row_holds}
use Rattle.fk_model.proofs.Ends.{rising_without}
use Rattle.fk_model.proofs.Queues.{unranked}
use Rattle.fk_model.proofs.Fitting.{IsSound, rising_new, rising_joined, rising_left, comes_last}

-- ---- one move

some_row : (found : Option Row) (P : Row → Type 0) → IsSomeAnd found P
    → (row : Row) × (found ≡ Some row) × P row
some_row None P holds = absurd holds
some_row (Some row) P holds = (row, refl, holds)

-- where it isn't queued, it has no rank
pub no_rank : (place : Place) → ¬ IsTrue (is_queued place) → rank_of place ≡ None
no_rank (Queued rank) not_there = absurd (not_there refl)
no_rank (Scheduled at) not_there = refl
no_rank (Retry at) not_there = refl
no_rank (Dead until) not_there = refl
no_rank (Working wid since until) not_there = refl

after_add : (kept : KeptState) (ticket : ℕ) (row : Row) → IsSound kept → Fits kept (Add ticket row)
    → IsSound (after_move kept (Add ticket row))
unfolding after_move
after_add kept ticket row sound fits = record {
  by_ticket = by_ticket_with kept.rows ticket row sound.by_ticket;
  distinct = λ name. rising_new kept.rows ticket row name (rank_in name row) sound.by_ticket
      fits.allowed.0 refl (comes_last kept row name fits.allowed.1) (sound.distinct name);
  spelled = all_with (λ filed. HasSpelling (Add (ticket_of filed) (row_of filed))) kept.rows ticket row
      sound.spelled fits.spelled;
  processed = sound.processed;
  failures = sound.failures;
}

put_distinct : (kept : KeptState) (ticket : ℕ) (enqueued : Option ℕ) (failure : Option Failure)
    (place : Place) (row : Row) → IsSound kept → row_at kept.rows ticket ≡ Some row
    → MayGo kept ticket row place → (name : List ℕ)
    → IsStrictlyIncreasing (map number_in
    (queue (after_move kept (Put ticket enqueued failure place)).rows name))
unfolding after_move
put_distinct kept ticket enqueued failure (Working wid since until) row sound at goes name =
    let change = put_row enqueued failure (Working wid since until) in
    rising_left kept.rows ticket change row name sound.by_ticket at (unranked name (change row) refl)
    (sound.distinct name)
put_distinct kept ticket enqueued failure place row sound at goes name =
    let change = put_row enqueued failure place in
    rising_joined kept.rows ticket change row name (rank_in name (change row)) sound.by_ticket at
    (unranked name row (no_rank row.place goes.0)) refl
    (comes_last kept (change row) name goes.1) (sound.distinct name)

put_spelled : (kept : KeptState) (ticket : ℕ) (enqueued : Option ℕ) (failure : Option Failure)
    (place : Place) (row : Row) → IsSound kept → row_at kept.rows ticket ≡ Some row
    → HasSpelling (Put ticket enqueued failure place)
    → HasSpelling (Add ticket (put_row enqueued failure place row))
put_spelled kept ticket enqueued failure place row sound at spelled =
    let before = row_holds (λ filed. HasSpelling (Add (ticket_of filed) (row_of filed))) kept.rows
    ticket row sound.spelled at in
    (spelled.0, record { job = before.1.job; created = before.1.created; rest = spelled.1 })

after_put : (kept : KeptState) (ticket : ℕ) (enqueued : Option ℕ) (failure : Option Failure)
    (place : Place) → IsSound kept → Fits kept (Put ticket enqueued failure place)
    → IsSound (after_move kept (Put ticket enqueued failure place))
unfolding after_move
after_put kept ticket enqueued failure place sound fits =
    let at = some_row (row_at kept.rows ticket) (λ row. MayGo kept ticket row place) fits.allowed in
    let change = put_row enqueued failure place in
    record {
      by_ticket = by_ticket_changed kept.rows ticket change sound.by_ticket;
      distinct = put_distinct kept ticket enqueued failure place at.0 sound at.1 at.2;
      spelled = all_changed (λ filed. HasSpelling (Add (ticket_of filed) (row_of filed))) kept.rows
          ticket change at.0 sound.by_ticket at.1 sound.spelled
          (put_spelled kept ticket enqueued failure place at.0 sound at.1 fits.spelled);
      processed = sound.processed;
      failures = sound.failures;
    }

after_drop : (kept : KeptState) (ticket : ℕ) → IsSound kept → IsSound (after_move kept (Drop ticket))
unfolding after_move
after_drop kept ticket sound = record {
  by_ticket = by_ticket_without kept.rows ticket sound.by_ticket;
  distinct = λ name. rising_without (rank_in name) kept.rows ticket (sound.distinct name);
  spelled = all_without (λ filed. HasSpelling (Add (ticket_of filed) (row_of filed))) kept.rows ticket
      sound.spelled;
  processed = sound.processed;
  failures = sound.failures;
}

after_all : (kept : KeptState) → IsSound kept → IsSound (after_move kept DropAll)
unfolding after_move in_order
after_all kept sound = record {
  by_ticket = λ k within. absurd (omega arith);
  distinct = λ name k within. absurd (omega arith);
  spelled = All-nil (λ filed. HasSpelling (Add (ticket_of filed) (row_of filed)));
  processed = sound.processed;
  failures = sound.failures;
}

after_totals : (kept : KeptState) (next processed failures : ℕ) → IsSound kept
    → Fits kept (Totals next processed failures)
    → IsSound (after_move kept (Totals next processed failures))
unfolding after_move
after_totals kept next processed failures sound fits = record {
  by_ticket = sound.by_ticket;
  distinct = sound.distinct;
  spelled = sound.spelled;
  processed = fits.spelled.1;
  failures = fits.spelled.2;
}

-- a move that fits leaves a sound state
pub after_one : (kept : KeptState) (move : Move) → IsSound kept → Fits kept move → IsSound (after_move kept move)
after_one kept (Add ticket row) sound fits = after_add kept ticket row sound fits
after_one kept (Put ticket enqueued failure place) sound fits =
    after_put kept ticket enqueued failure place sound fits
after_one kept (Drop ticket) sound fits = after_drop kept ticket sound
after_one kept DropAll sound fits = after_all kept sound
after_one kept (Totals next processed failures) sound fits =
    after_totals kept next processed failures sound fits

-- ---- one behind the other

pub after_each : (kept : KeptState) (moves : List Move) → IsSound kept → FitInTurn kept moves
    → IsSound (after_moves kept moves)
unfolding FitInTurn
after_each kept [] sound fit = sound
after_each kept (move ∷ moves) sound fit =
    after_each (after_move kept move) moves (after_one kept move sound fit.0) fit.1

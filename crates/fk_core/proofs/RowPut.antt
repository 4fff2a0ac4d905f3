-- A Put that fits: its row leaves where it is, and enters where it goes.
use Rattle.std.proofs.Common.{◌≡◌, ◌∙◌, sym, ap, ℕ, ◌≤◌, List, [], ◌∷◌, length, arith}
use Rattle.std.specs.Prelude.{Option, Some, option_map}
use Rattle.std.proofs.lemmas.Option.{same_Some}
use Rattle.fk_job.specs.declared.failure.Failure.{Failure}
use Rattle.fk_model.specs.declared.row.Row.{Row}
use Rattle.fk_model.specs.declared.mutation.Target.{Target}
use Rattle.fk_model.specs.declared.place.Place.{Place}
use Rattle.fk_model.specs.declared.move_.Move.TheVariants.{Add, Put}
use Rattle.fk_model.specs.Rows.{ticket_of, row_of, row_at, with_changed, without_row}
use Rattle.fk_model.specs.Orders.{rank_in, is_working}
use Rattle.fk_model.specs.Spellings.{HasSpelling}
use Rattle.fk_model.specs.Changes.{put_row, MayGo, Fits}
use Rattle.fk_model.proofs.Lookups.{row_at_without, row_at_changed}
use Rattle.fk_model.proofs.Tickets.{row_holds}
use Rattle.fk_model.proofs.Counted.{one_if}
use Rattle.fk_core.specs.declared.tables.Tables.TheInside.{Inside}
use Rattle.fk_core.specs.Held.{Held}
use Rattle.fk_core.specs.Index.{Index, MayEnter, MayLeave, HasLeft, Entered}
use Rattle.fk_core.specs.Reserved.{waits_in, is_leased_under, stands_in, Reserved}
use Rattle.fk_core.specs.Tied.{AreTied}
use Rattle.fk_core.proofs.RoomLeft.{count_first}
use Rattle.fk_core.proofs.RowEnters.{MayCome, may_enter}
use Rattle.fk_core.proofs.RowLeaves.{working_less, row_left, row_moved}
use Rattle.fk_core.proofs.MovesMade.{held_in}
use Rattle.fk_core.proofs.MovesAllowed.{some_row, working_within, put_leaves, last_less, goes_last}

-- a Put of a row that stands in the tables
pub record IsPut (tables : Inside) (ticket : ℕ) (enqueued : Option ℕ) (failure : Option Failure)
    (place : Place) (row : Row) : Type 0 where
  pub tied : AreTied tables.rows.items tables.index tables.next
  pub at : row_at tables.rows.items ticket ≡ Some row
  pub goes : MayGo (held_in tables).kept ticket row place
  pub spelled : HasSpelling (Put ticket enqueued failure place)
  pub room : Reserved (held_in tables) (Put ticket enqueued failure place ∷ [])

-- ---- the row

-- where a Put fits, and there is room for it, it is one of a row
pub put_of : (tables : Inside) (before : Held) (ticket : ℕ) (enqueued : Option ℕ)
    (failure : Option Failure) (place : Place) → AreTied tables.rows.items tables.index tables.next
    → held_in tables ≡ before → Fits before.kept (Put ticket enqueued failure place)
    → Reserved before (Put ticket enqueued failure place ∷ [])
    → (row : Row) × IsPut tables ticket enqueued failure place row
put_of tables before ticket enqueued failure place tied same fits reserved =
    let fitted = rw (← same) at fits in
    let found = some_row (row_at tables.rows.items ticket)
    (λ row. MayGo (held_in tables).kept ticket row place) fitted.allowed in (
      found.0,
      record {
        tied = tied;
        at = found.1;
        goes = found.2;
        spelled = fits.spelled;
        room = rw (← same) at reserved;
      },
    )

-- ---- it leaves

same_row : (found : Option Row) (row other : Row) → found ≡ Some row → found ≡ Some other → row ≡ other
same_row found row other at there = same_Some row other (sym at ∙ there)

module _ (tables : Inside) (ticket : ℕ) (enqueued : Option ℕ) (failure : Option Failure) (place : Place)
    (row : Row) (put : IsPut tables ticket enqueued failure place row) where
  pub put_may_leave : (other : Row) → row_at tables.rows.items ticket ≡ Some other
      → MayLeave tables.index ticket other
  put_may_leave other there =
      rw (← same_row (row_at tables.rows.items ticket) row other put.at there)
      (put_leaves (held_in tables).kept tables.index tables.next ticket row place put.tied put.goes)

  pub put_counted : (other : Row) → row_at tables.rows.items ticket ≡ Some other
      → one_if (is_working other.place) ≤ tables.index.working
  put_counted other there =
      omega (arith, working_less tables.rows.items tables.index tables.next ticket other put.tied there)

  -- ---- it enters

  come : (between : Index) → HasLeft ticket row tables.index between
      → MayCome (without_row tables.rows.items ticket) between ticket (put_row enqueued failure place row)
  come between left =
      let move = Put ticket enqueued failure place in
      let queues = λ (name : List ℕ). count_first (waits_in name) tables.rows.items move [] in
      let leases = λ (jid : List ℕ). count_first (is_leased_under jid) tables.rows.items move [] in
      let sets = λ (target : Target). count_first (stands_in target) tables.rows.items move [] in
      record {
        absent = row_at_without tables.rows.items ticket;
        last = λ name. last_less tables.rows.items ticket name
            (rank_in name (put_row enqueued failure place row))
            (goes_last (held_in tables).kept ticket enqueued failure place row put.goes name);
        queues = λ name. rw (left.queue_room name)
            (omega (arith, put.room.queues name, rw put.at at (queues name)));
        leases = λ jid. rw (left.lease_room jid)
            (omega (arith, put.room.leases jid, rw put.at at (leases jid)));
        sets = λ target. rw (left.set_room target)
            (omega (arith, put.room.sets target, rw put.at at (sets target)));
      }

  -- the row as it is then
  pub put_found : (now : List (ℕ × Row))
      → now ≡ with_changed tables.rows.items ticket (put_row enqueued failure place)
      → row_at now ticket ≡ Some (put_row enqueued failure place row)
  put_found now items =
      rw items
      (row_at_changed tables.rows.items ticket (put_row enqueued failure place) put.tied.by_ticket
      ∙ ap (option_map (put_row enqueued failure place)) put.at)

  pub put_may_enter : (now : List (ℕ × Row)) (between : Index)
      → now ≡ with_changed tables.rows.items ticket (put_row enqueued failure place)
      → HasLeft ticket row tables.index between → (other : Row) → row_at now ticket ≡ Some other
      → MayEnter between ticket other
  put_may_enter now between items left other there =
      rw (← same_row (row_at now ticket) (put_row enqueued failure place row) other (put_found now items) there)
      (may_enter (without_row tables.rows.items ticket) between tables.next ticket
      (put_row enqueued failure place row)
      (row_left tables.rows.items tables.index between tables.next ticket row put.tied put.at
      (put_may_leave row put.at) left)
      (come between left))

  -- fewer rows are counted than there are
  pub put_within : (between : Index) → HasLeft ticket row tables.index between
      → between.working ≤ length tables.rows.items
  put_within between left =
      omega (arith, left.working, working_within tables.rows.items tables.index tables.next put.tied)

  -- ---- behind it

  put_spelled : HasSpelling (Add ticket (put_row enqueued failure place row))
  put_spelled =
      let before = row_holds (λ filed. HasSpelling (Add (ticket_of filed) (row_of filed)))
      tables.rows.items ticket row put.tied.spelled put.at in
      (put.spelled.0, record { job = before.1.job; created = before.1.created; rest = put.spelled.1 })

  pub put_tied : (now : List (ℕ × Row)) (between after : Index)
      → now ≡ with_changed tables.rows.items ticket (put_row enqueued failure place)
      → HasLeft ticket row tables.index between
      → Entered ticket (put_row enqueued failure place row) between after
      → AreTied now after tables.next
  put_tied now between after items left entered =
      rw items
      (row_moved tables.rows.items tables.index between after tables.next ticket row
      (put_row enqueued failure place) put.tied put.at (put_may_leave row put.at) left (come between left)
      put_spelled entered)

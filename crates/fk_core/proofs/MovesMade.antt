-- Each move as the tables make it: the kept state is the one behind it, and the room for others stays.
use Rattle.std.proofs.Common.{◌≡◌, ap, refl, ℕ, ◌+◌, ◌≤◌, List, [], ◌∷◌, arith}
use Rattle.std.specs.Prelude.{Bool, false, Option, Some, option_map}
use Rattle.std.specs.Option.{option_map_or}
use Rattle.fk_job.specs.declared.job.Job.{Job}
use Rattle.fk_job.specs.declared.failure.Failure.{Failure}
use Rattle.fk_model.specs.declared.row.Row.{Row}
use Rattle.fk_model.specs.declared.mutation.Target.{Target}
use Rattle.fk_model.specs.declared.place.Place.{Place}
use Rattle.fk_model.specs.declared.move_.Move.{Move}
use Rattle.fk_model.specs.declared.move_.Move.TheVariants.{Add, Put, Drop, DropAll, Totals}
use Rattle.fk_model.specs.Rows.{IsByTicket, row_at, with_row, with_changed, without_row}
use Rattle.fk_model.specs.Changes.{put_row, after_move}
use Rattle.fk_model.proofs.Counted.{one_if}
use Rattle.fk_model.proofs.Tickets.{by_ticket_with}
use Rattle.fk_rows.specs.Room.{Room as RowRoom}
use Rattle.fk_lists.specs.Room.{spare_at}
use Rattle.fk_core.specs.declared.tables.Tables.TheInside.{Inside}
use Rattle.fk_core.specs.Held.{Held}
use Rattle.fk_core.specs.Index.{Index, HasLeft, Entered}
use Rattle.fk_core.specs.Reserved.{is_add, job_put, known_behind, count_put, waits_in, is_leased_under, stands_in, Reserved}
use Rattle.fk_core.specs.Sets.{count_in}
use Rattle.fk_core.specs.Makes.{Makes}
use Rattle.fk_core.proofs.Standings.{count_waiting, count_leased, count_timed}
use Rattle.fk_core.proofs.PutCounts.{adds_more}
use Rattle.fk_core.proofs.RoomLeft.{KnowsLess, count_first, count_less, knows_changed, knows_without, knows_none}

-- the tables as their contracts see them, by what they are made of
abbrev pub held_by : RowRoom → Index → ℕ → ℕ → ℕ → Held
held_by rows index next processed failures = record {
  kept = record {
    rows = rows.items;
    next = next;
    processed = processed;
    failures = failures;
  };
  room = record {
    rows = rows.spare;
    queues = index.queues.spares;
    leases = index.leases.spares;
    sets = index.sets.spares;
  };
}

abbrev pub held_in : Inside → Held
held_in tables =
    held_by tables.rows tables.index tables.next tables.processed tables.failures

-- ---- the room for the others

-- what a move takes of each room, by the number of its rows that pass a test
abbrev pub taken_by : (Job × Place → Bool) → List (ℕ × Row) → Move → ℕ
taken_by test rows move = one_if (option_map_or test (job_put rows move) false)

-- a room is less by no more than a move takes, and no more is known behind it than was to be
pub record TakesOnly (move : Move) (before after : Held) : Type 0 where
  pub rows : before.room.rows ≤ one_if (is_add move) + after.room.rows
  pub queues : (name : List ℕ) → spare_at before.room.queues name
      ≤ taken_by (waits_in name) before.kept.rows move + spare_at after.room.queues name
  pub leases : (jid : List ℕ) → spare_at before.room.leases jid
      ≤ taken_by (is_leased_under jid) before.kept.rows move + spare_at after.room.leases jid
  pub sets : (target : Target) → count_in target before.room.sets
      ≤ taken_by (stands_in target) before.kept.rows move + count_in target after.room.sets
  pub known : KnowsLess after.kept.rows (known_behind before.kept.rows move)

left_over : (test : Job × Place → Bool) (move : Move) (before after : List (ℕ × Row))
    (others : List Move) (had has : ℕ) → KnowsLess after (known_behind before move)
    → had ≤ taken_by test before move + has → count_put test before (move ∷ others) ≤ had
    → count_put test after others ≤ has
left_over test move before after others had has known takes enough =
    let all = count_first test before move others in
    let rest = count_less test after (known_behind before move) others known in
    omega arith

pub room_left : (move : Move) (before after : Held) → TakesOnly move before after
    → (others : List Move) → Reserved before (move ∷ others) → Reserved after others
room_left move before after takes others reserved = record {
  rows = omega (arith, takes.rows, reserved.rows, adds_more move others);
  queues = λ name. left_over (waits_in name) move before.kept.rows after.kept.rows others
      (spare_at before.room.queues name) (spare_at after.room.queues name) takes.known
      (takes.queues name) (reserved.queues name);
  leases = λ jid. left_over (is_leased_under jid) move before.kept.rows after.kept.rows others
      (spare_at before.room.leases jid) (spare_at after.room.leases jid) takes.known
      (takes.leases jid) (reserved.leases jid);
  sets = λ target. left_over (stands_in target) move before.kept.rows after.kept.rows others
      (count_in target before.room.sets) (count_in target after.room.sets) takes.known
      (takes.sets target) (reserved.sets target);
}

same_known : (rows : List (ℕ × Row)) → IsByTicket rows → KnowsLess rows rows
same_known rows by_ticket = record {
  by_less = by_ticket;
  by_more = by_ticket;
  known = λ ticket row at. ap (option_map (λ (other : Row). other.job)) at;
}

-- ---- each move

module _ (tables : Inside) (now : RowRoom) (after : Index) (by_ticket : IsByTicket tables.rows.items) where
  -- a new row
  pub made_add : (ticket : ℕ) (row : Row) → now.items ≡ with_row tables.rows.items ticket row
      → now.spare + 1 ≡ tables.rows.spare → Entered ticket row tables.index after
      → Makes (Add ticket row) (held_in tables) (held_by now after tables.next tables.processed tables.failures)
  unfolding after_move
  made_add ticket row items spare entered = record {
    kept = rw items refl;
    room = room_left (Add ticket row) (held_in tables) (held_by now after tables.next tables.processed tables.failures)
        (record {
          rows = omega arith;
          queues = λ name. omega (arith, entered.queue_room name, count_waiting name ticket row);
          leases = λ jid. omega (arith, entered.lease_room jid, count_leased jid ticket row);
          sets = λ target. omega (arith, entered.set_room target, count_timed target ticket row);
          known = rw items
              (same_known (with_row tables.rows.items ticket row) (by_ticket_with tables.rows.items ticket row by_ticket));
        });
  }

  -- a row at another place
  pub made_put : (between : Index) (ticket : ℕ) (enqueued : Option ℕ) (failure : Option Failure)
      (place : Place) (row : Row) → row_at tables.rows.items ticket ≡ Some row
      → now.items ≡ with_changed tables.rows.items ticket (put_row enqueued failure place)
      → now.spare ≡ tables.rows.spare → HasLeft ticket row tables.index between
      → Entered ticket (put_row enqueued failure place row) between after
      → Makes (Put ticket enqueued failure place) (held_in tables) (held_by now after tables.next tables.processed tables.failures)
  unfolding after_move
  made_put between ticket enqueued failure place row at items spare left entered =
      let put = put_row enqueued failure place row in
      record {
        kept = rw items refl;
        room = room_left (Put ticket enqueued failure place)
            (held_in tables) (held_by now after tables.next tables.processed tables.failures)
            (record {
              rows = omega arith;
              queues = λ name. rw at
                  (omega (arith, left.queue_room name, entered.queue_room name, count_waiting name ticket put));
              leases = λ jid. rw at
                  (omega (arith, left.lease_room jid, entered.lease_room jid, count_leased jid ticket put));
              sets = λ target. rw at
                  (omega (arith, left.set_room target, entered.set_room target, count_timed target ticket put));
              known = rw items (knows_changed tables.rows.items ticket enqueued failure place by_ticket);
            });
      }

  -- a row less
  pub made_drop : (ticket : ℕ) (row : Row) → now.items ≡ without_row tables.rows.items ticket
      → tables.rows.spare ≤ now.spare → HasLeft ticket row tables.index after
      → Makes (Drop ticket) (held_in tables) (held_by now after tables.next tables.processed tables.failures)
  unfolding after_move
  made_drop ticket row items spare left = record {
    kept = rw items refl;
    room = room_left (Drop ticket) (held_in tables) (held_by now after tables.next tables.processed tables.failures)
        (record {
          rows = omega arith;
          queues = λ name. omega (arith, left.queue_room name);
          leases = λ jid. omega (arith, left.lease_room jid);
          sets = λ target. omega (arith, left.set_room target);
          known = rw items (knows_without tables.rows.items ticket by_ticket);
        });
  }

  -- no row at all
  pub made_all : now.items ≡ [] → tables.rows.spare ≤ now.spare
      → ((name : List ℕ) → spare_at after.queues.spares name ≡ spare_at tables.index.queues.spares name)
      → ((jid : List ℕ) → spare_at after.leases.spares jid ≡ spare_at tables.index.leases.spares jid)
      → ((target : Target) → count_in target after.sets.spares ≡ count_in target tables.index.sets.spares)
      → Makes DropAll (held_in tables) (held_by now after tables.next tables.processed tables.failures)
  unfolding after_move
  made_all items spare queues leases sets = record {
    kept = rw items refl;
    room = room_left DropAll (held_in tables) (held_by now after tables.next tables.processed tables.failures)
        (record {
          rows = omega arith;
          queues = λ name. omega (arith, queues name);
          leases = λ jid. omega (arith, leases jid);
          sets = λ target. omega (arith, sets target);
          known = rw items (knows_none tables.rows.items by_ticket);
        });
  }

-- the numbers
pub made_totals : (tables : Inside) (after : Index) (next processed failures greatest : ℕ)
    → IsByTicket tables.rows.items → after ≡ record tables.index { greatest = greatest }
    → Makes (Totals next processed failures) (held_in tables)
    (held_by tables.rows after next processed failures)
unfolding after_move
made_totals tables after next processed failures greatest by_ticket renumbered = rw renumbered (record {
  kept = refl;
  room = room_left (Totals next processed failures) (held_in tables)
      (held_by tables.rows (record tables.index { greatest = greatest }) next processed failures)
      (record {
        rows = omega arith;
        queues = λ name. omega arith;
        leases = λ jid. omega arith;
        sets = λ target. omega arith;
        known = same_known tables.rows.items by_ticket;
      });
})

-- Tables stay tied where a row enters under a ticket that has none.
use Rattle.std.proofs.Common.{◌≡◌, ◌≢◌, ◌∙◌, sym, ap, refl, ℕ, ◌+◌, ◌<◌, ◌≤◌, List, [], ◌∷◌, ◌++◌, true, not, length, arith}
use Rattle.std.specs.Prelude.{All, Option, None, Some, IfSome, option_map, max, unwrap_or, ◌==◌}
use Rattle.std.specs.Option.{option_map_or}
use Rattle.std.proofs.lemmas.Bool.Decides.{nat_tests}
use Rattle.std.proofs.lemmas.List.Elements.{All-weaker, filter_passes}
use Rattle.fk_model.specs.declared.row.Row.{Row}
use Rattle.fk_model.specs.declared.mutation.Target.{Target}
use Rattle.fk_model.specs.declared.move_.Move.TheVariants.{Add}
use Rattle.fk_model.specs.Rows.{ticket_of, row_of, IsByTicket, row_at, with_row, without_row}
use Rattle.fk_json.specs.PairOrder.{with_pair}
use Rattle.fk_model.specs.Orders.{number_in, rank_of, rank_in, is_working, lease_under, queue, leases, working}
use Rattle.fk_model.specs.Spellings.{HasSpelling}
use Rattle.fk_model.proofs.Filed.{without_none}
use Rattle.fk_model.proofs.Tickets.{by_ticket_with, all_with}
use Rattle.fk_model.proofs.Ticketed.{tickets_hold, ticketed_new}
use Rattle.fk_model.proofs.Counted.{one_if, count_with}
use Rattle.fk_model.proofs.Queues.{queue_appends, queue_stays}
use Rattle.fk_model.proofs.Fitting.{IsLast, rising_new}
use Rattle.fk_lists.specs.Room.{list_at, spare_at}
use Rattle.fk_core.specs.Reserved.{waits_in, is_leased_under, stands_in}
use Rattle.fk_core.specs.Sets.{count_in, timed_pair}
use Rattle.fk_core.specs.Index.{Index, MayEnter, Entered, waiting_pair, lease_pair}
use Rattle.fk_core.specs.Tied.{IsNotBelow, AreTied}
use Rattle.fk_core.proofs.Standings.{count_waiting, count_leased, count_timed, some_room, joined_pair}
use Rattle.fk_core.proofs.InSets.{unset, set_with}

-- ---- that it may enter

last_pair : (rows : List (ℕ × Row)) (pairs : List (ℕ × ℕ)) (name : List ℕ) (ticket : ℕ) (given : Option ℕ)
    → pairs ≡ queue rows name → IsLast rows name given
    → IfSome (option_map (λ rank. (rank, ticket)) given)
    (λ (pair : ℕ × ℕ). All (λ other. number_in other < number_in pair) pairs)
last_pair rows pairs name ticket None same last = tt
last_pair rows pairs name ticket (Some rank) same last = rw same last

-- no row stands under a ticket that has none
none_there : (rows : List (ℕ × Row)) (ticket : ℕ) → IsByTicket rows → row_at rows ticket ≡ None
    → All (λ filed. ticket_of filed ≢ ticket) rows
none_there rows ticket by_ticket none =
    rw (← without_none rows ticket by_ticket none)
    (All-weaker (λ filed. not (ticket_of filed == ticket) ≡ true) (λ filed. ticket_of filed ≢ ticket)
    (λ filed other same. absurd (grind (arith, nat_tests, other, same))) (without_row rows ticket)
    (filter_passes (λ filed. not (ticket_of filed == ticket)) rows))

-- what lets a row enter: its ticket has none, its rank is last in its queue, and there is room
pub record MayCome (rows : List (ℕ × Row)) (index : Index) (ticket : ℕ) (row : Row) : Type 0 where
  pub absent : row_at rows ticket ≡ None
  pub last : (name : List ℕ) → IsLast rows name (rank_in name row)
  pub queues : (name : List ℕ) →
      one_if (waits_in name (row.job, row.place)) ≤ spare_at index.queues.spares name
  pub leases : (jid : List ℕ) →
      one_if (is_leased_under jid (row.job, row.place)) ≤ spare_at index.leases.spares jid
  pub sets : (target : Target) →
      one_if (stands_in target (row.job, row.place)) ≤ count_in target index.sets.spares

pub may_enter : (rows : List (ℕ × Row)) (index : Index) (next ticket : ℕ) (row : Row)
    → AreTied rows index next → MayCome rows index ticket row → MayEnter index ticket row
may_enter rows index next ticket row tied may = record {
  queue_room = λ name. some_room (waiting_pair name ticket row) (spare_at index.queues.spares name)
      (rw (count_waiting name ticket row) (may.queues name));
  last = λ name. last_pair rows (list_at index.queues.items name) name ticket (rank_in name row)
      (tied.queues name) (may.last name);
  lease_room = λ jid. some_room (lease_pair jid ticket row) (spare_at index.leases.spares jid)
      (rw (count_leased jid ticket row) (may.leases jid));
  absent = λ jid. rw (tied.leases jid)
      (tickets_hold (λ other. other ≢ ticket) (lease_under jid) rows
      (none_there rows ticket tied.by_ticket may.absent));
  set_room = λ target. some_room (timed_pair target ticket row.place) (count_in target index.sets.spares)
      (rw (count_timed target ticket row) (may.sets target));
  unset = λ target. rw (tied.sets target) (unset target rows ticket tied.by_ticket may.absent);
}

-- ---- that it entered

queue_with : (rows : List (ℕ × Row)) (ticket : ℕ) (row : Row) (name : List ℕ) (given : Option ℕ)
    → IsByTicket rows → row_at rows ticket ≡ None → rank_in name row ≡ given → IsLast rows name given
    → option_map_or (λ pair. queue rows name ++ pair ∷ []) (option_map (λ rank. (rank, ticket)) given)
    (queue rows name)
    ≡ queue (with_row rows ticket row) name
queue_with rows ticket row name None by_ticket none at last =
    sym (queue_stays rows ticket row name by_ticket none at)
queue_with rows ticket row name (Some rank) by_ticket none at last =
    sym (queue_appends rows ticket row name rank by_ticket none at last)

leases_with : (rows : List (ℕ × Row)) (ticket : ℕ) (row : Row) (jid : List ℕ)
    → IsByTicket rows → row_at rows ticket ≡ None
    → option_map_or (λ pair. with_pair pair (leases rows jid)) (lease_pair jid ticket row) (leases rows jid)
    ≡ leases (with_row rows ticket row) jid
leases_with rows ticket row jid by_ticket none =
    joined_pair ticket (lease_under jid row) (leases rows jid)
    ∙ sym (ticketed_new (lease_under jid) rows ticket row by_ticket none)

working_with : (rows : List (ℕ × Row)) (ticket : ℕ) (row : Row) → IsByTicket rows
    → row_at rows ticket ≡ None
    → length (working (with_row rows ticket row)) ≡ one_if (is_working row.place) + length (working rows)
working_with rows ticket row by_ticket none =
    count_with (λ filed. is_working (row_of filed).place) rows ticket row by_ticket
    ∙ ap (λ xs. one_if (is_working row.place) + length (working xs)) (without_none rows ticket by_ticket none)

rank_within : (given : Option ℕ) (greatest : ℕ) → IfSome given (λ rank. rank ≤ max greatest (unwrap_or given 0))
rank_within None greatest = tt
rank_within (Some rank) greatest = grind arith

weaker_rank : (given : Option ℕ) (less more : ℕ) → less ≤ more → IfSome given (λ rank. rank ≤ less)
    → IfSome given (λ rank. rank ≤ more)
weaker_rank None less more above within = tt
weaker_rank (Some rank) less more above within = omega arith

not_below_with : (rows : List (ℕ × Row)) (ticket : ℕ) (row : Row) (greatest : ℕ) → IsNotBelow greatest rows
    → IsNotBelow (max (max greatest ticket) (unwrap_or (rank_of row.place) 0)) (with_row rows ticket row)
not_below_with rows ticket row greatest before =
    let after : ℕ = max (max greatest ticket) (unwrap_or (rank_of row.place) 0) in
    let more : greatest ≤ after = grind arith in
    record {
      tickets = all_with (λ filed. ticket_of filed ≤ after) rows ticket row
          (All-weaker (λ filed. ticket_of filed ≤ greatest) (λ filed. ticket_of filed ≤ after)
          (λ filed within. omega (arith, more, within)) rows before.tickets)
          (grind arith);
      ranks = all_with (λ filed. IfSome (rank_of (row_of filed).place) (λ rank. rank ≤ after)) rows ticket
          row
          (All-weaker (λ filed. IfSome (rank_of (row_of filed).place) (λ rank. rank ≤ greatest))
          (λ filed. IfSome (rank_of (row_of filed).place) (λ rank. rank ≤ after))
          (λ filed. weaker_rank (rank_of (row_of filed).place) greatest after more) rows before.ranks)
          (rank_within (rank_of row.place) (max greatest ticket));
    }

-- the tables are tied still
pub row_entered : (rows : List (ℕ × Row)) (before after : Index) (next ticket : ℕ) (row : Row)
    → AreTied rows before next → MayCome rows before ticket row → HasSpelling (Add ticket row)
    → Entered ticket row before after → AreTied (with_row rows ticket row) after next
row_entered rows before after next ticket row tied may spelled entered = record {
  by_ticket = by_ticket_with rows ticket row tied.by_ticket;
  spelled = all_with (λ filed. HasSpelling (Add (ticket_of filed) (row_of filed))) rows ticket row
      tied.spelled spelled;
  queues = λ name. rw (entered.queues name, tied.queues name)
      (queue_with rows ticket row name (rank_in name row) tied.by_ticket may.absent refl (may.last name));
  distinct = λ name. rising_new rows ticket row name (rank_in name row) tied.by_ticket may.absent refl
      (may.last name) (tied.distinct name);
  leases = λ jid. rw (entered.leases jid, tied.leases jid)
      (leases_with rows ticket row jid tied.by_ticket may.absent);
  sets = λ target. rw (entered.sets target, tied.sets target)
      (set_with target rows ticket row tied.by_ticket may.absent);
  working = rw (entered.working, tied.working) (sym (working_with rows ticket row tied.by_ticket may.absent));
  greatest = rw entered.greatest (not_below_with rows ticket row before.greatest tied.greatest);
  within = tied.within;
}

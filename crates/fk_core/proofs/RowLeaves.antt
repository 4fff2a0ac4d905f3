-- Tables stay tied where a row leaves, and where it goes from one place to another.
use Rattle.std.proofs.Common.{◌≡◌, ◌∙◌, sym, refl, ℕ, ◌+◌, ◌≤◌, List, not, length, drop, arith}
use Rattle.std.specs.Prelude.{Option, None, Some, IfSome, option_map, is_some, slice_get, if◌then◌else◌, nat_lt, ◌==◌}
use Rattle.std.specs.Option.{option_map_or}
use Rattle.std.proofs.lemmas.Bool.Decides.{nat_tests}
use Rattle.fk_model.specs.declared.row.Row.{Row}
use Rattle.fk_model.specs.declared.move_.Move.TheVariants.{Add}
use Rattle.fk_model.specs.Rows.{ticket_of, row_of, IsByTicket, row_at, with_row, with_changed, without_row}
use Rattle.fk_model.specs.Orders.{ticket_in, rank_of, rank_in, is_working, lease_under, queue, leases, working}
use Rattle.fk_model.specs.Spellings.{HasSpelling}
use Rattle.fk_model.proofs.Filed.{changed_at}
use Rattle.fk_model.proofs.Sieves.{filter_swap, filter_within}
use Rattle.fk_model.proofs.Tickets.{by_ticket_without, all_without}
use Rattle.fk_model.proofs.Ticketed.{ticketed_standing, ticketed_taken}
use Rattle.fk_model.proofs.Counted.{one_if, count_standing}
use Rattle.fk_model.proofs.Ends.{rising_without}
use Rattle.fk_model.proofs.Queues.{queue_keeps, queue_rest}
use Rattle.fk_lists.specs.Room.{list_at}
use Rattle.fk_leases.specs.Leases.{without_lease}
use Rattle.fk_core.specs.Index.{Index, MayLeave, HasLeft, Entered}
use Rattle.fk_core.specs.Tied.{AreTied}
use Rattle.fk_core.proofs.Standings.{waits_ranked}
use Rattle.fk_core.proofs.InSets.{set_less}
use Rattle.fk_core.proofs.RowEnters.{MayCome, row_entered}

-- ---- the queues

queue_less : (rows : List (ℕ × Row)) (ticket : ℕ) (row : Row) (name : List ℕ) (given : Option ℕ)
    → IsByTicket rows → row_at rows ticket ≡ Some row → rank_in name row ≡ given
    → IfSome (option_map (λ rank. (rank, ticket)) given)
    (λ (pair : ℕ × ℕ). option_map ticket_in (slice_get (queue rows name) 0) ≡ Some ticket)
    → (if is_some given then drop 1 (queue rows name) else queue rows name)
    ≡ queue (without_row rows ticket) name
queue_less rows ticket row name None by_ticket at has first =
    sym (queue_keeps rows ticket row name by_ticket at has)
queue_less rows ticket row name (Some rank) by_ticket at has first =
    sym (queue_rest rows ticket row name rank by_ticket at has first)

queue_left : (rows : List (ℕ × Row)) (before after : Index) (next ticket : ℕ) (row : Row)
    → AreTied rows before next → row_at rows ticket ≡ Some row → MayLeave before ticket row
    → HasLeft ticket row before after → (name : List ℕ)
    → list_at after.queues.items name ≡ queue (without_row rows ticket) name
queue_left rows before after next ticket row tied at may left name =
    left.queues name
    ∙ rw (waits_ranked name row, tied.queues name)
    (queue_less rows ticket row name (rank_in name row) tied.by_ticket at refl
    (rw (tied.queues name) at (may name)))

-- ---- the leases

leases_less : (rows : List (ℕ × Row)) (ticket : ℕ) (row : Row) (jid : List ℕ) (given : Option ℕ)
    → IsByTicket rows → row_at rows ticket ≡ Some row → lease_under jid row ≡ given
    → option_map_or (λ (pair : ℕ × ℕ). without_lease pair.0 pair.1 (leases rows jid))
    (option_map (λ until. (ticket, until)) given) (leases rows jid)
    ≡ leases (without_row rows ticket) jid
leases_less rows ticket row jid None by_ticket at has =
    ticketed_standing (lease_under jid) rows ticket row by_ticket at ∙ rw has refl
leases_less rows ticket row jid (Some until) by_ticket at has =
    sym (ticketed_taken (lease_under jid) rows ticket row until by_ticket at has)

-- ---- the rows that workers have

pub working_less : (rows : List (ℕ × Row)) (index : Index) (next ticket : ℕ) (row : Row)
    → AreTied rows index next → row_at rows ticket ≡ Some row
    → index.working ≡ one_if (is_working row.place) + length (working (without_row rows ticket))
working_less rows index next ticket row tied at =
    tied.working
    ∙ count_standing (λ filed. is_working (row_of filed).place) rows ticket row tied.by_ticket at

-- ---- all of it

pub row_left : (rows : List (ℕ × Row)) (before after : Index) (next ticket : ℕ) (row : Row)
    → AreTied rows before next → row_at rows ticket ≡ Some row → MayLeave before ticket row
    → HasLeft ticket row before after → AreTied (without_row rows ticket) after next
row_left rows before after next ticket row tied at may left = record {
  by_ticket = by_ticket_without rows ticket tied.by_ticket;
  spelled = all_without (λ filed. HasSpelling (Add (ticket_of filed) (row_of filed))) rows ticket
      tied.spelled;
  queues = queue_left rows before after next ticket row tied at may left;
  distinct = λ name. rising_without (rank_in name) rows ticket (tied.distinct name);
  leases = λ jid. rw (left.leases jid, tied.leases jid)
      (leases_less rows ticket row jid (lease_under jid row) tied.by_ticket at refl);
  sets = λ target. rw (left.sets target, tied.sets target)
      (set_less target rows ticket row tied.by_ticket at);
  working = omega (arith, left.working, working_less rows before next ticket row tied at);
  greatest = rw left.greatest
      (record {
        tickets = all_without (λ filed. ticket_of filed ≤ before.greatest) rows ticket
            tied.greatest.tickets;
        ranks = all_without (λ filed. IfSome (rank_of (row_of filed).place) (λ rank. rank ≤ before.greatest))
            rows ticket tied.greatest.ranks;
      });
  within = tied.within;
}

-- ---- a row that was taken away is put again

with_again : (rows : List (ℕ × Row)) (ticket : ℕ) (row : Row)
    → with_row (without_row rows ticket) ticket row ≡ with_row rows ticket row
with_again rows ticket row =
    let other = λ (filed : ℕ × Row). not (ticket_of filed == ticket) in
    let lower = λ (filed : ℕ × Row). nat_lt (ticket_of filed) ticket in
    let higher = λ (filed : ℕ × Row). nat_lt ticket (ticket_of filed) in
    rw (
      filter_swap lower other rows,
      filter_within other lower (λ filed less. grind (arith, nat_tests, less)) rows,
      filter_swap higher other rows,
      filter_within other higher (λ filed more. grind (arith, nat_tests, more)) rows,
    ) refl

-- a row goes to another place
pub row_moved : (rows : List (ℕ × Row)) (before between after : Index) (next ticket : ℕ) (row : Row)
    (change : Row → Row) → AreTied rows before next → row_at rows ticket ≡ Some row
    → MayLeave before ticket row → HasLeft ticket row before between
    → MayCome (without_row rows ticket) between ticket (change row)
    → HasSpelling (Add ticket (change row)) → Entered ticket (change row) between after
    → AreTied (with_changed rows ticket change) after next
row_moved rows before between after next ticket row change tied at may left come spelled entered =
    let put = row_entered (without_row rows ticket) between after next ticket (change row)
    (row_left rows before between next ticket row tied at may left) come spelled entered in
    rw (changed_at rows ticket change row tied.by_ticket at)
    (rw (with_again rows ticket (change row)) at put)

-- The sets by moment, where a row enters and where one leaves.
use Rattle.std.proofs.Common.{◌≡◌, ◌≢◌, ◌∙◌, sym, ap, subst, refl, ℕ, List, not, true, false, filter, arith}
use Rattle.std.specs.Prelude.{Option, None, Some, option_map, filter_map, ◌==◌, ◌&&◌}
use Rattle.std.specs.Option.{option_map_or}
use Rattle.std.proofs.lemmas.Bool.Decides.{nat_tests}
use Rattle.std.proofs.lemmas.List.Elements.{All-weaker}
use Rattle.fk_model.specs.declared.row.Row.{Row}
use Rattle.fk_model.specs.declared.mutation.Target.{Target}
use Rattle.fk_model.specs.Rows.{IsByTicket, row_at, with_row, without_row}
use Rattle.fk_json.specs.PairOrder.{with_pair}
use Rattle.fk_model.specs.Orders.{number_in, ticket_in, moment_in, timed, with_ticket}
use Rattle.fk_model.proofs.Filed.{without_none}
use Rattle.fk_model.proofs.Sieves.{filter_all}
use Rattle.fk_model.proofs.Sorting.{are_in_order}
use Rattle.fk_model.proofs.Ordered.{filter_without}
use Rattle.fk_model.proofs.Numbered.{gained, numbered_standing, numbered_none_less}
use Rattle.fk_model.proofs.Ends.{others_without}
use Rattle.fk_model.proofs.Timed.{row_moment, timed_new}
use Rattle.fk_tree.specs.Order.{without_pair}
use Rattle.fk_timed.specs.Timed.{IsAbsent}
use Rattle.fk_core.specs.Sets.{timed_pair}
use Rattle.fk_core.proofs.Standings.{gained_pair}

-- ---- a row that enters

-- a ticket that has no row is in no set
pub unset : (target : Target) (rows : List (ℕ × Row)) (ticket : ℕ) → IsByTicket rows → row_at rows ticket ≡ None
    → IsAbsent ticket (timed target rows)
unset target rows ticket by_ticket none =
    subst (λ (others : List (ℕ × Row)). IsAbsent ticket (timed target others))
    (without_none rows ticket by_ticket none) (others_without (row_moment target) rows ticket)

pub set_with : (target : Target) (rows : List (ℕ × Row)) (ticket : ℕ) (row : Row)
    → IsByTicket rows → row_at rows ticket ≡ None
    → option_map_or (λ pair. with_pair pair (timed target rows)) (timed_pair target ticket row.place)
    (timed target rows)
    ≡ timed target (with_row rows ticket row)
set_with target rows ticket row by_ticket none =
    gained_pair ticket (moment_in target row.place) (timed target rows)
    ∙ sym (timed_new target rows ticket row by_ticket none)

-- ---- a row that leaves

is_another : (ticket moment : ℕ) (pair : ℕ × ℕ) → ticket_in pair ≢ ticket
    → not ((number_in pair == moment) && (ticket_in pair == ticket)) ≡ true
is_another ticket moment pair differs = grind (arith, nat_tests, differs)

is_itself : (ticket moment : ℕ) → not ((moment == moment) && (ticket == ticket)) ≡ false
is_itself ticket moment = grind (arith, nat_tests)

less_if : (target : Target) (rows : List (ℕ × Row)) (ticket : ℕ) (row : Row) (given : Option ℕ)
    → IsByTicket rows → row_at rows ticket ≡ Some row → moment_in target row.place ≡ given
    → option_map_or (λ (pair : ℕ × ℕ). without_pair pair (timed target rows))
    (option_map (λ moment. (moment, ticket)) given) (timed target rows)
    ≡ timed target (without_row rows ticket)
less_if target rows ticket row None by_ticket at is =
    sym (numbered_none_less (row_moment target) rows ticket row by_ticket at is)
less_if target rows ticket row (Some moment) by_ticket at is =
    let others = timed target (without_row rows ticket) in
    let test = λ (pair : ℕ × ℕ). not ((number_in pair == moment) && (ticket_in pair == ticket)) in
    let whole : timed target rows ≡ with_pair (moment, ticket) others =
    numbered_standing (row_moment target) rows ticket row by_ticket at
    ∙ ap (λ o. gained o ticket others) is in
    ap (filter test) whole
    ∙ filter_without test (moment, ticket) others
    (are_in_order (filter_map (with_ticket (row_moment target)) (without_row rows ticket)))
    (is_itself ticket moment)
    ∙ filter_all test others
    (All-weaker (λ pair. ticket_in pair ≢ ticket) (λ pair. test pair ≡ true) (is_another ticket moment) others
    (others_without (row_moment target) rows ticket))

pub set_less : (target : Target) (rows : List (ℕ × Row)) (ticket : ℕ) (row : Row)
    → IsByTicket rows → row_at rows ticket ≡ Some row
    → option_map_or (λ (pair : ℕ × ℕ). without_pair pair (timed target rows)) (timed_pair target ticket row.place)
    (timed target rows)
    ≡ timed target (without_row rows ticket)
set_less target rows ticket row by_ticket at =
    less_if target rows ticket row (moment_in target row.place) by_ticket at refl

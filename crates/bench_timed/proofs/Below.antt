-- Tickets stay below the next one where pairs come and go.
use Rattle.std.proofs.Common.{◌≢◌, ℕ, ◌+◌, ◌<◌, ◌≤◌, List, filter, arith}
use Rattle.std.specs.Prelude.{All}
use Rattle.std.proofs.lemmas.List.Elements.{All-append, All-cons, All-filter, All-weaker}
use Rattle.fk_json.specs.PairOrder.{comes_before, with_pair}
use Rattle.fk_model.specs.Orders.{ticket_in}
use Rattle.fk_tree.specs.Order.{without_pair}
use Rattle.fk_timed.specs.Timed.{IsAbsent}
use Rattle.bench_timed.specs.Tickets.{AreBelow}

pub absent : (ticket : ℕ) (pairs : List (ℕ × ℕ)) → AreBelow ticket pairs → IsAbsent ticket pairs
absent ticket pairs below =
    All-weaker (λ (pair : ℕ × ℕ). pair.1 < ticket) (λ (pair : ℕ × ℕ). ticket_in pair ≢ ticket)
    (λ pair less. λ same. omega (arith, less, same)) pairs below

pub more_below : (next ticket : ℕ) (pairs : List (ℕ × ℕ)) → ticket ≤ next → AreBelow ticket pairs → AreBelow next pairs
more_below next ticket pairs less below =
    All-weaker (λ (pair : ℕ × ℕ). pair.1 < ticket) (λ (pair : ℕ × ℕ). pair.1 < next)
    (λ pair under. omega (arith, under, less)) pairs below

pub with_next : (moment ticket : ℕ) (pairs : List (ℕ × ℕ)) → AreBelow ticket pairs
    → AreBelow (ticket + 1) (with_pair (moment, ticket) pairs)
with_next moment ticket pairs below =
    let more = more_below (ticket + 1) ticket pairs (omega arith) below in
    All-append (λ (pair : ℕ × ℕ). pair.1 < ticket + 1)
    (filter (λ (other : ℕ × ℕ). comes_before other (moment, ticket)) pairs) _
    (All-filter _ (λ (pair : ℕ × ℕ). pair.1 < ticket + 1) pairs more)
    (All-cons (λ (pair : ℕ × ℕ). pair.1 < ticket + 1) (moment, ticket) _ (omega arith)
    (All-filter _ (λ (pair : ℕ × ℕ). pair.1 < ticket + 1) pairs more))

pub without_one : (pair : ℕ × ℕ) (ticket : ℕ) (pairs : List (ℕ × ℕ)) → AreBelow ticket pairs
    → AreBelow ticket (without_pair pair pairs)
without_one pair ticket pairs below = All-filter _ (λ (other : ℕ × ℕ). other.1 < ticket) pairs below

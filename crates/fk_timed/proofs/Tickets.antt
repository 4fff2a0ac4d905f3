-- Where no pair is of a ticket, all pairs are others than one of that ticket.
use Rattle.std.proofs.Common.{◌≢◌, ℕ, List, [], ◌∷◌, ap}
use Rattle.std.specs.List.{AllByRecursion}
use Rattle.std.proofs.lemmas.List.Elements.{recursion_from_All}
use Rattle.fk_model.specs.Orders.{ticket_in}
use Rattle.fk_tree.specs.Order.{AreOthers}
use Rattle.fk_timed.specs.Timed.{IsAbsent}

all_others : (moment ticket : ℕ) (pairs : List (ℕ × ℕ))
    → AllByRecursion (λ pair. ticket_in pair ≢ ticket) pairs → AreOthers (moment, ticket) pairs
all_others moment ticket [] absent = tt
all_others moment ticket (pair ∷ pairs) absent =
    ((λ same. absent.0 (ap ticket_in same)), all_others moment ticket pairs absent.1)

pub others : (moment ticket : ℕ) (pairs : List (ℕ × ℕ)) → IsAbsent ticket pairs → AreOthers (moment, ticket) pairs
others moment ticket pairs absent =
    all_others moment ticket pairs (recursion_from_All (λ pair. ticket_in pair ≢ ticket) pairs absent)

-- The first of a queue, once the state was brought up to date: the first that waited there before, or else the first
-- that was put into it.
use Rattle.std.proofs.Common.{◌≡◌, ◌∙◌, sym, ap, refl, ℕ, List, [], ◌∷◌, ◌++◌}
use Rattle.std.specs.Prelude.{Option, None, Some, option_map, slice_get}
use Rattle.fk_model.specs.State.{KeptState}
use Rattle.fk_model.specs.Orders.{ticket_in, queue}
use Rattle.fk_model.specs.Between.{IsWellKept}
use Rattle.fk_model.specs.Due.{due}
use Rattle.fk_model.specs.Bringing.{brought_up}
use Rattle.fk_lists.specs.Room.{Named, list_at}
use Rattle.fk_plan.specs.Arrivals.{arrivals, HasArrived}
use Rattle.fk_plan.proofs.Arrived.{queue_up}

some_first : (xs ys : List (ℕ × ℕ)) (ticket : ℕ) → Some ticket ≡ option_map ticket_in (slice_get xs 0)
    → Some ticket ≡ option_map ticket_in (slice_get (xs ++ ys) 0)
some_first [] ys ticket one = absurd (cc)
some_first (pair ∷ xs) ys ticket one = one

none_first : (xs ys : List (ℕ × ℕ)) → None ≡ option_map ticket_in (slice_get xs 0)
    → slice_get (xs ++ ys) 0 ≡ slice_get ys 0
none_first [] ys none = refl
none_first (pair ∷ xs) ys none = absurd (cc)

-- a row waited there before
pub first_waited : (kept : KeptState) (moment word ticket : ℕ) (name : List ℕ) → IsWellKept kept
    → Some ticket ≡ option_map ticket_in (slice_get (queue kept.rows name) 0)
    → Some ticket ≡ option_map ticket_in (slice_get (queue (brought_up kept moment word).rows name) 0)
first_waited kept moment word ticket name well one =
    rw (queue_up kept moment word name well)
    (some_first (queue kept.rows name) (arrivals name kept.next (due kept moment)) ticket one)

-- none did
pub first_arrived : (kept : KeptState) (moment word : ℕ) (name : List ℕ) (queues : Named)
    (found : Option (ℕ × ℕ)) → IsWellKept kept → HasArrived kept moment queues
    → None ≡ option_map ticket_in (slice_get (queue kept.rows name) 0)
    → found ≡ slice_get (list_at queues name) 0
    → option_map ticket_in found
    ≡ option_map ticket_in (slice_get (queue (brought_up kept moment word).rows name) 0)
first_arrived kept moment word name queues found well arrived none is =
    rw (queue_up kept moment word name well)
    (ap (option_map ticket_in) (is ∙ ap (λ xs. slice_get xs 0) (arrived.each name)
    ∙ sym (none_first (queue kept.rows name) (arrivals name kept.next (due kept moment)) none)))

-- What the plan of a turn knows of a kept state that is brought up to a moment.
use Rattle.std.specs.Prelude.{◌≡◌, ℕ, ◌<◌, ◌+◌, ◌^◌, List, length, filter_map}
use Rattle.fk_model.specs.State.{KeptState}
use Rattle.fk_model.specs.Orders.{in_order, with_ticket}
use Rattle.fk_model.specs.Due.{expired, up_to, waits_until}
use Rattle.fk_model.specs.Bringing.{brought_up}
use Rattle.fk_plan.specs.declared.bringing.BroughtUp.{BroughtUp}

-- the moments and tickets of the rows that are put into their queues, in order
abbrev pub pairs_due : KeptState → ℕ → List (ℕ × ℕ)
pairs_due kept moment =
    up_to moment (in_order (filter_map (with_ticket (λ row. waits_until row.place)) kept.rows))

-- the ranks of the rows that are put into their queues are numbers of 64 bits
abbrev pub AreFewDue : KeptState → ℕ → Type 0
AreFewDue kept moment = kept.next + length (pairs_due kept moment) < 2 ^ 64

-- what is told of a kept state that is brought up to a moment: its numbers, how many reservations had run out,
-- and the rows that were put into their queues
pub record IsBroughtUp (kept : KeptState) (moment word : ℕ) (up : BroughtUp) : Type 0 where
  pub next : up.numbers.next ≡ (brought_up kept moment word).next
  pub processed : up.numbers.processed ≡ (brought_up kept moment word).processed
  pub failures : up.numbers.failures ≡ (brought_up kept moment word).failures
  pub expired : up.expired ≡ length (expired kept moment)
  pub due : up.due.items ≡ pairs_due kept moment

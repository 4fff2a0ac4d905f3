-- Where there is no row, nothing is to be found.
use Rattle.std.proofs.Common.{◌≡◌, ◌≤◌, ℕ, [], refl, arith}
use Rattle.std.proofs.lemmas.List.Elements.{All-nil}
use Rattle.fk_model.specs.declared.mutation.Target.{Target}
use Rattle.fk_model.specs.Limits.{greatest_next}
use Rattle.fk_model.specs.Orders.{in_order}
use Rattle.fk_lists.specs.Room.{list_at}
use Rattle.fk_core.specs.Sets.{pairs_in}
use Rattle.fk_core.specs.Index.{Index}
use Rattle.fk_core.specs.Tied.{AreTied}

pub tied_to_none : (index : Index) (next : ℕ) → index.queues.items ≡ [] → index.leases.items ≡ []
    → ((target : Target) → pairs_in target index.sets.items ≡ [])
    → index.working ≡ 0 → next ≤ greatest_next → AreTied [] index next
unfolding list_at in_order
tied_to_none index next queues leases sets working within = record {
  by_ticket = λ k more. absurd (omega (arith, more));
  spelled = All-nil _;
  queues = λ name. rw queues refl;
  distinct = λ name k more. absurd (omega (arith, more));
  leases = λ jid. rw leases refl;
  sets = sets;
  working = working;
  greatest = record { tickets = All-nil _; ranks = All-nil _ };
  within = within;
}

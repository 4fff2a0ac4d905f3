use Rattle.std.proofs.Common.{◌≡◌, ℕ, ◌+◌, ◌<◌, ◌++◌, List, drop}
use Rattle.std.specs.Prelude.{All}
use Rattle.fk_model.specs.Orders.{number_in}
use Rattle.fk_model.specs.Due.{rows_of}
use Rattle.fk_lists.specs.Room.{list_at}
use Rattle.fk_plan.specs.Arrivals.{arrivals}
use Rattle.fk_plan.proofs.arriving.arrivals.Given as goal

-- under each name stand those that have arrived, and those that are left come behind them
abbrev pub invariant-arriving : goal.invariant-arriving
invariant-arriving l = record {
  left : (name : List ℕ) → list_at l.queues.items name
      ++ arrivals name l.rank (rows_of l.tables.kept.rows (drop l.at l.pairs.items))
      ≡ arrivals name l.tables.kept.next (rows_of l.tables.kept.rows l.pairs.items);
  count : l.rank ≡ l.tables.kept.next + l.at;
  lower : (name : List ℕ) → All (λ pair. number_in pair < l.rank) (list_at l.queues.items name);
}

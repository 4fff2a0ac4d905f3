-- Rows under their tickets, and how many more may be put without taking memory.
use Rattle.std.specs.Prelude.{ℕ, List}
use Rattle.fk_model.specs.declared.row.Row.{Row}

pub record Room : Type 0 where
  pub items : List (ℕ × Row)
  pub spare : ℕ

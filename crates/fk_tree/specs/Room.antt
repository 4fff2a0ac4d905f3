-- A set of pairs as the list of its pairs in order, and room for more.
use Rattle.std.specs.Prelude.{ℕ, List}

pub record Room : Type 0 where
  pub items : List (ℕ × ℕ)
  pub spare : ℕ

-- The length of what stands in a text itself.
use Rattle.std.specs.Prelude.{ℕ}

-- the most bytes of a short text
abbrev pub most_short : ℕ
most_short = 30

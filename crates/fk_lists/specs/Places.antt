-- Where a number stands in a list of pairs that is in order of first numbers, or would stand.
use Rattle.std.specs.Prelude.{ℕ, ◌≡◌, ◌<◌, ◌≤◌, List, Some, option_map, length, slice_get, take, drop, All}
use Rattle.fk_model.specs.Orders.{number_in}

-- a pair with this first number stands at this place
abbrev pub IsPlace : List (ℕ × ℕ) → ℕ → ℕ → Type 0
IsPlace pairs number at = option_map number_in (slice_get pairs at) ≡ Some number

-- a pair with this first number would stand at this place: those before it are below, the others above
pub record IsGap (pairs : List (ℕ × ℕ)) (number at : ℕ) : Type 0 where
  pub within : at ≤ length pairs
  pub below : All (λ pair. number_in pair < number) (take at pairs)
  pub above : All (λ pair. number < number_in pair) (drop at pairs)

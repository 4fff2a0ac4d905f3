-- The sets by moment: of each its pairs of a moment and a ticket, how many more it takes without memory, and
-- how many of these are marked.
use Rattle.std.specs.Prelude.{ℕ, Bool, is_some, List, Option, option_map}
use Rattle.fk_model.specs.declared.place.Place.{Place}
use Rattle.fk_model.specs.declared.mutation.Target.{Target}
use Rattle.fk_model.specs.declared.mutation.Target.TheVariants.{Scheduled, Retries, Dead}
use Rattle.fk_model.specs.Orders.{moment_in}

-- of each set the pairs
pub record SetPairs : Type 0 where
  pub scheduled : List (ℕ × ℕ)
  pub retries : List (ℕ × ℕ)
  pub dead : List (ℕ × ℕ)

-- of each set a number
pub record SetCounts : Type 0 where
  pub scheduled : ℕ
  pub retries : ℕ
  pub dead : ℕ

pub record Sets : Type 0 where
  pub items : SetPairs
  pub spares : SetCounts
  pub marks : SetCounts

-- the pairs of a set
unfoldable pub pairs_in : Target → SetPairs → List (ℕ × ℕ)
pairs_in Scheduled sets = sets.scheduled
pairs_in Retries sets = sets.retries
pairs_in Dead sets = sets.dead

-- the number of a set
unfoldable pub count_in : Target → SetCounts → ℕ
count_in Scheduled sets = sets.scheduled
count_in Retries sets = sets.retries
count_in Dead sets = sets.dead

-- this is a place in a set
abbrev pub stands_at : Target → Place → Bool
stands_at target place = is_some (moment_in target place)

-- what a row at a place is in a set: nothing, or its moment and ticket
abbrev pub timed_pair : Target → ℕ → Place → Option (ℕ × ℕ)
timed_pair target ticket place = option_map (λ moment. (moment, ticket)) (moment_in target place)

-- a set alone
pub record TimedSet : Type 0 where
  pub items : List (ℕ × ℕ)
  pub spare : ℕ
  pub marks : ℕ

-- The moments of all sets are later where those of each are.
use Rattle.std.proofs.Common.{◌≡◌, ℕ, Bool, true, false}
use Rattle.std.specs.Prelude.{◌↔◌, IsTrue}
use Rattle.fk_model.specs.declared.mutation.Target.{Target}
use Rattle.fk_model.specs.declared.mutation.Target.TheVariants as target
use Rattle.fk_core.specs.Lookups.{AreLater}
use Rattle.fk_core.specs.Sets.{SetPairs, pairs_in}

-- the moments of each set are later
abbrev pub AllLater : ℕ → SetPairs → Type 0
AllLater moment sets = (one : Target) → AreLater moment (pairs_in one sets)

each_set : (moment : ℕ) (sets : SetPairs) → AreLater moment sets.scheduled → AreLater moment sets.retries
    → AreLater moment sets.dead → (one : Target) → AreLater moment (pairs_in one sets)
unfolding pairs_in
each_set moment sets scheduled retries dead target.Scheduled = scheduled
each_set moment sets scheduled retries dead target.Retries = retries
each_set moment sets scheduled retries dead target.Dead = dead

-- where the first two are later, all are where the last is
pub last_later : (moment : ℕ) (sets : SetPairs) (one two three : Bool)
    → (IsTrue one ↔ AreLater moment sets.scheduled) → (IsTrue two ↔ AreLater moment sets.retries)
    → (IsTrue three ↔ AreLater moment sets.dead) → one ≡ true → two ≡ true
    → IsTrue three ↔ AllLater moment sets
unfolding pairs_in
last_later moment sets one two three scheduled retries dead first second = (
  λ later. each_set moment sets (scheduled.0 first) (retries.0 second) (dead.0 later),
  λ all. dead.1 (all target.Dead),
)

-- where one isn't later, not all are
pub not_later : (moment : ℕ) (sets : SetPairs) (one : Target) (later : Bool)
    → (IsTrue later ↔ AreLater moment (pairs_in one sets)) → later ≡ false → IsTrue false ↔ AllLater moment sets
not_later moment sets one later is fails = (
  λ wrong. absurd (cc wrong),
  λ all. let passes : IsTrue later = is.1 (all one) in absurd (cc),
)

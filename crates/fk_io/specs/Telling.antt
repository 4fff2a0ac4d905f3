-- What an object of the outside tells, one item a call, as a clock its moments. It may tell nothing,
-- and then it is `None` before and after. The last item of a list stays, so that a list with an item
-- never comes to its end.
use Rattle.std.specs.Prelude.{◌≡◌, ℕ, zero, suc, Option, Some, IfSome}
use Rattle.std.specs.Prelude.{List, [], ◌∷◌, ◌++◌, length, take, slice_get}
use Rattle.std.specs.Option.{option_map}

-- what is still told after one call: all but the first item, or the last one again
abbrev pub rest_of : List ℕ → List ℕ
rest_of [] = []
rest_of (last ∷ []) = last ∷ []
rest_of (first ∷ second ∷ items) = second ∷ items

-- one call gave this answer: the first item of what was told
pub record Tells (before : Option (List ℕ)) (answer : ℕ) (after : Option (List ℕ)) : Type 0 where
  pub first : IfSome before (λ items. slice_get items 0 ≡ Some answer)
  pub rest : after ≡ option_map rest_of before

-- what is still told after so many calls
unfoldable pub rest_after : ℕ → List ℕ → List ℕ
rest_after zero items = items
rest_after (suc calls) items = rest_after calls (rest_of items)

-- the answers of the next calls, so many
unfoldable pub told_of : ℕ → List ℕ → List ℕ
told_of zero items = []
told_of (suc calls) items = take 1 items ++ told_of calls (rest_of items)

-- calls gave these answers, one after another
pub record Gave (before : Option (List ℕ)) (answers : List ℕ) (after : Option (List ℕ)) : Type 0 where
  pub all : IfSome before (λ items. answers ≡ told_of (length answers) items)
  pub left : after ≡ option_map (rest_after (length answers)) before

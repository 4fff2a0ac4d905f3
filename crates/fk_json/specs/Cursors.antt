-- What comes next in a text that was read up to some item.
use Rattle.std.specs.Prelude.{◌≡◌, ◌↔◌, ℕ, ◌<◌, ◌≤◌, List, ◌++◌, Some}
use Rattle.fk_json.specs.Json.{most_levels}
use Rattle.fk_json.specs.Left.{Item}
use Rattle.fk_json.specs.Reached.{IsReadTo}
use Rattle.fk_json.specs.Remainder.{Adds, HasName, IsTextOf}
use Rattle.fk_json.specs.declared.cursor.Cursor.{Cursor}
use Rattle.fk_json.specs.declared.cursor.Next.{Next}
use Rattle.fk_json.specs.declared.cursor.Next.TheVariants as next
use Rattle.fk_json.specs.declared.mode.Bracket.{Bracket}
use Rattle.fk_json.specs.declared.mode.Bracket.TheVariants.{Array, Object}
use Rattle.fk_json.specs.declared.standing.Found.{Found}

-- of an object's member the name is known
abbrev pub IsNamedIn : Bracket → List ℕ → Found → Type 0
IsNamedIn Array text found = Unit {0}
IsNamedIn Object text found = HasName text (Some found)

-- Another item is found behind those before it, and the text was read up to there; or there is none,
-- and those before it are the items of the text, and no others are.
abbrev pub LeadsTo : Bracket → List ℕ → Cursor → Next → Type 0
LeadsTo outer text cursor (next.Found item behind) =
    (found : List (Item outer)) → IsReadTo outer text cursor.at found cursor.standing
    → IsNamedIn outer text item
    × ((items : List (Item outer)) → Adds outer text (Some item) items
    → IsReadTo outer text behind.at (found ++ items) behind.standing)
LeadsTo outer text cursor next.End =
    (found : List (Item outer)) → IsReadTo outer text cursor.at found cursor.standing
    → (all : List (Item outer)) → (IsTextOf outer most_levels text all) ↔ (all ≡ found)

-- the item was found farther on
abbrev pub GoesFarther : ℕ → Cursor → Next → Type 0
GoesFarther end cursor (next.Found item behind) = (cursor.at < behind.at) × (behind.at ≤ end)
GoesFarther end cursor next.End = Unit {0}

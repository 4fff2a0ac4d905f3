-- What is left to be read from where a scan stands, and what was found before it.
use Rattle.std.specs.Prelude.{◌≡◌, ℕ, suc, ◌+◌, ◌≤◌, List, [], ◌∷◌, ◌++◌, length, take, drop, Option, None, Some}
use Rattle.fk_json.specs.Json.{IsArrayText, IsObjectText, IsSpace, IsValue}
use Rattle.fk_json.specs.String.{IsString}
use Rattle.fk_json.specs.TokenRests.{StringLeft}
use Rattle.fk_json.specs.Moves.{innermost, opening}
use Rattle.fk_json.specs.Left.{ByteThen, FirstLeft, Frame, Item, ModeLeft, Pending, Spaced, ended, nested, outermost}
use Rattle.fk_json.specs.declared.mode.Bracket.{Bracket}
use Rattle.fk_json.specs.declared.mode.Bracket.TheVariants.{Array, Object}
use Rattle.fk_json.specs.declared.mode.Mode.{Mode}
use Rattle.fk_json.specs.declared.mode.Mode.TheVariants.{Naming}
use Rattle.fk_json.specs.declared.standing.Places.{Places}
use Rattle.fk_json.specs.declared.standing.Found.{Found}
use Rattle.fk_json.specs.declared.standing.Region.{Region}
use Rattle.fk_json.specs.declared.standing.Region.TheVariants.{Before, Between, Behind}
use Rattle.fk_json.specs.declared.standing.Standing.{Standing}

-- ---- what is left to be read

-- an object text or an array text
abbrev pub IsTextOf : (outer : Bracket) → ℕ → List ℕ → List (Item outer) → Type 0
IsTextOf Array levels text items = IsArrayText levels text items
IsTextOf Object levels text items = IsObjectText levels text items

-- the item that is being read, with the value of its name
abbrev pub pending_of : List ℕ → Places → Pending
pending_of name places = record {
  name = name;
  name_from = places.name_from;
  name_to = places.name_to;
  from = places.from;
}

-- nothing is known of items that aren't found
abbrev pub no_item : Pending
no_item = record { name = []; name_from = 0; name_to = 0; from = 0 }

abbrev pub pending_in : List Bracket → Pending → Pending
pending_in [] pending = pending
pending_in (bracket ∷ inner) pending = no_item

-- the innermost brackets, where so many levels may be open in them
abbrev pub frame_in : (outer : Bracket) → Pending → ℕ → (inner : List Bracket)
    → Frame (Item (innermost outer inner)) (Item outer)
frame_in outer pending levels [] = outermost outer levels
frame_in outer pending levels (bracket ∷ inner) =
    nested (frame_in outer pending (suc levels) inner)
    (ended (innermost outer inner) (pending_in inner pending)) bracket levels

-- the rest of a name that began with these bytes; of an inner one the value isn't found
abbrev pub NameRest : List ℕ → List Bracket → Mode → List ℕ → List ℕ → Type 0
NameRest front [] mode rest name = IsString (front ++ rest) name
NameRest front (bracket ∷ inner) (Naming mode) rest name = StringLeft mode rest
NameRest front (bracket ∷ inner) mode rest name = ⊥

abbrev pub RegionLeft : (outer : Bracket) → ℕ → List ℕ → Pending → List Bracket → Region
    → ℕ → List ℕ → List (Item outer) → Type 0
RegionLeft outer levels front pending inner Before at text found =
    Spaced (ByteThen (opening outer) (λ place rest. FirstLeft (outermost outer levels) place rest found)) at text
RegionLeft outer levels front pending inner (Between mode) at text found =
    ModeLeft (innermost outer inner) (frame_in outer pending levels inner) (IsValue levels)
    (NameRest front inner mode) (pending_in inner pending) mode at text found
RegionLeft outer levels front pending inner Behind at text found = IsSpace text × (found ≡ [])

-- What is left from where a scan stands, where so many levels may still be opened, the name that is
-- being read began with these bytes, and the last one that was read stands for this value.
abbrev pub StandingLeft : (outer : Bracket) → ℕ → List ℕ → List ℕ → Standing
    → ℕ → List ℕ → List (Item outer) → Type 0
StandingLeft outer levels front name standing at text found =
    RegionLeft outer levels front (pending_of name standing.places) standing.inner standing.region
    at text found

-- the same where so many levels may be open in the outermost brackets, whatever is open now
abbrev pub LevelsLeft : (outer : Bracket) → ℕ → List ℕ → List ℕ → Standing
    → ℕ → List ℕ → List (Item outer) → Type 0
LevelsLeft outer most front name standing at text found =
    (levels : ℕ) × (levels + length standing.inner ≡ most)
    × StandingLeft outer levels front name standing at text found

-- ---- what is found

-- the bytes of the name at these places
abbrev pub name_text : List ℕ → Places → List ℕ
name_text text places = drop places.name_from (take places.name_to text)

-- the name was read, and this is its value
pub record IsKnown (text : List ℕ) (places : Places) (name : List ℕ) : Type 0 where
  pub ordered : places.name_from ≤ places.name_to
  pub within : places.name_to ≤ length text
  pub spelled : IsString (name_text text places) name

-- a member's name is that of its places
abbrev pub NameOf : Bracket → List ℕ → Found → List ℕ → Type 0
NameOf Array text found name = Unit {0}
NameOf Object text found name = IsKnown text found.places name

-- what an item that was found adds to the items
abbrev pub Adds : (outer : Bracket) → List ℕ → Option Found → List (Item outer) → Type 0
Adds outer text None items = items ≡ []
Adds outer text (Some found) items =
    (name : List ℕ) × NameOf outer text found name × (items ≡ ended outer (pending_of name found.places) found.to ∷ [])

-- a member that was found has a name at its places
abbrev pub HasName : List ℕ → Option Found → Type 0
HasName text None = Unit {0}
HasName text (Some found) = (name : List ℕ) × IsKnown text found.places name

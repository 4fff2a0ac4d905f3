-- How far a text was read, the items found in it, and what is known there.
use Rattle.std.specs.Prelude.{◌≡◌, ◌↔◌, ℕ, suc, ◌≤◌, List, [], ◌∷◌, ◌++◌, length, take, drop}
use Rattle.fk_json.specs.TokenRests.{StringLeft}
use Rattle.fk_json.specs.Moves.{innermost, most_inner}
use Rattle.fk_json.specs.Left.{Fits, Item}
use Rattle.fk_json.specs.Remainder.{IsKnown, IsTextOf, LevelsLeft, NameRest}
use Rattle.fk_json.specs.declared.mode.Bracket.{Bracket}
use Rattle.fk_json.specs.declared.mode.Bracket.TheVariants.{Array, Object}
use Rattle.fk_json.specs.declared.mode.Mode.{Mode}
use Rattle.fk_json.specs.declared.mode.Mode.TheVariants.{First, Next, Naming, Colon, Value, Within, After}
use Rattle.fk_json.specs.declared.standing.Region.{Region}
use Rattle.fk_json.specs.declared.standing.Region.TheVariants.{Before, Between, Behind}
use Rattle.fk_json.specs.declared.standing.Standing.{Standing}

-- the rests of a name are those of its mode
abbrev pub IsNamed : Mode → (List ℕ → List ℕ → Type 0) → Type 0
IsNamed (Naming mode) IsName = (rest : List ℕ) → ((name : List ℕ) × IsName rest name) ↔ (StringLeft mode rest)
IsNamed mode IsName = Unit {0}

-- the name of the item that is being read was read
abbrev pub IsPast : Mode → Type 0
IsPast First = ⊥
IsPast Next = ⊥
IsPast (Naming mode) = ⊥
IsPast Colon = Unit {0}
IsPast Value = Unit {0}
IsPast (Within token) = Unit {0}
IsPast After = ⊥

abbrev pub FitsIn : Bracket → List Bracket → Region → Type 0
FitsIn outer inner (Between mode) = Fits (innermost outer inner) mode
FitsIn outer inner Before = inner ≡ []
FitsIn outer inner Behind = inner ≡ []

-- the name that is being read began with these bytes
abbrev pub NamedIn : List ℕ → List Bracket → Region → Type 0
NamedIn front inner (Between mode) = IsNamed mode (NameRest front inner mode)
NamedIn front inner region = Unit {0}

-- it is known where a member's value is read
abbrev pub KnownBetween : Bracket → List Bracket → Mode → Type 0 → Type 0
KnownBetween Array inner mode X = Unit {0}
KnownBetween Object [] mode X = IsPast mode → X
KnownBetween Object (bracket ∷ inner) mode X = X

abbrev pub KnownRegion : Bracket → List Bracket → Region → Type 0 → Type 0
KnownRegion outer inner (Between mode) X = KnownBetween outer inner mode X
KnownRegion outer inner region X = Unit {0}

abbrev pub KnownIn : Bracket → List ℕ → List ℕ → Standing → Type 0
KnownIn outer text name standing =
    KnownRegion outer standing.inner standing.region (IsKnown text standing.places name)

-- the items that are found, and then those that are left
abbrev pub Finds : {I : Type 0} → List I → (List I → Type 0) → List I → Type 0
Finds {I} found IsLeft all = (others : List I) × (all ≡ found ++ others) × IsLeft others

-- What was read of a text, the items found in it, and where the scan stands: what is left is what
-- makes the whole a text, at each number of levels that is high enough.
pub record Stands
    (outer : Bracket) (done : List ℕ) (found : List (Item outer)) (standing : Standing) : Type 0 where
  pub name : List ℕ
  pub open_few : length standing.inner ≤ most_inner
  pub name_within : standing.places.name_from ≤ length done
  pub fits : FitsIn outer standing.inner standing.region
  pub named : NamedIn (drop standing.places.name_from done) standing.inner standing.region
  pub known : KnownIn outer done name standing
  pub left : (most : ℕ) (rest : List ℕ) (all : List (Item outer)) → most_inner ≤ most
      → (IsTextOf outer (suc most) (done ++ rest) all)
      ↔ (Finds found (λ others. LevelsLeft outer most (drop standing.places.name_from done) name standing
      (length done) rest others) all)

-- the bytes before a place were read
pub record IsReadTo (outer : Bracket) (text : List ℕ) (at : ℕ) (found : List (Item outer)) (standing : Standing)
    : Type 0 where
  pub within : at ≤ length text
  pub stands : Stands outer (take at text) found standing

-- What is left to be read between brackets, in the words of the grammar: the rest of the items, the
-- closing bracket, and what stands behind it.
use Rattle.std.specs.Prelude.{◌≡◌, ◌⊎◌, ℕ, ◌+◌, List, [], ◌∷◌, ◌++◌, length}
use Rattle.fk_json.specs.Json.{AreJoined, IsElement, IsMember, IsSpace, IsValue}
use Rattle.fk_json.specs.TokenRests.{TokenLeft}
use Rattle.fk_json.specs.Moves.{closing}
use Rattle.fk_json.specs.declared.member.Member.{Member}
use Rattle.fk_json.specs.declared.span.Span.{Span}
use Rattle.fk_json.specs.declared.mode.Bracket.{Bracket}
use Rattle.fk_json.specs.declared.mode.Bracket.TheVariants.{Array, Object}
use Rattle.fk_json.specs.declared.mode.Mode.{Mode}
use Rattle.fk_json.specs.declared.mode.Mode.TheVariants.{First, Next, Naming, Colon, Value, Within, After}

-- Open brackets, from their inside: what an item is, the closing bracket, how an item that was read
-- joins those that are found, and what may stand behind the closing bracket, from a place on, where
-- such items are still to be found.
pub record Frame (I O : Type 0) : Type 1 where
  pub IsItem : ℕ → List ℕ → I → Type 0
  pub close : ℕ
  pub note : I → List O → List O
  pub Behind : ℕ → List ℕ → List O → Type 0

-- the items that are found where others are found behind them
abbrev pub noted : {I O : Type 0} → (I → List O → List O) → List I → List O → List O
noted note [] others = others
noted note (item ∷ items) others = note item (noted note items others)

-- white space, and then something
abbrev pub Spaced : (ℕ → List ℕ → Type 0) → ℕ → List ℕ → Type 0
Spaced IsRest at text =
    (spaces rest : List ℕ) × IsSpace spaces × IsRest (at + length spaces) rest
    × (text ≡ spaces ++ rest)

-- one byte, and then something
abbrev pub ByteThen : ℕ → (ℕ → List ℕ → Type 0) → ℕ → List ℕ → Type 0
ByteThen byte IsRest at text = (rest : List ℕ) × IsRest (at + 1) rest × (text ≡ byte ∷ rest)

-- items, the closing bracket and what stands behind it
abbrev pub ItemsLeft : {I O : Type 0} → Frame I O → ℕ → List ℕ → List O → Type 0
ItemsLeft {I} {O} F at text found =
    (items : List I) × (inner rest : List ℕ) × (others : List O)
    × AreJoined F.IsItem at inner items × F.Behind (at + length inner + 1) rest others
    × (found ≡ noted F.note items others) × (text ≡ inner ++ F.close ∷ rest)

-- behind an item: the closing bracket, or a comma and items
abbrev pub TailLeft : {I O : Type 0} → Frame I O → ℕ → List ℕ → List O → Type 0
TailLeft F at text found =
    ByteThen F.close (λ place rest. F.Behind place rest found) at text
    ⊎ ByteThen 44 (λ place rest. ItemsLeft F place rest found) at text

-- behind a value: white space first
abbrev pub AfterLeft : {I O : Type 0} → Frame I O → ℕ → List ℕ → List O → Type 0
AfterLeft F at text found = Spaced (λ place rest. TailLeft F place rest found) at text

-- behind the opening bracket: items, or white space and the closing bracket
abbrev pub FirstLeft : {I O : Type 0} → Frame I O → ℕ → List ℕ → List O → Type 0
FirstLeft F at text found =
    ItemsLeft F at text found
    ⊎ Spaced (ByteThen F.close (λ place rest. F.Behind place rest found)) at text

-- the rest of a value, whose end makes an item
abbrev pub WithinLeft : {I O : Type 0} → Frame I O → (List ℕ → Type 0) → (ℕ → I)
    → ℕ → List ℕ → List O → Type 0
WithinLeft {I} {O} F IsRest item at text found =
    (rest behind : List ℕ) × (others : List O) × IsRest rest
    × AfterLeft F (at + length rest) behind others
    × (found ≡ F.note (item (at + length rest)) others) × (text ≡ rest ++ behind)

-- white space and a value, whose start and end make an item
abbrev pub ValueLeft : {I O : Type 0} → Frame I O → (List ℕ → Type 0) → (ℕ → ℕ → I)
    → ℕ → List ℕ → List O → Type 0
ValueLeft F IsInner item at text found =
    Spaced (λ place rest. WithinLeft F IsInner (item place) place rest found) at text

-- white space, a colon and a value
abbrev pub ColonLeft : {O : Type 0} → Frame Member O → (List ℕ → Type 0) → List ℕ → ℕ → ℕ
    → ℕ → List ℕ → List O → Type 0
ColonLeft F IsInner name name_from name_to at text found =
    Spaced (ByteThen 58 (λ place rest. ValueLeft F IsInner
    (λ from to. record { name = name; name_from = name_from; name_to = name_to; from = from; to = to })
    place rest found)) at text

-- the rest of a name, which then stands for a value, and what stands behind it
abbrev pub NameLeft : {O : Type 0} → Frame Member O → (List ℕ → Type 0)
    → (List ℕ → List ℕ → Type 0) → ℕ → ℕ → List ℕ → List O → Type 0
NameLeft F IsInner IsRest name_from at text found =
    (rest behind name : List ℕ) × IsRest rest name
    × ColonLeft F IsInner name name_from (at + length rest) (at + length rest) behind found
    × (text ≡ rest ++ behind)

-- ---- brackets in brackets

-- what stands between brackets
abbrev pub Item : Bracket → Type 0
Item Array = Span
Item Object = Member

abbrev pub IsItem : (bracket : Bracket) → (List ℕ → Type 0) → ℕ → List ℕ → Item bracket → Type 0
IsItem Array IsInner at text item = IsElement IsInner at text item
IsItem Object IsInner at text item = IsMember IsInner at text item

-- nothing
abbrev pub IsNothing : List ℕ → Type 0
IsNothing text = text ≡ []

-- the outermost brackets: their items are found, and white space may stand behind them
abbrev pub outermost : (bracket : Bracket) → ℕ → Frame (Item bracket) (Item bracket)
outermost bracket levels = record {
  IsItem = IsItem bracket (IsValue levels);
  close = closing bracket;
  note = λ item others. item ∷ others;
  Behind = λ at text found. IsSpace text × (found ≡ []);
}

-- brackets in others: their items aren't found, and behind them a value of the others has ended
abbrev pub nested : {I O : Type 0} → Frame I O → (ℕ → I) → (bracket : Bracket) → ℕ
    → Frame (Item bracket) O
nested F item bracket levels = record {
  IsItem = IsItem bracket (IsValue levels);
  close = closing bracket;
  note = λ inner others. others;
  Behind = λ at text found. WithinLeft F IsNothing item at text found;
}

-- the item that is being read, as far as it is known
pub record Pending : Type 0 where
  pub name : List ℕ
  pub name_from : ℕ
  pub name_to : ℕ
  pub from : ℕ

-- the item that ends at a place
abbrev pub ended : (bracket : Bracket) → Pending → ℕ → Item bracket
ended Array pending to = record { from = pending.from; to = to }
ended Object pending to = record {
  name = pending.name;
  name_from = pending.name_from;
  name_to = pending.name_to;
  from = pending.from;
  to = to;
}

-- what is left between brackets, by where the scan stands
abbrev pub ModeLeft : {O : Type 0} (bracket : Bracket) → Frame (Item bracket) O
    → (List ℕ → Type 0) → (List ℕ → List ℕ → Type 0) → Pending → Mode → ℕ → List ℕ → List O → Type 0
ModeLeft bracket F IsInner IsName pending First at text found = FirstLeft F at text found
ModeLeft bracket F IsInner IsName pending Next at text found = ItemsLeft F at text found
ModeLeft bracket F IsInner IsName pending (Within token) at text found =
    WithinLeft F (TokenLeft token) (ended bracket pending) at text found
ModeLeft bracket F IsInner IsName pending After at text found = AfterLeft F at text found
ModeLeft Array F IsInner IsName pending (Naming mode) at text found = ⊥
ModeLeft Array F IsInner IsName pending Colon at text found = ⊥
ModeLeft Array F IsInner IsName pending Value at text found = ⊥
ModeLeft Object F IsInner IsName pending (Naming mode) at text found =
    NameLeft F IsInner IsName pending.name_from at text found
ModeLeft Object F IsInner IsName pending Colon at text found =
    ColonLeft F IsInner pending.name pending.name_from pending.name_to at text found
ModeLeft Object F IsInner IsName pending Value at text found =
    ValueLeft F IsInner
    (λ from to. record {
      name = pending.name;
      name_from = pending.name_from;
      name_to = pending.name_to;
      from = from;
      to = to;
    })
    at text found

-- an array has no names
abbrev pub Fits : Bracket → Mode → Type 0
Fits Array (Naming mode) = ⊥
Fits Array Colon = ⊥
Fits Array Value = ⊥
Fits bracket mode = Unit {0}

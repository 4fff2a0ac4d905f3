-- JSON texts (RFC 8259, sections 2 to 5): values of at most so many levels of brackets, the members
-- of an object and the elements of an array with their places, and what begins such a text.
use Rattle.std.specs.Prelude.{◌≡◌, ◌⊎◌, ◌==◌, ◌||◌, ℕ, zero, suc, ◌+◌, ◌<◌, ◌≤◌, Bool, true, List, [], ◌∷◌, ◌++◌, length, take, codes}
use Rattle.std.specs.List.{list_all}
use Rattle.fk_json.specs.String.{IsString}
use Rattle.fk_json.specs.Number.{IsNumber}
use Rattle.fk_json.specs.declared.member.Member.{Member}
use Rattle.fk_json.specs.declared.span.Span.{Span}
use Rattle.fk_json.specs.declared.fault.JsonFault.{JsonFault}
use Rattle.fk_json.specs.declared.fault.JsonFault.TheVariants.{Syntax, TooDeep, NoMemory}

-- a space, a tab, a line feed or a carriage return
abbrev pub is_space : ℕ → Bool
is_space byte = (byte == 32) || (byte == 9) || (byte == 10) || (byte == 13)

-- white space, or nothing
abbrev pub IsSpace : List ℕ → Type 0
IsSpace text = list_all is_space text ≡ true

-- the place of a member's value
abbrev pub value_span : Member → Span
value_span member = record { from = member.from; to = member.to }

-- ---- arrays and objects, over what a value in them is; `at` is the place where a piece begins

-- a value with white space around it, and the place of the value
pub record IsElement
    (IsInner : List ℕ → Type 0) (at : ℕ) (text : List ℕ) (span : Span) : Type 0 where
  pub before : List ℕ
  pub value : List ℕ
  pub after : List ℕ
  pub spaces : IsSpace before × IsSpace after
  pub valued : IsInner value
  pub whole : text ≡ before ++ value ++ after
  pub from : span.from ≡ at + length before
  pub to : span.to ≡ span.from + length value

-- A name, a colon and a value, with white space around each: the decoded name, the place of the
-- name with its quotes, and the place of the value.
pub record IsMember
    (IsInner : List ℕ → Type 0) (at : ℕ) (text : List ℕ) (member : Member) : Type 0 where
  pub before : List ℕ
  pub name : List ℕ
  pub after : List ℕ
  pub rest : List ℕ
  pub spaces : IsSpace before × IsSpace after
  pub spelled : IsString name member.name
  pub valued : IsElement IsInner (member.name_to + length after + 1) rest (value_span member)
  pub whole : text ≡ before ++ name ++ after ++ codes ":" ++ rest
  pub from : member.name_from ≡ at + length before
  pub to : member.name_to ≡ member.name_from + length name

-- one or more items with commas between them
abbrev pub AreJoined : {I : Type 0} → (ℕ → List ℕ → I → Type 0) → ℕ → List ℕ → List I → Type 0
AreJoined IsItem at text [] = ⊥
AreJoined IsItem at text (item ∷ []) = IsItem at text item
AreJoined IsItem at text (item ∷ next ∷ items) =
    (piece rest : List ℕ) × IsItem at piece item
    × AreJoined IsItem (at + length piece + 1) rest (next ∷ items)
    × (text ≡ piece ++ codes "," ++ rest)

-- what stands between two brackets: white space, or items with commas between them
abbrev pub AreItems : {I : Type 0} → (ℕ → List ℕ → I → Type 0) → ℕ → List ℕ → List I → Type 0
AreItems IsItem at text items = ((items ≡ []) × IsSpace text) ⊎ AreJoined IsItem at text items

-- an array: elements between brackets
abbrev pub IsArray : (List ℕ → Type 0) → ℕ → List ℕ → List Span → Type 0
IsArray IsInner at text elements =
    (inner : List ℕ) × AreItems (IsElement IsInner) (at + 1) inner elements
    × (text ≡ codes "[" ++ inner ++ codes "]")

-- an object: members between braces
abbrev pub IsObject : (List ℕ → Type 0) → ℕ → List ℕ → List Member → Type 0
IsObject IsInner at text members =
    (inner : List ℕ) × AreItems (IsMember IsInner) (at + 1) inner members
    × (text ≡ codes "{" ++ inner ++ codes "}")

-- ---- values

abbrev pub IsLiteral : List ℕ → Type 0
IsLiteral text =
    (text ≡ codes "null") ⊎ ((text ≡ codes "true") ⊎ (text ≡ codes "false"))

-- a value without brackets
abbrev pub IsScalar : List ℕ → Type 0
IsScalar text =
    IsLiteral text ⊎ (IsNumber text ⊎ ((value : List ℕ) × IsString text value))

-- a value of at most so many levels of brackets
abbrev pub IsValue : ℕ → List ℕ → Type 0
IsValue zero text = IsScalar text
IsValue (suc levels) text =
    IsScalar text
    ⊎ (((elements : List Span) × IsArray (IsValue levels) 0 text elements)
    ⊎ ((members : List Member) × IsObject (IsValue levels) 0 text members))

-- ---- texts

-- a part with white space around it
pub record IsText
    {I : Type 0} (IsPart : ℕ → List ℕ → List I → Type 0) (text : List ℕ) (items : List I)
    : Type 0 where
  pub before : List ℕ
  pub part : List ℕ
  pub after : List ℕ
  pub spaces : IsSpace before × IsSpace after
  pub shaped : IsPart (length before) part items
  pub whole : text ≡ before ++ part ++ after

-- one object of at most so many levels, its own among them, and its members in order
abbrev pub IsObjectText : ℕ → List ℕ → List Member → Type 0
IsObjectText zero text members = ⊥
IsObjectText (suc levels) text members = IsText (IsObject (IsValue levels)) text members

-- one array of at most so many levels, its own among them, and its elements in order
abbrev pub IsArrayText : ℕ → List ℕ → List Span → Type 0
IsArrayText zero text elements = ⊥
IsArrayText (suc levels) text elements = IsText (IsArray (IsValue levels)) text elements

-- ---- where a text stops being one, over what a text of at most so many levels is

-- with more bytes, or none, it is a text of at most so many levels
abbrev pub Begins : {I : Type 0} → (ℕ → List ℕ → List I → Type 0) → ℕ → List ℕ → Type 0
Begins {I} IsTextOf levels text =
    (rest : List ℕ) × (items : List I) × IsTextOf levels (text ++ rest) items

-- with more bytes, or none, it is a text of some depth
abbrev pub BeginsSome : {I : Type 0} → (ℕ → List ℕ → List I → Type 0) → List ℕ → Type 0
BeginsSome IsTextOf text = (levels : ℕ) × Begins IsTextOf levels text

-- how many levels are read
abbrev pub most_levels : ℕ
most_levels = 127

-- The text is none, `at` is the length of its longest prefix that begins one, and that prefix
-- doesn't go too deep.
pub record FailsAt
    {I : Type 0} (IsTextOf : ℕ → List ℕ → List I → Type 0) (text : List ℕ) (at : ℕ) : Type 0 where
  pub inside : at ≤ length text
  pub begins : Begins IsTextOf most_levels (take at text)
  pub longest : (longer : ℕ) → at < longer → longer ≤ length text
      → ¬ BeginsSome IsTextOf (take longer text)
  pub none : (levels : ℕ) (items : List I) → ¬ IsTextOf levels text items

-- The prefix before `at` begins a text that doesn't go too deep, and with the byte at `at` it still
-- begins a text, but none that doesn't: that byte is the first bracket of a level too many.
pub record IsTooDeepAt
    {I : Type 0} (IsTextOf : ℕ → List ℕ → List I → Type 0) (text : List ℕ) (at : ℕ) : Type 0 where
  pub inside : at < length text
  pub begins : Begins IsTextOf most_levels (take at text)
  pub goes_on : BeginsSome IsTextOf (take (at + 1) text)
  pub too_deep : ¬ Begins IsTextOf most_levels (take (at + 1) text)

-- what a fault says of a text
abbrev pub Faults : {I : Type 0} → (ℕ → List ℕ → List I → Type 0) → List ℕ → JsonFault → Type 0
Faults IsTextOf text (Syntax at) = FailsAt IsTextOf text at
Faults IsTextOf text (TooDeep at) = IsTooDeepAt IsTextOf text at
Faults IsTextOf text NoMemory = Unit {0}

-- More levels of brackets do no harm.
use Rattle.std.proofs.Common.{inl, inr, ℕ, zero, suc, ◌+◌, ◌≤◌, List, [], ◌∷◌, length, arith}
use Rattle.fk_json.specs.Json.{AreItems, AreJoined, IsArray, IsArrayText, IsElement, IsMember, IsObject, IsObjectText, IsText, IsValue, value_span}
use Rattle.fk_json.specs.declared.member.Member.{Member}
use Rattle.fk_json.specs.declared.span.Span.{Span}

-- ---- where each text of one kind is one of another

-- texts of one kind are of another
abbrev pub Give : (List ℕ → Type 0) → (List ℕ → Type 0) → Type 0
Give P Q = (text : List ℕ) → P text → Q text

-- and items of one kind
abbrev pub GiveItems : {I : Type 0} → (ℕ → List ℕ → I → Type 0) → (ℕ → List ℕ → I → Type 0) → Type 0
GiveItems {I} P Q = (at : ℕ) (text : List ℕ) (item : I) → P at text item → Q at text item

-- so are the elements
pub element_gives : (P Q : List ℕ → Type 0) → Give P Q → GiveItems (IsElement P) (IsElement Q)
element_gives P Q give at text span h = record {
  before = h.before;
  value = h.value;
  after = h.after;
  spaces = h.spaces;
  valued = give h.value h.valued;
  whole = h.whole;
  from = h.from;
  to = h.to;
}

-- the members
pub member_gives : (P Q : List ℕ → Type 0) → Give P Q → GiveItems (IsMember P) (IsMember Q)
member_gives P Q give at text member h = record {
  before = h.before;
  name = h.name;
  after = h.after;
  rest = h.rest;
  spaces = h.spaces;
  spelled = h.spelled;
  valued = element_gives P Q give _ h.rest (value_span member) h.valued;
  whole = h.whole;
  from = h.from;
  to = h.to;
}

-- items with commas between them
pub joined_give : {I : Type 0} (P Q : ℕ → List ℕ → I → Type 0) → GiveItems P Q
    → (at : ℕ) (text : List ℕ) (items : List I) → AreJoined P at text items → AreJoined Q at text items
joined_give P Q give at text [] h = h
joined_give P Q give at text (item ∷ []) h = give at text item h
joined_give P Q give at text (item ∷ next ∷ items) (piece, rest, is, are, whole) = (
  piece,
  rest,
  give at piece item is,
  joined_give P Q give (at + length piece + 1) rest (next ∷ items) are,
  whole,
)

-- what stands between two brackets
pub items_give : {I : Type 0} (P Q : ℕ → List ℕ → I → Type 0) → GiveItems P Q
    → (at : ℕ) (text : List ℕ) (items : List I) → AreItems P at text items → AreItems Q at text items
items_give P Q give at text items (inl none) = inl none
items_give P Q give at text items (inr joined) = inr (joined_give P Q give at text items joined)

-- the arrays
pub array_gives : (P Q : List ℕ → Type 0) → Give P Q → GiveItems (IsArray P) (IsArray Q)
array_gives P Q give at text elements (inner, items, whole) = (
  inner,
  items_give (IsElement P) (IsElement Q) (element_gives P Q give) (at + 1) inner elements items,
  whole,
)

-- and the objects
pub object_gives : (P Q : List ℕ → Type 0) → Give P Q → GiveItems (IsObject P) (IsObject Q)
object_gives P Q give at text members (inner, items, whole) = (
  inner,
  items_give (IsMember P) (IsMember Q) (member_gives P Q give) (at + 1) inner members items,
  whole,
)

-- parts with white space around them
text_gives : {I : Type 0} (P Q : ℕ → List ℕ → List I → Type 0) → GiveItems P Q
    → (text : List ℕ) (items : List I) → IsText P text items → IsText Q text items
text_gives P Q give text items h = record {
  before = h.before;
  part = h.part;
  after = h.after;
  spaces = h.spaces;
  shaped = give (length h.before) h.part items h.shaped;
  whole = h.whole;
}

-- ---- levels

-- a value of so many levels is one of more
pub more_levels : (levels most : ℕ) (text : List ℕ) → levels ≤ most → IsValue levels text → IsValue most text
more_levels zero zero text l h = h
more_levels zero (suc most) text l h = inl h
more_levels (suc levels) zero text l h = absurd (omega (arith, l))
more_levels (suc levels) (suc most) text l (inl scalar) = inl scalar
more_levels (suc levels) (suc most) text l (inr (inl (elements, array))) =
    let give : Give (IsValue levels) (IsValue most) = λ t v. more_levels levels most t (omega (arith, l)) v in
    inr (inl (elements, array_gives (IsValue levels) (IsValue most) give 0 text elements array))
more_levels (suc levels) (suc most) text l (inr (inr (members, object))) =
    let give : Give (IsValue levels) (IsValue most) = λ t v. more_levels levels most t (omega (arith, l)) v in
    inr (inr (members, object_gives (IsValue levels) (IsValue most) give 0 text members object))

-- an object of so many levels is one of more, with the same members
pub object_more : (levels most : ℕ) (text : List ℕ) (members : List Member) → levels ≤ most
    → IsObjectText levels text members → IsObjectText most text members
object_more zero most text members l h = absurd h
object_more (suc levels) zero text members l h = absurd (omega (arith, l))
object_more (suc levels) (suc most) text members l h =
    let give : Give (IsValue levels) (IsValue most) = λ t v. more_levels levels most t (omega (arith, l)) v in
    text_gives (IsObject (IsValue levels)) (IsObject (IsValue most))
    (object_gives (IsValue levels) (IsValue most) give) text members h

-- and an array, with the same elements
pub array_more : (levels most : ℕ) (text : List ℕ) (elements : List Span) → levels ≤ most
    → IsArrayText levels text elements → IsArrayText most text elements
array_more zero most text elements l h = absurd h
array_more (suc levels) zero text elements l h = absurd (omega (arith, l))
array_more (suc levels) (suc most) text elements l h =
    let give : Give (IsValue levels) (IsValue most) = λ t v. more_levels levels most t (omega (arith, l)) v in
    text_gives (IsArray (IsValue levels)) (IsArray (IsValue most))
    (array_gives (IsValue levels) (IsValue most) give) text elements h

-- What is an item at one place is one at any other, with other places in it.
use Rattle.std.proofs.Common.{◌≡◌, ℕ, ◌+◌, List, [], ◌∷◌, ◌++◌, length, refl}
use Rattle.fk_json.specs.Json.{AreJoined, IsElement, IsMember}
use Rattle.fk_json.specs.declared.member.Member.{Member}
use Rattle.fk_json.specs.declared.span.Span.{Span}

-- what is an item at one place is one at any other, with other places in it
abbrev pub Movable : {I : Type 0} → (ℕ → List ℕ → I → Type 0) → Type 0
Movable {I} IsThing =
    (at : ℕ) (text : List ℕ) (item : I) → IsThing at text item → (other : ℕ)
    → (moved : I) × IsThing other text moved

pub element_movable : (IsInner : List ℕ → Type 0) → Movable (IsElement IsInner)
element_movable IsInner at text span h other = (
  record { from = other + length h.before; to = other + length h.before + length h.value },
  record {
    before = h.before;
    value = h.value;
    after = h.after;
    spaces = h.spaces;
    valued = h.valued;
    whole = h.whole;
    from = refl;
    to = refl;
  },
)

pub member_movable : (IsInner : List ℕ → Type 0) → Movable (IsMember IsInner)
member_movable IsInner at text member h other =
    let name_to = other + length h.before + length h.name in
    let (span, element) = element_movable IsInner _ _ _ h.valued (name_to + length h.after + 1) in (
      record {
        name = member.name;
        name_from = other + length h.before;
        name_to = name_to;
        from = span.from;
        to = span.to;
      },
      record {
        before = h.before;
        name = h.name;
        after = h.after;
        rest = h.rest;
        spaces = h.spaces;
        spelled = h.spelled;
        valued = element;
        whole = h.whole;
        from = refl;
        to = refl;
      },
    )

-- one more item in front of others
joined_more : {I : Type 0} (IsThing : ℕ → List ℕ → I → Type 0) (at : ℕ) (text piece rest : List ℕ)
    (item : I) (items : List I) → IsThing at piece item → AreJoined IsThing (at + length piece + 1) rest items
    → text ≡ piece ++ (44 ∷ []) ++ rest → AreJoined IsThing at text (item ∷ items)
joined_more IsThing at text piece rest item [] is joined e = absurd joined
joined_more IsThing at text piece rest item (next ∷ items) is joined e = (piece, rest, is, joined, e)

pub moved : {I : Type 0} (IsThing : ℕ → List ℕ → I → Type 0) → Movable IsThing
    → (at : ℕ) (text : List ℕ) (items : List I) → AreJoined IsThing at text items → (other : ℕ)
    → (others : List I) × AreJoined IsThing other text others
moved IsThing move at text [] joined other = absurd joined
moved IsThing move at text (item ∷ []) is other =
    let (there, still) = move at text item is other in
    (there ∷ [], still)
moved IsThing move at text (item ∷ next ∷ items) (piece, rest, is, joined, e) other =
    let (there, still) = move at piece item is other in
    let (others, behind) = moved IsThing move (at + length piece + 1) rest (next ∷ items) joined
    (other + length piece + 1) in
    (there ∷ others, joined_more IsThing other text piece rest there others still behind e)

pub elements_moved : (IsInner : List ℕ → Type 0) (at : ℕ) (text : List ℕ) (items : List Span)
    → AreJoined (IsElement IsInner) at text items → (other : ℕ)
    → (others : List Span) × AreJoined (IsElement IsInner) other text others
elements_moved IsInner = moved (IsElement IsInner) (element_movable IsInner)

pub members_moved : (IsInner : List ℕ → Type 0) (at : ℕ) (text : List ℕ) (items : List Member)
    → AreJoined (IsMember IsInner) at text items → (other : ℕ)
    → (others : List Member) × AreJoined (IsMember IsInner) other text others
members_moved IsInner = moved (IsMember IsInner) (member_movable IsInner)

-- An opening bracket among others: what is left of its array or object, and then of what stands
-- around it, is what is left between the brackets.
use Rattle.std.proofs.Common.{◌≡◌, ◌↔◌, inl, inr, ℕ, ◌+◌, List, [], ◌∷◌, ◌++◌, length, refl, sym, ap, subst, ◌∙◌, arith}
use Rattle.std.proofs.lemmas.List.{append_assoc, length-append}
use Rattle.fk_json.specs.Json.{AreItems, IsArray, IsElement, IsMember, IsObject, IsValue}
use Rattle.fk_json.specs.Left.{Frame, noted, AfterLeft, FirstLeft, WithinLeft, IsNothing, nested}
use Rattle.fk_json.specs.declared.member.Member.{Member}
use Rattle.fk_json.specs.declared.span.Span.{Span}
use Rattle.fk_json.specs.declared.mode.Bracket.TheVariants.{Array, Object}
use Rattle.fk_json.proofs.Parts.{tail_of}
use Rattle.fk_json.proofs.ItemsMoved.{Movable, element_movable, member_movable, moved}

-- items between two brackets
abbrev pub IsBracketed : {I : Type 0} → (ℕ → List ℕ → I → Type 0) → ℕ → ℕ → ℕ → List ℕ → List I → Type 0
IsBracketed IsThing open_byte close at text items =
    (inner : List ℕ) × AreItems IsThing (at + 1) inner items × (text ≡ open_byte ∷ (inner ++ close ∷ []))

-- brackets in others, whose items aren't found
abbrev pub dropping : {I J O : Type 0} → Frame I O → (ℕ → I) → (ℕ → List ℕ → J → Type 0) → ℕ → Frame J O
dropping F item IsThing close = record {
  IsItem = IsThing;
  close = close;
  note = λ inner others. others;
  Behind = λ at text found. WithinLeft F IsNothing item at text found;
}

dropped : {J O : Type 0} (items : List J) (others : List O)
    → noted (λ inner behind. behind) items others ≡ others
dropped [] others = refl
dropped (item ∷ items) others = dropped items others

-- the place behind the closing bracket
place_closed : (at close : ℕ) (rest inner : List ℕ) → rest ≡ inner ++ close ∷ []
    → at + length rest ≡ at + length inner + 1
place_closed at close rest inner e = omega (arith, ap length e, length-append inner (close ∷ []))

-- behind the closing bracket a value has ended
after_closed : {I O : Type 0} (F : Frame I O) (item : ℕ → I) (from to : ℕ) (behind : List ℕ)
    (others found : List O)
    → from ≡ to → AfterLeft F from behind others → found ≡ F.note (item from) others
    → WithinLeft F IsNothing item to behind found
after_closed F item from to behind others found e after f =
    let same : from ≡ to + length {A = ℕ} [] = omega (arith, e) in (
      [],
      behind,
      others,
      refl,
      subst (λ n. AfterLeft F n behind others) same after,
      f ∙ ap (λ n. F.note (item n) others) same,
      refl,
    )

closed_after : {I O : Type 0} (F : Frame I O) (item : ℕ → I) (from to : ℕ) (behind : List ℕ) (found : List O)
    → from ≡ to → WithinLeft F IsNothing item to behind found
    → (others : List O) × AfterLeft F from behind others × (found ≡ F.note (item from) others)
closed_after F item from to behind found e (rest, more, others, none, after, f, w) =
    let same : to + length rest ≡ from = omega (arith, e, ap length none) in
    let whole : behind ≡ more = w ∙ ap (λ x. x ++ more) none in (
      others,
      subst (λ n. AfterLeft F n behind others) same
          (subst (λ x. AfterLeft F (to + length rest) x others) (sym whole) after),
      f ∙ ap (λ n. F.note (item n) others) same,
    )

-- what is left of an array or object, whose items may stand anywhere, is what is left between its brackets
opened_first : {I J O : Type 0} (F : Frame I O) (item : ℕ → I) (IsThing : ℕ → List ℕ → J → Type 0)
    → Movable IsThing → (close at : ℕ) (text : List ℕ) (found : List O)
    (items : List J) (inner behind : List ℕ)
    → AreItems IsThing 1 inner items → WithinLeft F IsNothing item (at + length inner + 1) behind found
    → text ≡ inner ++ close ∷ behind → FirstLeft (dropping F item IsThing close) at text found
opened_first F item IsThing move close at text found items inner behind (inl (none, space)) there e =
    inr (inner, close ∷ behind, space, (behind, there, refl), e)
opened_first F item IsThing move close at text found items inner behind (inr joined) there e =
    let (others, still) = moved IsThing move 1 inner items joined at in
    inl (others, inner, behind, found, still, there, sym (dropped others found), e)

first_opened : {I J O : Type 0} (F : Frame I O) (item : ℕ → I) (IsThing : ℕ → List ℕ → J → Type 0)
    (open_byte close at : ℕ) (text : List ℕ) (found : List O) (items : List J) (inner behind : List ℕ)
    → AreItems IsThing 1 inner items → WithinLeft F IsNothing item (at + length inner + 1) behind found
    → text ≡ inner ++ close ∷ behind
    → WithinLeft F (λ rest. (items : List J) × IsBracketed IsThing open_byte close 0 (open_byte ∷ rest) items)
    item at text found
first_opened F item IsThing open_byte close at text found items inner behind things there e =
    let rest = inner ++ close ∷ [] in
    let (others, after, f) = closed_after F item (at + length rest) (at + length inner + 1) behind found
    (place_closed at close rest inner refl) there in
    let whole = e ∙ sym (append_assoc inner (close ∷ []) behind) in
    (rest, behind, others, (items, (inner, things, refl)), after, f, whole)

first_back : {I J O : Type 0} (F : Frame I O) (item : ℕ → I) (IsThing : ℕ → List ℕ → J → Type 0)
    → Movable IsThing → (open_byte close at : ℕ) (text : List ℕ) (found : List O)
    → FirstLeft (dropping F item IsThing close) at text found
    → WithinLeft F (λ rest. (items : List J) × IsBracketed IsThing open_byte close 0 (open_byte ∷ rest) items)
    item at text found
first_back F item IsThing move open_byte close at text found
    (inl (items, inner, behind, others, joined, there, f, e)) =
    let same : others ≡ found = sym (f ∙ dropped items others) in
    let here = subst (λ x. WithinLeft F IsNothing item (at + length inner + 1) behind x) same there in
    let (again, still) = moved IsThing move at inner items joined 1 in
    first_opened F item IsThing open_byte close at text found again inner behind (inr still) here e
first_back F item IsThing move open_byte close at text found
    (inr (inner, rest, space, (behind, there, v), w)) =
    first_opened F item IsThing open_byte close at text found [] inner behind (inl (refl, space)) there
    (w ∙ ap (λ x. inner ++ x) v)

pub opened : {I J O : Type 0} (F : Frame I O) (item : ℕ → I) (IsThing : ℕ → List ℕ → J → Type 0)
    → Movable IsThing → (open_byte close at : ℕ) (text : List ℕ) (found : List O)
    → WithinLeft F (λ rest. (items : List J) × IsBracketed IsThing open_byte close 0 (open_byte ∷ rest) items)
    item at text found
    ↔ FirstLeft (dropping F item IsThing close) at text found
opened F item IsThing move open_byte close at text found = (
  λ (rest, behind, others, (items, (inner, things, w)), after, f, e).
      let inside : rest ≡ inner ++ close ∷ [] = tail_of w in
      let there = after_closed F item (at + length rest) (at + length inner + 1) behind others found
      (place_closed at close rest inner inside) after f in
      opened_first F item IsThing move close at text found items inner behind things there
      (e ∙ ap (λ x. x ++ behind) inside ∙ append_assoc inner (close ∷ []) behind),
  first_back F item IsThing move open_byte close at text found,
)

pub array_opened : {I O : Type 0} (F : Frame I O) (item : ℕ → I) (levels at : ℕ) (text : List ℕ)
    (found : List O)
    → WithinLeft F (λ rest. (elements : List Span) × IsArray (IsValue levels) 0 (91 ∷ rest) elements)
    item at text found
    ↔ FirstLeft (nested F item Array levels) at text found
array_opened F item levels at text found =
    opened F item (IsElement (IsValue levels)) (element_movable (IsValue levels)) 91 93 at text found

pub object_opened : {I O : Type 0} (F : Frame I O) (item : ℕ → I) (levels at : ℕ) (text : List ℕ)
    (found : List O)
    → WithinLeft F (λ rest. (members : List Member) × IsObject (IsValue levels) 0 (123 ∷ rest) members)
    item at text found
    ↔ FirstLeft (nested F item Object levels) at text found
object_opened F item levels at text found =
    opened F item (IsMember (IsValue levels)) (member_movable (IsValue levels)) 123 125 at text found

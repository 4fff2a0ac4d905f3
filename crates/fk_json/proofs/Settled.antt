-- A text splits in one way: no text begins with two values, or with two lists of items, of a kind.
use Rattle.std.proofs.Common.{◌≡◌, ◌≢◌, ◌⊎◌, inl, inr, ℕ, zero, suc, ◌+◌, List, [], ◌∷◌, ◌++◌, length, codes, Option, None, Some, refl, sym, ap, subst, ◌∙◌, arith}
use Rattle.std.proofs.lemmas.Bool.{cases_eq}
use Rattle.std.proofs.lemmas.List.{append_assoc, append_cancel_left}
use Rattle.fk_json.specs.Json.{AreItems, AreJoined, IsElement, IsMember, IsSpace, IsValue}
use Rattle.fk_json.specs.Tokens.{token_first}
use Rattle.fk_json.specs.declared.token.Token.{Token}
use Rattle.fk_json.proofs.Parts.{head_of, tail_of}
use Rattle.fk_json.proofs.Values.{value_array, value_begins, value_empty, value_flat, value_none, value_object}
use Rattle.fk_json.proofs.TokensSame.{IsBehind, conses, spaces_same, token_same}
use Rattle.fk_json.proofs.ItemsSettled.{IsKind, NoClose, Settled, elements_kind, members_kind, threes}
use Rattle.fk_json.proofs.ElementsApart.{three_before}

-- ---- items with commas between them, up to the closing byte

comma_front : (x piece rest a : List ℕ) → x ≡ piece ++ codes "," ++ rest → x ++ a ≡ piece ++ (44 ∷ (rest ++ a))
comma_front x piece rest a parts = ap (λ z. z ++ a) parts ∙ three_before piece (44 ∷ []) rest a

-- one item isn't more
one_or_more : {I : Type 0} (IsItem : ℕ → List ℕ → I → Type 0) (close : ℕ) → IsKind IsItem close
    → (at : ℕ) (x y a b piece rest : List ℕ) (one other : I) → IsItem at x one → IsItem at piece other
    → y ≡ piece ++ codes "," ++ rest → ¬ (x ++ close ∷ a ≡ y ++ close ∷ b)
one_or_more IsItem close kind at x y a b piece rest one other h k parts e =
    let whole = e ∙ comma_front y piece rest (close ∷ b) parts in
    let (same, _) = kind.settled at x piece (close ∷ a) (44 ∷ (rest ++ close ∷ b)) one other h k whole
    (kind.closing.tight, kind.closing.behind) (refl, refl) in
    kind.closing.other (head_of (append_cancel_left piece (close ∷ a) (44 ∷ (rest ++ close ∷ b))
    (ap (λ z. z ++ close ∷ a) (sym same) ∙ whole)))

cons_items : {I : Type 0} (one other : I) (ones others : List I) → one ≡ other → ones ≡ others
    → one ∷ ones ≡ other ∷ others
cons_items one other ones others e f = rw (e, f) refl

joined_same : {I : Type 0} (IsItem : ℕ → List ℕ → I → Type 0) (close : ℕ) → IsKind IsItem close
    → (at : ℕ) (x y a b : List ℕ) (ones others : List I) → AreJoined IsItem at x ones → AreJoined IsItem at y others
    → x ++ close ∷ a ≡ y ++ close ∷ b → (x ≡ y) × (ones ≡ others)
joined_same IsItem close kind at x y a b [] others h k e = absurd h
joined_same IsItem close kind at x y a b (one ∷ []) [] h k e = absurd k
joined_same IsItem close kind at x y a b (one ∷ next ∷ ones) [] h k e = absurd k
joined_same IsItem close kind at x y a b (one ∷ []) (other ∷ []) h k e =
    let (same, items) = kind.settled at x y (close ∷ a) (close ∷ b) one other h k e
    (kind.closing.tight, kind.closing.behind) (kind.closing.tight, kind.closing.behind) in
    (same, cons_items one other [] [] items refl)
joined_same IsItem close kind at x y a b (one ∷ []) (other ∷ last ∷ others) h (piece, rest, is, are, parts) e =
    absurd (one_or_more IsItem close kind at x y a b piece rest one other h is parts e)
joined_same IsItem close kind at x y a b (one ∷ next ∷ ones) (other ∷ []) (piece, rest, is, are, parts) k e =
    absurd (one_or_more IsItem close kind at y x b a piece rest other one k is parts (sym e))
joined_same IsItem close kind at x y a b (one ∷ next ∷ ones) (other ∷ last ∷ others)
    (piece, rest, is, are, parts) (bit, more, was, were, pieces) e =
    let whole = sym (comma_front x piece rest (close ∷ a) parts) ∙ e ∙ comma_front y bit more (close ∷ b) pieces in
    let (same, items) = kind.settled at piece bit (44 ∷ (rest ++ close ∷ a)) (44 ∷ (more ++ close ∷ b)) one other
    is was whole (refl, refl) (refl, refl) in
    let behind = tail_of (append_cancel_left bit (44 ∷ (rest ++ close ∷ a)) (44 ∷ (more ++ close ∷ b))
    (ap (λ z. z ++ 44 ∷ (rest ++ close ∷ a)) (sym same) ∙ whole)) in
    let place : at + length bit + 1 ≡ at + length piece + 1 = omega (arith, ap length same) in
    let (rests, lasts) = joined_same IsItem close kind (at + length piece + 1) rest more a b (next ∷ ones)
    (last ∷ others) are (subst (λ n. AreJoined IsItem n more (last ∷ others)) place were) behind in
    (parts ∙ threes same refl rests ∙ sym pieces, cons_items one other (next ∷ ones) (last ∷ others) items lasts)

joined_opens : {I : Type 0} (IsItem : ℕ → List ℕ → I → Type 0) (close : ℕ) → NoClose IsItem close
    → (at : ℕ) (spaces rest x a : List ℕ) (items : List I) → AreJoined IsItem at x items → IsSpace spaces
    → ¬ (spaces ++ close ∷ rest ≡ x ++ a)
joined_opens IsItem close none at spaces rest x a [] h space e = h
joined_opens IsItem close none at spaces rest x a (item ∷ []) h space e =
    none at spaces rest x a item h space e
joined_opens IsItem close none at spaces rest x a (item ∷ next ∷ items) (piece, more, is, are, parts) space e =
    none at spaces rest piece (44 ∷ (more ++ a)) item is space (e ∙ comma_front x piece more a parts)

-- what stands between brackets
pub items_same : {I : Type 0} (IsItem : ℕ → List ℕ → I → Type 0) (close : ℕ) → IsKind IsItem close
    → (at : ℕ) (x y a b : List ℕ) (ones others : List I) → AreItems IsItem at x ones → AreItems IsItem at y others
    → x ++ close ∷ a ≡ y ++ close ∷ b → (x ≡ y) × (ones ≡ others)
items_same IsItem close kind at x y a b ones others (inl h) (inl k) e =
    ((spaces_same x y (close ∷ a) (close ∷ b) h.1 k.1 e kind.closing.tight kind.closing.tight).0, h.0 ∙ sym k.0)
items_same IsItem close kind at x y a b ones others (inl h) (inr k) e =
    absurd (joined_opens IsItem close kind.none at x a y (close ∷ b) others k h.1 e)
items_same IsItem close kind at x y a b ones others (inr h) (inl k) e =
    absurd (joined_opens IsItem close kind.none at y b x (close ∷ a) ones h k.1 (sym e))
items_same IsItem close kind at x y a b ones others (inr h) (inr k) e =
    joined_same IsItem close kind at x y a b ones others h k e

-- ---- values

brackets_front : (x inner a : List ℕ) (open_byte close : ℕ) → x ≡ (open_byte ∷ []) ++ inner ++ (close ∷ [])
    → x ++ a ≡ open_byte ∷ (inner ++ close ∷ a)
brackets_front x inner a open_byte close parts =
    ap (λ z. z ++ a) parts ∙ ap (λ z. open_byte ∷ z) (append_assoc inner (close ∷ []) a)

brackets_same : {I : Type 0} (IsItem : ℕ → List ℕ → I → Type 0) (close : ℕ) → IsKind IsItem close
    → (open_byte : ℕ) (x y a b inner other : List ℕ) (ones others : List I)
    → AreItems IsItem 1 inner ones → AreItems IsItem 1 other others
    → x ≡ (open_byte ∷ []) ++ inner ++ (close ∷ []) → y ≡ (open_byte ∷ []) ++ other ++ (close ∷ [])
    → x ++ a ≡ y ++ b → x ≡ y
brackets_same IsItem close kind open_byte x y a b inner other ones others h k parts pieces e =
    let whole = tail_of (sym (brackets_front x inner a open_byte close parts) ∙ e
    ∙ brackets_front y other b open_byte close pieces) in
    let (same, _) = items_same IsItem close kind 1 inner other a b ones others h k whole in
    parts ∙ ap (λ z. (open_byte ∷ []) ++ z ++ (close ∷ [])) same ∙ sym pieces

-- what begins with this byte
abbrev BegunSame : ℕ → ℕ → Type 0
BegunSame levels c =
    (x y a b : List ℕ) → IsValue levels (c ∷ x) → IsValue levels (c ∷ y) → c ∷ x ++ a ≡ c ∷ y ++ b
    → IsBehind a → IsBehind b → c ∷ x ≡ c ∷ y

scalars_same : (levels c : ℕ) → c ≢ 91 → c ≢ 123 → (first : Option Token) → token_first c ≡ first
    → BegunSame levels c
scalars_same levels c square brace None first x y a b h k e f g =
    absurd (value_none levels c x square brace first h)
scalars_same levels c square brace (Some token) first x y a b h k e f g =
    conses refl (token_same token x y a b ((value_begins levels c token x square brace first).0 h)
    ((value_begins levels c token y square brace first).0 k) (tail_of e) f g)

begun_same : (levels c : ℕ) → BegunSame levels 91 → BegunSame levels 123 → (c ≡ 91) ⊎ (c ≢ 91)
    → (c ≡ 123) ⊎ (c ≢ 123) → BegunSame levels c
begun_same levels c array object (inl e) other = subst (BegunSame levels) (sym e) array
begun_same levels c array object (inr square) (inl e) = subst (BegunSame levels) (sym e) object
begun_same levels c array object (inr square) (inr brace) =
    scalars_same levels c square brace (token_first c) refl

value_by : (levels : ℕ) → BegunSame levels 91 → BegunSame levels 123 → Settled (IsValue levels)
value_by levels array object [] y a b h k e f g = absurd (value_empty levels h)
value_by levels array object (c ∷ x) [] a b h k e f g = absurd (value_empty levels k)
value_by levels array object (c ∷ x) (d ∷ y) a b h k e f g =
    let head = head_of e in
    begun_same levels c array object (cases_eq c 91) (cases_eq c 123) x y a b h
    (subst (λ z. IsValue levels (z ∷ y)) (sym head) k) (conses refl (tail_of e)) f g ∙ conses head refl

array_begun : (levels : ℕ) → Settled (IsValue levels) → BegunSame (suc levels) 91
array_begun levels settled x y a b h k e f g =
    let (ones, (inner, items, parts)) = (value_array levels x).0 h in
    let (others, (other, same, pieces)) = (value_array levels y).0 k in
    brackets_same (IsElement (IsValue levels)) 93 (elements_kind levels settled) 91 (91 ∷ x) (91 ∷ y) a b inner other
    ones others items same parts pieces e

object_begun : (levels : ℕ) → Settled (IsValue levels) → BegunSame (suc levels) 123
object_begun levels settled x y a b h k e f g =
    let (ones, (inner, items, parts)) = (value_object levels x).0 h in
    let (others, (other, same, pieces)) = (value_object levels y).0 k in
    brackets_same (IsMember (IsValue levels)) 125 (members_kind levels settled) 123 (123 ∷ x) (123 ∷ y) a b inner other
    ones others items same parts pieces e

-- no text begins with two values, where what stands behind them may stand there
pub value_settled : (levels : ℕ) → Settled (IsValue levels)
value_settled zero =
    value_by zero (λ x y a b h k e f g. absurd ((value_flat x).0 h)) (λ x y a b h k e f g. absurd ((value_flat x).1 h))
value_settled (suc levels) =
    value_by (suc levels) (array_begun levels (value_settled levels)) (object_begun levels (value_settled levels))

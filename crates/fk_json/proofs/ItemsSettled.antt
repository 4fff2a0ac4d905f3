-- No text begins with two elements, or with two members, where none begins with two values.
use Rattle.std.proofs.Common.{◌≡◌, ℕ, ◌+◌, Bool, true, false, List, [], ◌∷◌, ◌++◌, length, codes, refl, sym, ap, subst, ◌∙◌, arith}
use Rattle.std.proofs.lemmas.List.{append_assoc, append_cancel_left}
use Rattle.fk_json.specs.Json.{IsElement, IsMember, IsSpace, IsValue, is_space, value_span}
use Rattle.fk_json.specs.declared.member.Member.{Member}
use Rattle.fk_json.specs.declared.span.Span.{Span}
use Rattle.fk_json.proofs.Fronts.{Closing}
use Rattle.fk_json.proofs.Parts.{head_of, tail_of}
use Rattle.fk_json.proofs.Values.{value_empty, value_none, value_space}
use Rattle.fk_json.proofs.TokensSame.{IsBehind, IsTail, IsTight, spaces_behind, spaces_same, string_front, string_same, string_tight, tail_tight}
use Rattle.fk_json.proofs.ElementsApart.{three_before}

-- ---- what is known of values

-- a text begins with one such value
abbrev pub Settled : (List ℕ → Type 0) → Type 0
Settled V = (x y a b : List ℕ) → V x → V y → x ++ a ≡ y ++ b → IsBehind a → IsBehind b → x ≡ y

tight_by : (levels c : ℕ) (text : List ℕ) (space : Bool) → is_space c ≡ space → IsValue levels (c ∷ text)
    → space ≡ false
tight_by levels c text true e v = absurd (value_space levels c text e v)
tight_by levels c text false e v = refl

value_tight : (levels : ℕ) (x a : List ℕ) → IsValue levels x → IsTight (x ++ a)
value_tight levels [] a v = absurd (value_empty levels v)
value_tight levels (c ∷ x) a v = tight_by levels c x (is_space c) refl v

value_no_close : (levels : ℕ) (x a rest : List ℕ) → IsValue levels x → ¬ (93 ∷ rest ≡ x ++ a)
value_no_close levels [] a rest v e = value_empty levels v
value_no_close levels (c ∷ x) a rest v e =
    value_none levels 93 x (λ f. absurd (omega (arith, f))) (λ f. absurd (omega (arith, f))) refl
    (subst (λ z. IsValue levels (z ∷ x)) (sym (head_of e)) v)

-- ---- items

-- a text begins with one such item, at a place
abbrev pub ItemSettled : {I : Type 0} → (ℕ → List ℕ → I → Type 0) → Type 0
ItemSettled {I} IsItem =
    (at : ℕ) (x y a b : List ℕ) (one other : I) → IsItem at x one → IsItem at y other → x ++ a ≡ y ++ b
    → IsTail a → IsTail b → (x ≡ y) × (one ≡ other)

-- no such item begins with white space and the closing byte
abbrev pub NoClose : {I : Type 0} → (ℕ → List ℕ → I → Type 0) → ℕ → Type 0
NoClose {I} IsItem close =
    (at : ℕ) (spaces rest x a : List ℕ) (item : I) → IsItem at x item → IsSpace spaces
    → ¬ (spaces ++ close ∷ rest ≡ x ++ a)

pub record IsKind {I : Type 0} (IsItem : ℕ → List ℕ → I → Type 0) (close : ℕ) : Type 0 where
  pub closing : Closing close
  pub settled : ItemSettled IsItem
  pub none : NoClose IsItem close

-- ---- elements

pub threes : {a b c d e f : List ℕ} → a ≡ b → c ≡ d → e ≡ f → a ++ c ++ e ≡ b ++ d ++ f
threes h k l = rw (h, k, l) refl

abbrev span : ℕ → ℕ → Span
span from to = record { from = from; to = to }

spans : {a b c d : ℕ} → a ≡ b → c ≡ d → span a c ≡ span b d
spans e f = rw (e, f) refl

abbrev element_front : (levels at : ℕ) (x a : List ℕ) (one : Span) → (h : IsElement (IsValue levels) at x one)
    → x ++ a ≡ h.before ++ (h.value ++ (h.after ++ a))
element_front levels at x a one h = ap (λ z. z ++ a) h.whole ∙ three_before h.before h.value h.after a

element_settled : (levels : ℕ) → Settled (IsValue levels) → ItemSettled (IsElement (IsValue levels))
element_settled levels settled at x y a b one other h k e f g =
    let (fronts, e1) = spaces_same h.before k.before (h.value ++ (h.after ++ a)) (k.value ++ (k.after ++ b))
    h.spaces.0 k.spaces.0 (sym (element_front levels at x a one h) ∙ e ∙ element_front levels at y b other k)
    (value_tight levels h.value (h.after ++ a) h.valued) (value_tight levels k.value (k.after ++ b) k.valued) in
    let values = settled h.value k.value (h.after ++ a) (k.after ++ b) h.valued k.valued e1
    (spaces_behind h.after a h.spaces.1 f) (spaces_behind k.after b k.spaces.1 g) in
    let e2 = append_cancel_left k.value (h.after ++ a) (k.after ++ b)
    (ap (λ z. z ++ (h.after ++ a)) (sym values) ∙ e1) in
    let (afters, e3) = spaces_same h.after k.after a b h.spaces.1 k.spaces.1 e2 (tail_tight a f) (tail_tight b g) in
    let froms : one.from ≡ other.from = omega (arith, h.from, k.from, ap length fronts) in
    let tos : one.to ≡ other.to = omega (arith, h.to, k.to, froms, ap length values) in
    (h.whole ∙ threes fronts values afters ∙ sym k.whole, spans froms tos)

element_no_close : (levels : ℕ) → NoClose (IsElement (IsValue levels)) 93
element_no_close levels at spaces rest x a one h space e =
    let (fronts, e1) = spaces_same spaces h.before (93 ∷ rest) (h.value ++ (h.after ++ a)) space h.spaces.0
    (e ∙ element_front levels at x a one h) refl (value_tight levels h.value (h.after ++ a) h.valued) in
    value_no_close levels h.value (h.after ++ a) rest h.valued e1

pub elements_kind : (levels : ℕ) → Settled (IsValue levels) → IsKind (IsElement (IsValue levels)) 93
elements_kind levels settled = record {
  closing = record { other = λ e. absurd (omega (arith, e)); tight = refl; behind = refl };
  settled = element_settled levels settled;
  none = element_no_close levels;
}

-- ---- members

abbrev member : List ℕ → ℕ → ℕ → ℕ → ℕ → Member
member name name_from name_to from to =
    record { name = name; name_from = name_from; name_to = name_to; from = from; to = to }

members : {n m : List ℕ} {a b c d p q r s : ℕ} → n ≡ m → a ≡ b → c ≡ d → p ≡ q → r ≡ s
    → member n a c p r ≡ member m b d q s
members e f g h k = rw (e, f, g, h, k) refl

five_before : (before name after rest a : List ℕ)
    → (before ++ name ++ after ++ codes ":" ++ rest) ++ a ≡ before ++ (name ++ (after ++ (58 ∷ (rest ++ a))))
five_before before name after rest a = simp append_assoc refl

fives : {a b c d e f g h : List ℕ} → a ≡ b → c ≡ d → e ≡ f → g ≡ h
    → a ++ c ++ e ++ codes ":" ++ g ≡ b ++ d ++ f ++ codes ":" ++ h
fives h k l m = rw (h, k, l, m) refl

member_front : (levels at : ℕ) (x a : List ℕ) (one : Member) → (h : IsMember (IsValue levels) at x one)
    → x ++ a ≡ h.before ++ (h.name ++ (h.after ++ (58 ∷ (h.rest ++ a))))
member_front levels at x a one h = ap (λ z. z ++ a) h.whole ∙ five_before h.before h.name h.after h.rest a

member_settled : (levels : ℕ) → Settled (IsValue levels) → ItemSettled (IsMember (IsValue levels))
member_settled levels settled at x y a b one other h k e f g =
    let (fronts, e1) = spaces_same h.before k.before (h.name ++ (h.after ++ (58 ∷ (h.rest ++ a))))
    (k.name ++ (k.after ++ (58 ∷ (k.rest ++ b)))) h.spaces.0 k.spaces.0
    (sym (member_front levels at x a one h) ∙ e ∙ member_front levels at y b other k)
    (string_tight h.name one.name _ h.spelled) (string_tight k.name other.name _ k.spelled) in
    let (names, called, e2) = string_same h.name k.name one.name other.name (h.after ++ (58 ∷ (h.rest ++ a)))
    (k.after ++ (58 ∷ (k.rest ++ b))) h.spelled k.spelled e1 in
    let (afters, e3) = spaces_same h.after k.after (58 ∷ (h.rest ++ a)) (58 ∷ (k.rest ++ b)) h.spaces.1 k.spaces.1
    e2 refl refl in
    let name_from : one.name_from ≡ other.name_from = omega (arith, h.from, k.from, ap length fronts) in
    let name_to : one.name_to ≡ other.name_to = omega (arith, h.to, k.to, name_from, ap length names) in
    let place : other.name_to + length k.after + 1 ≡ one.name_to + length h.after + 1 =
    omega (arith, name_to, ap length afters) in
    let (rests, value) = element_settled levels settled (one.name_to + length h.after + 1) h.rest k.rest a b
    (value_span one) (value_span other) h.valued
    (subst (λ n. IsElement (IsValue levels) n k.rest (value_span other)) place k.valued) (tail_of e3) f g in (
      h.whole ∙ fives fronts names afters rests ∙ sym k.whole,
      members called name_from name_to (ap (λ s. s.from) value) (ap (λ s. s.to) value),
    )

member_no_close : (levels : ℕ) → NoClose (IsMember (IsValue levels)) 125
member_no_close levels at spaces rest x a one h space e =
    let behind = h.after ++ (58 ∷ (h.rest ++ a)) in
    let (fronts, e1) = spaces_same spaces h.before (125 ∷ rest) (h.name ++ behind) space h.spaces.0
    (e ∙ member_front levels at x a one h) refl (string_tight h.name one.name behind h.spelled) in
    absurd (omega (arith, head_of (e1 ∙ string_front h.name one.name behind h.spelled)))

pub members_kind : (levels : ℕ) → Settled (IsValue levels) → IsKind (IsMember (IsValue levels)) 125
members_kind levels settled = record {
  closing = record { other = λ e. absurd (omega (arith, e)); tight = refl; behind = refl };
  settled = member_settled levels settled;
  none = member_no_close levels;
}

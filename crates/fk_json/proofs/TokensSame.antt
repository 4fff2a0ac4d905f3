-- No text begins with white space, a string, a number or a literal in two ways.
use Rattle.std.proofs.Common.{◌≡◌, ℕ, Bool, true, false, List, [], ◌∷◌, ◌++◌, flat_map, Option, None, Some, refl, sym, ap, subst, ◌∙◌}
use Rattle.std.specs.List.{AllByRecursion}
use Rattle.std.proofs.lemmas.Bool.{and_parts, false≢true}
use Rattle.std.proofs.lemmas.List.{append_assoc}
use Rattle.fk_json.specs.String.{IsPart, IsString, Part, meaning, part_text}
use Rattle.fk_json.specs.Json.{IsSpace, is_space}
use Rattle.fk_json.specs.Tokens.{token_ends, token_step}
use Rattle.fk_json.specs.TokenRests.{TokenLeft, follows}
use Rattle.fk_json.specs.declared.token.Token.{Token}
use Rattle.fk_json.proofs.Parts.{head_of, no_quote_part, one_part, tail_of}
use Rattle.fk_json.proofs.TokenLeft.{token_goes, token_over, token_stops, token_unended}

pub conses : {a b : ℕ} {xs ys : List ℕ} → a ≡ b → xs ≡ ys → a ∷ xs ≡ b ∷ ys
conses e f = rw (e, f) refl

-- ---- white space

-- no white space is in front
abbrev pub IsTight : List ℕ → Type 0
IsTight [] = Unit {0}
IsTight (c ∷ text) = is_space c ≡ false

pub spaces_same : (s t x y : List ℕ) → IsSpace s → IsSpace t → s ++ x ≡ t ++ y → IsTight x → IsTight y
    → (s ≡ t) × (x ≡ y)
spaces_same [] [] x y f g e k l = (refl, e)
spaces_same [] (c ∷ t) x y f g e k l = absurd (false≢true (sym (subst IsTight e k) ∙ (and_parts _ _ g).0))
spaces_same (c ∷ s) [] x y f g e k l = absurd (false≢true (sym (subst IsTight (sym e) l) ∙ (and_parts _ _ f).0))
spaces_same (c ∷ s) (d ∷ t) x y f g e k l =
    let (more, rest) = spaces_same s t x y (and_parts _ _ f).1 (and_parts _ _ g).1 (tail_of e) k l in
    (conses (head_of e) more, rest)

-- nothing is in front, or what may stand behind a value
abbrev pub IsBehind : List ℕ → Type 0
IsBehind [] = Unit {0}
IsBehind (c ∷ text) = follows c ≡ true

-- what may stand behind a value is in front, and no white space
abbrev pub IsTail : List ℕ → Type 0
IsTail [] = ⊥
IsTail (c ∷ text) = (is_space c ≡ false) × (follows c ≡ true)

pub tail_tight : (text : List ℕ) → IsTail text → IsTight text
tail_tight [] h = absurd h
tail_tight (c ∷ text) h = h.0

space_follows : (b : ℕ) → is_space b ≡ true → follows b ≡ true
space_follows b space = rw space refl

pub spaces_behind : (spaces text : List ℕ) → IsSpace spaces → IsTail text → IsBehind (spaces ++ text)
spaces_behind [] [] f h = absurd h
spaces_behind [] (c ∷ text) f h = h.1
spaces_behind (c ∷ spaces) text f h = space_follows c (and_parts _ _ f).0

-- ---- values without brackets

may_end : (token : Token) (ends : Bool) → token_ends token ≡ ends → TokenLeft token [] → ends ≡ true
may_end token true e h = refl
may_end token false e h = absurd (token_unended token e h)

ended_none : (token : Token) (c : ℕ) (text : List ℕ) → TokenLeft token [] → follows c ≡ true
    → ¬ TokenLeft token (c ∷ text)
ended_none token c text h f =
    token_stops token c text (token_over token c (may_end token (token_ends token) refl h) f)

token_led : (token : Token) (c : ℕ) (x y : List ℕ) (led : Option Token) → token_step token c ≡ led
    → TokenLeft token (c ∷ x) → TokenLeft token (c ∷ y)
    → ((next : Token) → TokenLeft next x → TokenLeft next y → x ≡ y) → x ≡ y
token_led token c x y None e h k onward = absurd (token_stops token c x e h)
token_led token c x y (Some next) e h k onward =
    onward next ((token_goes token next c x e).0 h) ((token_goes token next c y e).0 k)

pub token_same : (token : Token) (x y a b : List ℕ) → TokenLeft token x → TokenLeft token y → x ++ a ≡ y ++ b
    → IsBehind a → IsBehind b → x ≡ y
token_same token [] [] a b h k e f g = refl
token_same token [] (c ∷ y) a b h k e f g = absurd (ended_none token c y h (subst IsBehind e f) k)
token_same token (c ∷ x) [] a b h k e f g = absurd (ended_none token c x k (subst IsBehind (sym e) g) h)
token_same token (c ∷ x) (d ∷ y) a b h k e f g =
    conses (head_of e) (token_led token c x y (token_step token c) refl h
    (subst (λ z. TokenLeft token (z ∷ y)) (sym (head_of e)) k)
    (λ next p q. token_same next x y a b p q (tail_of e) f g))

-- ---- strings

parts_same : (ps qs : List Part) (a b : List ℕ) → AllByRecursion IsPart ps → AllByRecursion IsPart qs
    → flat_map part_text ps ++ 34 ∷ a ≡ flat_map part_text qs ++ 34 ∷ b → (ps ≡ qs) × (a ≡ b)
parts_same [] [] a b f g e = (refl, tail_of e)
parts_same [] (q ∷ qs) a b f g e =
    absurd (no_quote_part q (flat_map part_text qs ++ 34 ∷ b) a g.0
    (sym (append_assoc (part_text q) (flat_map part_text qs) (34 ∷ b)) ∙ sym e))
parts_same (p ∷ ps) [] a b f g e =
    absurd (no_quote_part p (flat_map part_text ps ++ 34 ∷ a) b f.0
    (sym (append_assoc (part_text p) (flat_map part_text ps) (34 ∷ a)) ∙ e))
parts_same (p ∷ ps) (q ∷ qs) a b f g e =
    let (one, rest) = one_part p q (flat_map part_text ps ++ 34 ∷ a) (flat_map part_text qs ++ 34 ∷ b) f.0 g.0
    (sym (append_assoc (part_text p) (flat_map part_text ps) (34 ∷ a)) ∙ e
    ∙ append_assoc (part_text q) (flat_map part_text qs) (34 ∷ b)) in
    let (more, last) = parts_same ps qs a b f.1 g.1 rest in
    (rw (one, more) refl, last)

pub string_front : (x v a : List ℕ) → (s : IsString x v) → x ++ a ≡ 34 ∷ (flat_map part_text s.parts ++ 34 ∷ a)
string_front x v a s =
    ap (λ z. z ++ a) s.whole ∙ ap (λ z. 34 ∷ z) (append_assoc (flat_map part_text s.parts) (34 ∷ []) a)

pub string_same : (x y v w a b : List ℕ) → IsString x v → IsString y w → x ++ a ≡ y ++ b
    → (x ≡ y) × (v ≡ w) × (a ≡ b)
string_same x y v w a b s t e =
    let (parts, rest) = parts_same s.parts t.parts a b s.each t.each
    (tail_of (sym (string_front x v a s) ∙ e ∙ string_front y w b t)) in (
      s.whole ∙ ap (λ ps. 34 ∷ flat_map part_text ps ++ 34 ∷ []) parts ∙ sym t.whole,
      s.means ∙ ap meaning parts ∙ sym t.means,
      rest,
    )

pub string_tight : (x v a : List ℕ) → IsString x v → IsTight (x ++ a)
string_tight x v a s = subst IsTight (sym (string_front x v a s)) refl

-- White space and single bytes at the front of what is left.
use Rattle.std.proofs.Common.{◌≡◌, ◌≢◌, ◌↔◌, ℕ, ◌+◌, true, false, List, [], ◌∷◌, ◌++◌, length, refl, sym, ap, subst, ◌∙◌, arith}
use Rattle.std.proofs.lemmas.Bool.{and_from, and_parts, false≢true}
use Rattle.fk_json.specs.Json.{IsSpace, is_space}
use Rattle.fk_json.specs.Left.{ByteThen, Spaced}
use Rattle.fk_json.proofs.Parts.{head_of, tail_of}

-- something at a place, at the same place
pub at_place : (IsRest : ℕ → List ℕ → Type 0) (one other : ℕ) (text : List ℕ) → one ≡ other
    → IsRest one text → IsRest other text
at_place IsRest one other text e h = subst (λ place. IsRest place text) e h

-- ---- white space

spaced_behind : (IsRest : ℕ → List ℕ → Type 0) (at b : ℕ) (text : List ℕ)
    → ((place : ℕ) → ¬ IsRest place (b ∷ text)) → (spaces rest : List ℕ) → IsSpace spaces
    → IsRest (at + length spaces) rest → b ∷ text ≡ spaces ++ rest → Spaced IsRest (at + 1) text
spaced_behind IsRest at b text none [] rest s r e =
    absurd (none (at + 0) (subst (λ x. IsRest (at + 0) x) (sym e) r))
spaced_behind IsRest at b text none (c ∷ spaces) rest s r e = (
  spaces,
  rest,
  (and_parts _ _ s).1,
  at_place IsRest (at + length (c ∷ spaces)) (at + 1 + length spaces) rest (omega arith) r,
  tail_of e,
)

pub spaced_on : (IsRest : ℕ → List ℕ → Type 0) (at b : ℕ) (text : List ℕ) → is_space b ≡ true
    → ((place : ℕ) → ¬ IsRest place (b ∷ text))
    → (Spaced IsRest at (b ∷ text)) ↔ (Spaced IsRest (at + 1) text)
spaced_on IsRest at b text is none = (
  λ h. spaced_behind IsRest at b text none h.0 h.1 h.2 h.3 h.4,
  λ h. (
    b ∷ h.0,
    h.1,
    and_from _ _ is h.2,
    at_place IsRest (at + 1 + length h.0) (at + length (b ∷ h.0)) h.1 (omega arith) h.3,
    ap (λ x. b ∷ x) h.4,
  ),
)

spaced_first : (IsRest : ℕ → List ℕ → Type 0) (at b : ℕ) (text : List ℕ) → is_space b ≡ false
    → (spaces rest : List ℕ) → IsSpace spaces → IsRest (at + length spaces) rest
    → b ∷ text ≡ spaces ++ rest → IsRest at (b ∷ text)
spaced_first IsRest at b text not_space [] rest s r e =
    subst (λ x. IsRest at x) (sym e) (at_place IsRest (at + 0) at rest (omega arith) r)
spaced_first IsRest at b text not_space (c ∷ spaces) rest s r e =
    absurd (false≢true (sym not_space ∙ ap is_space (head_of e) ∙ (and_parts _ _ s).0))

pub spaced_at : (IsRest : ℕ → List ℕ → Type 0) (at : ℕ) (text : List ℕ) → IsRest at text
    → Spaced IsRest at text
spaced_at IsRest at text r =
    ([], text, refl, at_place IsRest at (at + 0) text (omega arith) r, refl)

pub spaced_none : (IsRest : ℕ → List ℕ → Type 0) (at b : ℕ) (text : List ℕ) → is_space b ≡ false
    → (Spaced IsRest at (b ∷ text)) ↔ (IsRest at (b ∷ text))
spaced_none IsRest at b text not_space = (
  λ h. spaced_first IsRest at b text not_space h.0 h.1 h.2 h.3 h.4,
  λ h. spaced_at IsRest at (b ∷ text) h,
)

spaced_of_nil : (IsRest : ℕ → List ℕ → Type 0) (at : ℕ) → (spaces rest : List ℕ)
    → IsRest (at + length spaces) rest → [] ≡ spaces ++ rest → IsRest at []
spaced_of_nil IsRest at [] rest r e =
    subst (λ x. IsRest at x) (sym e) (at_place IsRest (at + 0) at rest (omega arith) r)
spaced_of_nil IsRest at (c ∷ spaces) rest r e =
    absurd (omega (arith, ap (λ x. length x) e))

pub spaced_nil : (IsRest : ℕ → List ℕ → Type 0) (at : ℕ)
    → (Spaced IsRest at []) ↔ (IsRest at [])
spaced_nil IsRest at = (
  λ h. spaced_of_nil IsRest at h.0 h.1 h.3 h.4,
  λ h. spaced_at IsRest at [] h,
)

-- ---- one byte

pub byte_on : (IsRest : ℕ → List ℕ → Type 0) (c at b : ℕ) (text : List ℕ) → b ≡ c
    → (ByteThen c IsRest at (b ∷ text)) ↔ (IsRest (at + 1) text)
byte_on IsRest c at b text is = (
  λ h. subst (λ x. IsRest (at + 1) x) (sym (tail_of h.2)) h.1,
  λ h. (text, h, ap (λ x. x ∷ text) is),
)

pub byte_else : (IsRest : ℕ → List ℕ → Type 0) (c at b : ℕ) (text : List ℕ) → b ≢ c
    → ¬ ByteThen c IsRest at (b ∷ text)
byte_else IsRest c at b text differs h = differs (head_of h.2)

pub byte_nil : (IsRest : ℕ → List ℕ → Type 0) (c at : ℕ) → ¬ ByteThen c IsRest at []
byte_nil IsRest c at h = omega (arith, ap (λ x. length x) h.2)

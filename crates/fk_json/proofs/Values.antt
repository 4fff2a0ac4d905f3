-- How a value begins.
use Rattle.std.proofs.Common.{◌≡◌, ◌≢◌, ◌⊎◌, ◌↔◌, inl, inr, ℕ, zero, suc, true, List, [], ◌∷◌, length, option_map, Option, None, Some, refl, sym, ap, subst, arith}
use Rattle.std.proofs.lemmas.Bool.{cases_eq, eqb-true, ne_eqb, or_cases}
use Rattle.fk_json.proofs.LettersLeft.{literal_empty, literal_false, literal_none, literal_null, literal_true}
use Rattle.fk_json.proofs.NumberLeft.{number_begins, number_empty, number_none}
use Rattle.fk_json.proofs.Parts.{head_of}
use Rattle.fk_json.proofs.StringLeft.{string_begins, string_empty, string_none}
use Rattle.fk_json.specs.Json.{IsArray, IsLiteral, IsObject, IsScalar, IsValue, is_space}
use Rattle.fk_json.specs.Number.{IsNumber}
use Rattle.fk_json.specs.Tokens.{number_first, token_first}
use Rattle.fk_json.specs.TokenRests.{StringLeft, TokenLeft, letters_text}
use Rattle.fk_json.specs.declared.member.Member.{Member}
use Rattle.fk_json.specs.declared.number_mode.NumberMode.{NumberMode}
use Rattle.fk_json.specs.declared.span.Span.{Span}
use Rattle.fk_json.specs.declared.string_mode.StringMode.TheVariants.{Inside}
use Rattle.fk_json.specs.declared.token.Letters.{Letters}
use Rattle.fk_json.specs.declared.token.Letters.TheVariants.{Ull, Rue, Alse}
use Rattle.fk_json.specs.declared.token.Token.TheVariants as token
use Rattle.fk_json.specs.declared.token.Token.{Token}

no_cons : {b : ℕ} {text : List ℕ} → ¬ ([] ≡ b ∷ text)
no_cons {text = text} e = absurd (omega (arith, ap length e))

-- ---- values without brackets, by their first byte

-- what begins no number and no string is a literal
only_literal : (b : ℕ) (text : List ℕ) → b ≢ 34 → number_first b ≡ None → IsScalar (b ∷ text)
    → IsLiteral (b ∷ text)
only_literal b text q none (inl literal) = literal
only_literal b text q none (inr (inl number)) = absurd (number_none b text none number)
only_literal b text q none (inr (inr (value, string))) = absurd (string_none b text value q string)

literal_begins : (b : ℕ) (text : List ℕ) (left : Letters) → b ≢ 34 → number_first b ≡ None
    → IsLiteral (b ∷ text) ↔ (text ≡ letters_text left) → IsScalar (b ∷ text) ↔ (text ≡ letters_text left)
literal_begins b text left q none begins = (
  λ scalar. begins.0 (only_literal b text q none scalar),
  λ e. inl (begins.1 e),
)

only_quoted : (text : List ℕ) → IsScalar (34 ∷ text) → StringLeft Inside text
only_quoted text (inl literal) =
    absurd (literal_none 34 text (omega arith) (omega arith) (omega arith) literal)
only_quoted text (inr (inl number)) = absurd (number_none 34 text refl number)
only_quoted text (inr (inr string)) = (string_begins text).0 string

quoted_begins : (text : List ℕ) → IsScalar (34 ∷ text) ↔ StringLeft Inside text
quoted_begins text = (only_quoted text, λ left. inr (inr ((string_begins text).1 left)))

-- no letter of a literal, and no quote
abbrev Other : ℕ → Type 0
Other b = (b ≢ 34) × (b ≢ 110) × (b ≢ 116) × (b ≢ 102)

other_number : (b : ℕ) (text : List ℕ) → Other b → IsScalar (b ∷ text) → IsNumber (b ∷ text)
other_number b text (q, n, t, f) (inl literal) = absurd (literal_none b text n t f literal)
other_number b text (q, n, t, f) (inr (inl number)) = number
other_number b text (q, n, t, f) (inr (inr (value, string))) =
    absurd (string_none b text value q string)

-- what a first byte says of a value without brackets
abbrev Begun : Option Token → ℕ → List ℕ → Type 0
Begun None b text = ¬ IsScalar (b ∷ text)
Begun (Some token) b text = IsScalar (b ∷ text) ↔ TokenLeft token text

by_number : (b : ℕ) (text : List ℕ) → Other b → (first : Option NumberMode) → number_first b ≡ first
    → Begun (option_map token.Number first) b text
by_number b text other None e =
    λ scalar. number_none b text e (other_number b text other scalar)
by_number b text other (Some next) e = (
  λ scalar. (number_begins next b text e).0 (other_number b text other scalar),
  λ left. inr (inl ((number_begins next b text e).1 left)),
)

other_first : (b : ℕ) → Other b → option_map token.Number (number_first b) ≡ token_first b
other_first b (q, n, t, f) = rw (ne_eqb b 34 q, ne_eqb b 110 n, ne_eqb b 116 t, ne_eqb b 102 f) refl

-- a value without brackets begins as its first byte says
begun_at : (b : ℕ) (text : List ℕ) → Begun (token_first b) b text
begun_at b text =
    elim (cases_eq b 34) [
      | inl e ↦ subst (λ x. Begun (token_first x) x text) (sym e) (quoted_begins text)
      | inr q ↦ elim (cases_eq b 110) [
        | inl e ↦ subst (λ x. Begun (token_first x) x text) (sym e)
            (literal_begins 110 text Ull (omega arith) refl (literal_null 110 text refl))
        | inr n ↦ elim (cases_eq b 116) [
          | inl e ↦ subst (λ x. Begun (token_first x) x text) (sym e)
              (literal_begins 116 text Rue (omega arith) refl (literal_true 116 text refl))
          | inr t ↦ elim (cases_eq b 102) [
            | inl e ↦ subst (λ x. Begun (token_first x) x text) (sym e)
                (literal_begins 102 text Alse (omega arith) refl (literal_false 102 text refl))
            | inr f ↦ subst (λ o. Begun o b text) (other_first b (q, n, t, f))
                (by_number b text (q, n, t, f) (number_first b) refl)
          ]
        ]
      ]
    ]

-- a byte that leads nowhere begins none
no_scalar : (b : ℕ) (text : List ℕ) → token_first b ≡ None → ¬ IsScalar (b ∷ text)
no_scalar b text none = subst (λ o. Begun o b text) none (begun_at b text)

-- ---- values

value_scalar : (levels b : ℕ) (text : List ℕ) → b ≢ 91 → b ≢ 123 → IsValue levels (b ∷ text)
    → IsScalar (b ∷ text)
value_scalar zero b text square brace scalar = scalar
value_scalar (suc levels) b text square brace (inl scalar) = scalar
value_scalar (suc levels) b text square brace (inr (inl (elements, (inner, items, whole)))) =
    absurd (square (head_of whole))
value_scalar (suc levels) b text square brace (inr (inr (members, (inner, items, whole)))) =
    absurd (brace (head_of whole))

scalar_value : (levels : ℕ) (text : List ℕ) → IsScalar text → IsValue levels text
scalar_value zero text scalar = scalar
scalar_value (suc levels) text scalar = inl scalar

-- a value that begins with no bracket goes on as its first byte says
pub value_begins : (levels b : ℕ) (token : Token) (text : List ℕ) → b ≢ 91 → b ≢ 123
    → token_first b ≡ Some token → IsValue levels (b ∷ text) ↔ TokenLeft token text
value_begins levels b token text square brace first =
    let begun : IsScalar (b ∷ text) ↔ TokenLeft token text
    = subst (λ o. Begun o b text) first (begun_at b text) in (
      λ value. begun.0 (value_scalar levels b text square brace value),
      λ left. scalar_value levels (b ∷ text) (begun.1 left),
    )

-- no value begins with any other byte
pub value_none : (levels b : ℕ) (text : List ℕ) → b ≢ 91 → b ≢ 123 → token_first b ≡ None
    → ¬ IsValue levels (b ∷ text)
value_none levels b text square brace none value =
    no_scalar b text none (value_scalar levels b text square brace value)

-- no brackets on level 0
pub value_flat : (text : List ℕ) → (¬ IsValue zero (91 ∷ text)) × (¬ IsValue zero (123 ∷ text))
value_flat text = (no_scalar 91 text refl, no_scalar 123 text refl)

array_only : (levels : ℕ) (text : List ℕ) → IsValue (suc levels) (91 ∷ text)
    → (elements : List Span) × IsArray (IsValue levels) 0 (91 ∷ text) elements
array_only levels text (inl scalar) = absurd (no_scalar 91 text refl scalar)
array_only levels text (inr (inl array)) = array
array_only levels text (inr (inr (members, (inner, items, whole)))) =
    absurd (omega (arith, head_of whole))

object_only : (levels : ℕ) (text : List ℕ) → IsValue (suc levels) (123 ∷ text)
    → (members : List Member) × IsObject (IsValue levels) 0 (123 ∷ text) members
object_only levels text (inl scalar) = absurd (no_scalar 123 text refl scalar)
object_only levels text (inr (inl (elements, (inner, items, whole)))) =
    absurd (omega (arith, head_of whole))
object_only levels text (inr (inr object)) = object

-- a value that begins with a bracket is an array
pub value_array : (levels : ℕ) (text : List ℕ) → IsValue (suc levels) (91 ∷ text)
    ↔ ((elements : List Span) × IsArray (IsValue levels) 0 (91 ∷ text) elements)
value_array levels text = (array_only levels text, λ array. inr (inl array))

-- and one that begins with a brace is an object
pub value_object : (levels : ℕ) (text : List ℕ) → IsValue (suc levels) (123 ∷ text)
    ↔ ((members : List Member) × IsObject (IsValue levels) 0 (123 ∷ text) members)
value_object levels text = (object_only levels text, λ object. inr (inr object))

empty_scalar : ¬ IsScalar []
empty_scalar (inl literal) = literal_empty literal
empty_scalar (inr (inl number)) = number_empty number
empty_scalar (inr (inr (value, string))) = string_empty value string

-- nothing is no value
pub value_empty : (levels : ℕ) → ¬ IsValue levels []
value_empty zero scalar = empty_scalar scalar
value_empty (suc levels) (inl scalar) = empty_scalar scalar
value_empty (suc levels) (inr (inl (elements, (inner, items, whole)))) = no_cons whole
value_empty (suc levels) (inr (inr (members, (inner, items, whole)))) = no_cons whole

space_cases : (b : ℕ) → is_space b ≡ true → (b ≡ 32) ⊎ ((b ≡ 9) ⊎ ((b ≡ 10) ⊎ (b ≡ 13)))
space_cases b e =
    elim (or_cases _ _ e) [
      | inl low ↦ elim (or_cases _ _ low) [
        | inl first ↦ elim (or_cases _ _ first) [
          | inl x ↦ inl (eqb-true b 32 x)
          | inr x ↦ inr (inl (eqb-true b 9 x))
        ]
        | inr x ↦ inr (inr (inl (eqb-true b 10 x)))
      ]
      | inr x ↦ inr (inr (inr (eqb-true b 13 x)))
    ]

-- white space begins no value without brackets, and is no bracket
pub space_first : (b : ℕ) → is_space b ≡ true → (token_first b ≡ None) × (b ≢ 91) × (b ≢ 123)
space_first b e =
    elim (space_cases b e) [
      | inl x ↦ rw x (refl, omega arith, omega arith)
      | inr (inl x) ↦ rw x (refl, omega arith, omega arith)
      | inr (inr (inl x)) ↦ rw x (refl, omega arith, omega arith)
      | inr (inr (inr x)) ↦ rw x (refl, omega arith, omega arith)
    ]

-- no value begins with white space
pub value_space : (levels b : ℕ) (text : List ℕ) → is_space b ≡ true → ¬ IsValue levels (b ∷ text)
value_space levels b text space =
    let (none, square, brace) = space_first b space in
    value_none levels b text square brace none

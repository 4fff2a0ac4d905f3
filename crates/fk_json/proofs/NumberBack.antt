-- A byte in front of what stands behind it makes a number.
use Rattle.std.proofs.Common.{◌≡◌, ◌≢◌, ◌==◌, ◌||◌, inl, inr, ℕ, Bool, true, false, List, [], ◌∷◌, codes, if◌then◌else◌, Contains, None, Some, refl, sym, ap, subst, arith}
use Rattle.std.specs.Char.{is_ascii_digit}
use Rattle.std.proofs.lemmas.Bool.{eqb-false, eqb-true, or_cases}
use Rattle.fk_json.specs.Number.{AreDigits, IsExponent, IsSign}
use Rattle.fk_json.specs.Tokens.{behind_whole, number_first, number_step, raised_by}
use Rattle.fk_json.specs.TokenRests.{NumberLeft}
use Rattle.fk_json.specs.declared.number_mode.NumberMode.{NumberMode}
use Rattle.fk_json.specs.declared.number_mode.NumberMode.TheVariants.{Minus, Zero, Whole, Point, Fraction, Letter, Sign, Exponent}
use Rattle.fk_json.proofs.DigitsLeft.{Behind, are_cons, digit_no_minus, digits_cons, no_digits}

letter_from : (b : ℕ) → (b == 101) || (b == 69) ≡ true → Contains (codes "eE") b
letter_from b is = elim (or_cases _ _ is) [
  | inl e ↦ (0, omega arith, sym (eqb-true b 101 e))
  | inr e ↦ (1, omega arith, sym (eqb-true b 69 e))
]

raised_back : (b : ℕ) (text : List ℕ) (test : Bool) → (b == 101) || (b == 69) ≡ test
    → Behind (if test then Some Letter else None) text → IsExponent (b ∷ text)
raised_back b text true is (sign, digits, signed, are, e) =
    inr (b, sign, digits, letter_from b is, signed, are, ap (λ x. b ∷ x) e)
raised_back b text false is h = absurd h

exponent_back : (b : ℕ) (text : List ℕ) → Behind (raised_by b) text → IsExponent (b ∷ text)
exponent_back b text h = raised_back b text _ refl h

point_back : (b : ℕ) (text : List ℕ) (test : Bool) → (b == 46) ≡ test
    → Behind (if test then Some Point else raised_by b) text → NumberLeft Zero (b ∷ text)
point_back b text true is (digits, exponent, are, raised, e) =
    (b ∷ digits, exponent, inr (digits, are, ap (λ x. x ∷ digits) (eqb-true b 46 is)), raised, ap (λ x. b ∷ x) e)
point_back b text false is h = ([], b ∷ text, inl refl, exponent_back b text h, refl)

zero_back : (b : ℕ) (text : List ℕ) → Behind (behind_whole b) text → NumberLeft Zero (b ∷ text)
zero_back b text h = point_back b text _ refl h

whole_back : (b : ℕ) (text : List ℕ) (test : Bool) → is_ascii_digit b ≡ test
    → Behind (if test then Some Whole else behind_whole b) text → NumberLeft Whole (b ∷ text)
whole_back b text true is (digits, fraction, exponent, each, fractional, raised, e) =
    (b ∷ digits, fraction, exponent, digits_cons b digits is each, fractional, raised, ap (λ x. b ∷ x) e)
whole_back b text false is h =
    let (fraction, exponent, fractional, raised, e) = zero_back b text h in
    ([], fraction, exponent, no_digits, fractional, raised, e)

fraction_back : (b : ℕ) (text : List ℕ) (test : Bool) → is_ascii_digit b ≡ test
    → Behind (if test then Some Fraction else raised_by b) text → NumberLeft Fraction (b ∷ text)
fraction_back b text true is (digits, exponent, each, raised, e) =
    (b ∷ digits, exponent, digits_cons b digits is each, raised, ap (λ x. b ∷ x) e)
fraction_back b text false is h = ([], b ∷ text, no_digits, exponent_back b text h, refl)

digits_back : (b : ℕ) (text : List ℕ) (test : Bool) → is_ascii_digit b ≡ test
    → Behind (if test then Some Fraction else None) text → NumberLeft Point (b ∷ text)
digits_back b text true is (digits, exponent, each, raised, e) =
    (b ∷ digits, exponent, are_cons b digits is each, raised, ap (λ x. b ∷ x) e)
digits_back b text false is h = absurd h

exponent_digit : (b : ℕ) (text : List ℕ) (test : Bool) → is_ascii_digit b ≡ test
    → Behind (if test then Some Exponent else None) text → AreDigits (b ∷ text)
exponent_digit b text true is each = are_cons b text is each
exponent_digit b text false is h = absurd h

sign_from : (b : ℕ) → (b == 43) || (b == 45) ≡ true → IsSign (b ∷ [])
sign_from b is = elim (or_cases _ _ is) [
  | inl e ↦ inr (inl (ap (λ x. x ∷ []) (eqb-true b 43 e)))
  | inr e ↦ inr (inr (ap (λ x. x ∷ []) (eqb-true b 45 e)))
]

letter_back : (b : ℕ) (text : List ℕ) (test : Bool) → (b == 43) || (b == 45) ≡ test
    → Behind (if test then Some Sign else if is_ascii_digit b then Some Exponent else None) text
    → NumberLeft Letter (b ∷ text)
letter_back b text true is are = (b ∷ [], text, sign_from b is, are, refl)
letter_back b text false is h = ([], b ∷ text, inl refl, exponent_digit b text _ refl h, refl)

-- behind a minus
whole_first : (b : ℕ) (text : List ℕ) (test : Bool) → is_ascii_digit b ≡ test → b ≢ 48
    → Behind (if test then Some Whole else None) text → NumberLeft Minus (b ∷ text)
whole_first b text true is ne (digits, fraction, exponent, each, fractional, raised, e) = (
  b ∷ digits,
  fraction,
  exponent,
  inr (are_cons b digits is each, ne),
  fractional,
  raised,
  ap (λ x. b ∷ x) e,
)
whole_first b text false is ne h = absurd h

pub zero_first : (b : ℕ) (text : List ℕ) (test : Bool) → (b == 48) ≡ test
    → Behind (if test then Some Zero else if is_ascii_digit b then Some Whole else None) text
    → NumberLeft Minus (b ∷ text)
zero_first b text true is (fraction, exponent, fractional, raised, e) = (
  b ∷ [],
  fraction,
  exponent,
  inl (ap (λ x. x ∷ []) (eqb-true b 48 is)),
  fractional,
  raised,
  ap (λ x. b ∷ x) e,
)
zero_first b text false is h = whole_first b text _ refl (eqb-false b 48 is) h

minus_back : (b : ℕ) (text : List ℕ) (test : Bool) → is_ascii_digit b ≡ test
    → Behind (if test then number_first b else None) text → NumberLeft Minus (b ∷ text)
minus_back b text true is h =
    zero_first b text _ refl (subst (λ t. Behind (if t then Some Minus else if b == 48 then Some Zero
    else if is_ascii_digit b then Some Whole else None) text) (digit_no_minus b is) h)
minus_back b text false is h = absurd h

pub number_back : (mode : NumberMode) (b : ℕ) (text : List ℕ) → Behind (number_step mode b) text
    → NumberLeft mode (b ∷ text)
number_back Minus b text h = minus_back b text _ refl h
number_back Zero b text h = zero_back b text h
number_back Whole b text h = whole_back b text _ refl h
number_back Point b text h = digits_back b text _ refl h
number_back Fraction b text h = fraction_back b text _ refl h
number_back Letter b text h = letter_back b text _ refl h
number_back Sign b text h = exponent_digit b text _ refl h
number_back Exponent b text h = (exponent_digit b text _ refl h).each

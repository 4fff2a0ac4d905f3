-- What stands in a number with a byte in front stands behind that byte.
use Rattle.std.proofs.Common.{◌≡◌, ◌≢◌, ◌⊎◌, inl, inr, ℕ, zero, suc, true, List, [], ◌∷◌, ◌++◌, codes, if◌then◌else◌, Contains, Option, None, Some, refl, sym, ap, subst, ◌∙◌, arith}
use Rattle.std.specs.Char.{is_ascii_digit}
use Rattle.std.specs.List.{AllPass}
use Rattle.fk_json.proofs.Parts.{head_of, tail_of}
use Rattle.fk_json.specs.Number.{AreDigits, IsExponent, IsFraction, IsSign, IsWhole}
use Rattle.fk_json.specs.Tokens.{behind_whole, number_step, raised_by}
use Rattle.fk_json.specs.TokenRests.{NumberLeft}
use Rattle.fk_json.specs.declared.number_mode.NumberMode.{NumberMode}
use Rattle.fk_json.specs.declared.number_mode.NumberMode.TheVariants.{Minus, Zero, Whole, Point, Fraction, Letter, Sign, Exponent}
use Rattle.fk_json.proofs.DigitsLeft.{Behind, digit_head, digits_tail, leads, minus_whole, no_cons, none_are, sign_step}

letter_cases : (b : ℕ) → Contains (codes "eE") b → (b ≡ 101) ⊎ (b ≡ 69)
letter_cases b (zero, l, e) = inl (sym e)
letter_cases b (suc zero, l, e) = inr (sym e)
letter_cases b (suc (suc k), l, e) = absurd (omega (arith, l))

raised_on : (step : ℕ → Option NumberMode) (b : ℕ) (text : List ℕ) → step 101 ≡ Some Letter
    → step 69 ≡ Some Letter → IsExponent (b ∷ text) → Behind (step b) text
raised_on step b text small large (inl none) = absurd (no_cons none)
raised_on step b text small large (inr (letter, sign, digits, is, signed, are, whole)) =
    let left : NumberLeft Letter text = (sign, digits, signed, are, tail_of whole) in
    elim (letter_cases letter is) [
      | inl e ↦ leads (step b) (Some Letter) text (ap step (head_of whole ∙ e) ∙ small) left
      | inr e ↦ leads (step b) (Some Letter) text (ap step (head_of whole ∙ e) ∙ large) left
    ]

zero_on : (step : ℕ → Option NumberMode) (b : ℕ) (text : List ℕ) → step 46 ≡ Some Point
    → step 101 ≡ Some Letter → step 69 ≡ Some Letter
    → (fraction exponent : List ℕ) → IsFraction fraction → IsExponent exponent → b ∷ text ≡ fraction ++ exponent
    → Behind (step b) text
zero_on step b text point small large fraction exponent (inl none) raised e =
    let same : b ∷ text ≡ exponent = e ∙ ap (λ x. x ++ exponent) none in
    raised_on step b text small large (subst IsExponent (sym same) raised)
zero_on step b text point small large fraction exponent (inr (digits, are, is)) raised e =
    let whole : b ∷ text ≡ 46 ∷ (digits ++ exponent) = e ∙ ap (λ x. x ++ exponent) is in
    leads (step b) (Some Point) text (ap step (head_of whole) ∙ point)
    (digits, exponent, are, raised, tail_of whole)

whole_on : (b : ℕ) (text digits fraction exponent : List ℕ) → AllPass is_ascii_digit digits → IsFraction fraction
    → IsExponent exponent → b ∷ text ≡ digits ++ fraction ++ exponent → Behind (number_step Whole b) text
whole_on b text [] fraction exponent each fractional raised e =
    zero_on (number_step Whole) b text refl refl refl fraction exponent fractional raised e
whole_on b text (d ∷ ds) fraction exponent each fractional raised e =
    let digit : is_ascii_digit b ≡ true = ap is_ascii_digit (head_of e) ∙ digit_head _ _ each in
    leads (number_step Whole b) (Some Whole) text (ap (λ t. if t then Some Whole else behind_whole b) digit)
    (ds, fraction, exponent, digits_tail _ _ each, fractional, raised, tail_of e)

fraction_on : (b : ℕ) (text digits exponent : List ℕ) → AllPass is_ascii_digit digits → IsExponent exponent
    → b ∷ text ≡ digits ++ exponent → Behind (number_step Fraction b) text
fraction_on b text [] exponent each raised e =
    raised_on (number_step Fraction) b text refl refl (subst IsExponent (sym e) raised)
fraction_on b text (d ∷ ds) exponent each raised e =
    let digit : is_ascii_digit b ≡ true = ap is_ascii_digit (head_of e) ∙ digit_head _ _ each in
    leads (number_step Fraction b) (Some Fraction) text (ap (λ t. if t then Some Fraction else raised_by b) digit)
    (ds, exponent, digits_tail _ _ each, raised, tail_of e)

point_on : (b : ℕ) (text digits exponent : List ℕ) → AreDigits digits → IsExponent exponent
    → b ∷ text ≡ digits ++ exponent → Behind (number_step Point b) text
point_on b text [] exponent are raised e = absurd (none_are are)
point_on b text (d ∷ ds) exponent are raised e =
    let digit : is_ascii_digit b ≡ true = ap is_ascii_digit (head_of e) ∙ digit_head _ _ are.each in
    leads (number_step Point b) (Some Fraction) text (ap (λ t. if t then Some Fraction else None) digit)
    (ds, exponent, digits_tail _ _ are.each, raised, tail_of e)

pub first_on : (step : ℕ → Option NumberMode) (b : ℕ) (text : List ℕ) → step 48 ≡ Some Zero
    → ((c : ℕ) → is_ascii_digit c ≡ true → c ≢ 48 → step c ≡ Some Whole)
    → (digits fraction exponent : List ℕ) → IsWhole digits → IsFraction fraction → IsExponent exponent
    → b ∷ text ≡ digits ++ fraction ++ exponent → Behind (step b) text
first_on step b text at_zero at_digit digits fraction exponent (inl is) fractional raised e =
    let whole : b ∷ text ≡ 48 ∷ (fraction ++ exponent) = e ∙ ap (λ x. x ++ fraction ++ exponent) is in
    leads (step b) (Some Zero) text (ap step (head_of whole) ∙ at_zero)
    (fraction, exponent, fractional, raised, tail_of whole)
first_on step b text at_zero at_digit [] fraction exponent (inr are) fractional raised e = absurd (none_are are.0)
first_on step b text at_zero at_digit (d ∷ ds) fraction exponent (inr are) fractional raised e =
    leads (step b) (Some Whole) text (ap step (head_of e) ∙ at_digit d (digit_head _ _ are.0.each) are.1)
    (ds, fraction, exponent, digits_tail _ _ are.0.each, fractional, raised, tail_of e)

letter_on : (b : ℕ) (text sign digits : List ℕ) → IsSign sign → AreDigits digits → b ∷ text ≡ sign ++ digits
    → Behind (number_step Letter b) text
letter_on b text sign digits (inl none) are e =
    let mine : AreDigits (b ∷ text) = subst AreDigits (sym (e ∙ ap (λ x. x ++ digits) none)) are in
    leads (number_step Letter b) (Some Exponent) text (sign_step b (digit_head _ _ mine.each))
    (digits_tail _ _ mine.each)
letter_on b text sign digits (inr (inl plus)) are e =
    let whole : b ∷ text ≡ 43 ∷ digits = e ∙ ap (λ x. x ++ digits) plus in
    leads (number_step Letter b) (Some Sign) text (ap (number_step Letter) (head_of whole))
    (subst AreDigits (sym (tail_of whole)) are)
letter_on b text sign digits (inr (inr minus)) are e =
    let whole : b ∷ text ≡ 45 ∷ digits = e ∙ ap (λ x. x ++ digits) minus in
    leads (number_step Letter b) (Some Sign) text (ap (number_step Letter) (head_of whole))
    (subst AreDigits (sym (tail_of whole)) are)

digit_on : (b : ℕ) (text : List ℕ) → AllPass is_ascii_digit (b ∷ text)
    → Behind (if is_ascii_digit b then Some Exponent else None) text
digit_on b text each =
    leads _ (Some Exponent) text (ap (λ t. if t then Some Exponent else None) (digit_head _ _ each))
    (digits_tail _ _ each)

pub number_on : (mode : NumberMode) (b : ℕ) (text : List ℕ) → NumberLeft mode (b ∷ text)
    → Behind (number_step mode b) text
number_on Minus b text (digits, fraction, exponent, is, fractional, raised, e) =
    first_on (number_step Minus) b text refl minus_whole digits fraction exponent is fractional raised e
number_on Zero b text (fraction, exponent, fractional, raised, e) =
    zero_on behind_whole b text refl refl refl fraction exponent fractional raised e
number_on Whole b text (digits, fraction, exponent, each, fractional, raised, e) =
    whole_on b text digits fraction exponent each fractional raised e
number_on Point b text (digits, exponent, are, raised, e) = point_on b text digits exponent are raised e
number_on Fraction b text (digits, exponent, each, raised, e) = fraction_on b text digits exponent each raised e
number_on Letter b text (sign, digits, signed, are, e) = letter_on b text sign digits signed are e
number_on Sign b text are = digit_on b text are.each
number_on Exponent b text each = digit_on b text each

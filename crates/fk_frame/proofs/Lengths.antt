-- A bulk's length, as its digits.
use Rattle.std.proofs.Common.{◌≡◌, ◌≢◌, ℕ, ◌<◌, ◌≤◌, ◌^◌, true, false, List, [], ◌∷◌, ◌++◌, length, get_or, Ok, Err, arith, inl, inr, refl, sym, ap, subst, ◌∙◌}
use Rattle.std.specs.Fmt.{decimal}
use Rattle.std.specs.Str.{IsUtf8}
use Rattle.std.specs.Str.Parse.{AllDigits, digits_value, ParsesUnsigned}
use Rattle.std.proofs.lemmas.Bool.{cases_lt}
use Rattle.std.proofs.lemmas.Bool.Decides.{nat_tests}
use Rattle.std.proofs.lemmas.Fmt.{decimal_is_IsNumeral, decimal_injective, decimal_digit, first_decimal, decimal-digits_value, length-decimal-le, IsAscii-decimal}
use Rattle.std.proofs.lemmas.List.{take_at, get_or_append_left, length-append}
use Rattle.std.proofs.lemmas.Str.{IsUtf8-from_ascii}
use Rattle.std.proofs.lemmas.Str.Parse.{IsNumeralModel, numerals_by_value, tells_digits, parse_plain, digits_value-take-le}
use Rattle.fk_frame.specs.Fronts.{IsLength, HasLength, is_padded}
use Rattle.fk_frame.proofs.Apart.{digit}

own : IsNumeralModel (AllDigits 10) (digits_value 10)
own = numerals_by_value _ tells_digits

-- what the test of padding says
no_plus : (digits : List ℕ) → is_padded digits ≡ false → get_or digits 0 0 ≢ 43
no_plus digits plain = grind (arith, nat_tests)

no_zero : (digits : List ℕ) → is_padded digits ≡ false → get_or digits 0 0 ≡ 48 → length digits ≡ 1
no_zero digits plain zero_first = grind (arith, nat_tests)

-- a numeral in decimal has no leading zero
unpadded_decimal : (n : ℕ) → n < 2 ^ 64 → get_or (decimal n) 0 0 ≡ 48 → length (decimal n) ≡ 1
unpadded_decimal n fits is =
    elim (cases_lt 0 n) [
      | inl more ↦ absurd (omega (arith, is, first_decimal n more fits))
      | inr none ↦
          let here : n ≡ 0 = omega arith in
          ap length (ap decimal here ∙ decimal_digit 0 (omega arith))
    ]

-- digits without leading zeros are a length, where their value fits
from_digits : (digits : List ℕ) → AllDigits 10 digits → 0 < length digits
    → (get_or digits 0 0 ≡ 48 → length digits ≡ 1) → digits_value 10 digits < 2 ^ 63
    → IsLength digits (digits_value 10 digits)
from_digits digits all some lead fits = record {
  fits = fits;
  same = sym (decimal-digits_value own digits all some lead (omega arith));
}

pub reads : (digits : List ℕ) (count : ℕ) → is_padded digits ≡ false
    → ParsesUnsigned {E = ℕ} 64 10 digits (Ok count) → digits ≡ decimal count
reads digits count plain parses =
    let found = parse_plain own {E = ℕ} 64 digits (Ok count) parses (no_plus digits plain) in
    sym (decimal-digits_value own digits found.0.0 found.0.1 (no_zero digits plain) found.0.2) ∙ ap decimal (sym found.1)

pub refuses : (digits : List ℕ) → is_padded digits ≡ false
    → ParsesUnsigned {E = ℕ} 64 10 digits (Err 0) → ¬ HasLength digits
refuses digits plain parses held =
    let none = parse_plain own {E = ℕ} 64 digits (Err 0) parses (no_plus digits plain) in
    let fits : held.0 < 2 ^ 64 = omega (arith, held.1.fits) in
    let numeral = rw (← held.1.same) at (decimal_is_IsNumeral held.0 fits) in
    none (numeral.0.1, numeral.0.0, omega (arith, numeral.1))

-- a number above the greatest is no length
pub exceeds : (digits : List ℕ) (count : ℕ) → digits ≡ decimal count → count < 2 ^ 64 → 2 ^ 63 ≤ count
    → ¬ HasLength digits
exceeds digits count is fits large held =
    let small : held.0 < 2 ^ 64 = omega (arith, held.1.fits) in
    let same = decimal_injective held.0 count small fits (sym held.1.same ∙ is) in
    omega (arith, held.1.fits, same)

pub too_long : (digits : List ℕ) → 19 < length digits → ¬ HasLength digits
too_long digits long held =
    let small : held.0 < 2 ^ 64 = omega (arith, held.1.fits) in
    let most = length-decimal-le 19 held.0 (omega arith) (omega (arith, held.1.fits)) small in
    omega (arith, most, ap length held.1.same)

pub padded : (digits : List ℕ) → is_padded digits ≡ true → ¬ HasLength digits
padded digits is held =
    let small : held.0 < 2 ^ 64 = omega (arith, held.1.fits) in
    let lead = rw (← held.1.same) at (unpadded_decimal held.0 small) in
    let some = rw (← held.1.same) at (decimal_is_IsNumeral held.0 small).0.0 in
    let first = rw (← held.1.same) at (digit held.0 0 0 small (decimal_is_IsNumeral held.0 small).0.0) in
    grind (arith, nat_tests)

pub not_text : (digits : List ℕ) → ¬ (IsUtf8 digits) → ¬ HasLength digits
not_text digits none held =
    let small : held.0 < 2 ^ 64 = omega (arith, held.1.fits) in
    none (rw held.1.same (IsUtf8-from_ascii _ (IsAscii-decimal held.0 small)))

-- the digits in front of others are digits
front_digits : (xs ys : List ℕ) → AllDigits 10 (xs ++ ys) → AllDigits 10 xs
front_digits [] ys all = tt
front_digits (x ∷ xs) ys all = (all.0, front_digits xs ys all.1)

-- what a length begins with is a length
pub front_length : (front more : List ℕ) (count : ℕ) → count < 2 ^ 63 → decimal count ≡ front ++ more
    → 0 < length front → HasLength front
front_length front more count fits is some =
    let small : count < 2 ^ 64 = omega arith in
    let numeral = rw is at (decimal_is_IsNumeral count small) in
    let all = front_digits front more numeral.0.1 in
    let lead : get_or front 0 0 ≡ 48 → length front ≡ 1 = λ first.
    (let whole = rw is at (unpadded_decimal count small) in
    let one = whole (get_or_append_left front more 0 0 some ∙ first) in
    omega (arith, length-append front more, one)) in
    let most : digits_value 10 front ≤ digits_value 10 (front ++ more) =
    subst (λ (l : List ℕ). digits_value 10 l ≤ digits_value 10 (front ++ more)) (take_at front more (length front) refl)
    (digits_value-take-le 10 (front ++ more) (length front) (omega arith)) in
    (digits_value 10 front, from_digits front all some lead (omega (arith, most, numeral.1)))

-- a length begins with a digit
pub no_minus : (digits rest : List ℕ) → digits ≡ 45 ∷ rest → ¬ HasLength digits
no_minus digits rest is held =
    let small : held.0 < 2 ^ 64 = omega (arith, held.1.fits) in
    let first = digit held.0 0 0 small (decimal_is_IsNumeral held.0 small).0.0 in
    let here : get_or (decimal held.0) 0 0 ≡ 45 = ap (λ l. get_or l 0 0) (sym held.1.same ∙ is) in
    omega (arith, first, here)

pub not_empty : ¬ HasLength []
not_empty held =
    let small : held.0 < 2 ^ 64 = omega (arith, held.1.fits) in
    omega (arith, (decimal_is_IsNumeral held.0 small).0.0, ap length held.1.same)

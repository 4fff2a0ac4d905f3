-- What is written for a name, a moment, a queue and a count: strings of UTF-8 and numbers.
use Rattle.std.proofs.Common.{◌≡◌, inl, inr, ℕ, zero, suc, Bool, nat_lt, ◌^◌, ◌<◌, ◌≤◌, List, [], ◌∷◌, ◌++◌, length, get_or, append-nil, codes, decimal, true, IsUtf8, refl, ap, ◌∙◌, arith}
use Rattle.std.proofs.lemmas.Bool.{and_parts, cases_lt, ltb-true}
use Rattle.std.proofs.lemmas.Bool.Decides.{nat_tests}
use Rattle.std.proofs.lemmas.Fmt.{decimal_digit, decimal_is_IsNumeral, decimal_nonempty, first_decimal}
use Rattle.std.proofs.lemmas.List.{get_or_default, get_or_past}
use Rattle.std.proofs.lemmas.Str.{IsUtf8-from_ascii, IsUtf8-nil}
use Rattle.std.proofs.lemmas.Str.Parse.{digit_at}
use Rattle.std.specs.Char.{is_ascii_digit}
use Rattle.std.specs.List.{AllByRecursion, AllPass, list_all}
use Rattle.fk_json.specs.Json.{IsScalar, IsValue}
use Rattle.fk_json.specs.Number.{AreDigits, IsNumber, IsWhole}
use Rattle.fk_json.specs.String.{IsString, spelling}
use Rattle.fk_json.proofs.Strings.{spelling_string}
use Rattle.fk_json.proofs.Utf8Strings.{cons_ascii}
use Rattle.fk_time.specs.Moments.{clock_text, date_text, digit, four_digits, moment_text, three_digits, two_digits, year_at, month_at, month_day_at}
use Rattle.fk_job.specs.Fields.{is_queue_byte}

-- ---- bytes below 128

abbrev AreLow : List ℕ → Type 0
AreLow text = AllByRecursion (λ byte. byte < 128) text

utf8_low : (text : List ℕ) → AreLow text → IsUtf8 text
utf8_low [] low = IsUtf8-nil
utf8_low (byte ∷ text) low = cons_ascii byte text low.0 (utf8_low text low.1)

low_append : (xs ys : List ℕ) → AreLow xs → AreLow ys → AreLow (xs ++ ys)
low_append [] ys f g = g
low_append (x ∷ xs) ys f g = (f.0, low_append xs ys f.1 g)

abbrev pub is_low : ℕ → Bool
is_low byte = nat_lt byte 128

pub plain_utf8 : (text : List ℕ) → list_all is_low text ≡ true → IsUtf8 text
plain_utf8 [] e = IsUtf8-nil
plain_utf8 (byte ∷ text) e =
    let (first, others) = and_parts (is_low byte) (list_all is_low text) e in
    cons_ascii byte text (ltb-true byte 128 first) (plain_utf8 text others)

-- ---- moments

low_digit : (n : ℕ) → digit n < 128
low_digit n = omega arith

two_low : (n : ℕ) → AreLow (two_digits n)
two_low n = (omega arith, (low_digit n, tt))

three_low : (n : ℕ) → AreLow (three_digits n)
three_low n = (omega arith, two_low n)

four_low : (n : ℕ) → AreLow (four_digits n)
four_low n = (omega arith, three_low n)

dash_low : AreLow (codes "-")
dash_low = (omega arith, tt)

colon_low : AreLow (codes ":")
colon_low = (omega arith, tt)

date_low : (year month day : ℕ) → AreLow (date_text year month day)
date_low year month day =
    low_append (four_digits year ++ codes "-" ++ two_digits month ++ codes "-") (two_digits day)
    (low_append (four_digits year ++ codes "-" ++ two_digits month) (codes "-")
    (low_append (four_digits year ++ codes "-") (two_digits month)
    (low_append (four_digits year) (codes "-") (four_low year) dash_low) (two_low month)) dash_low) (two_low day)

clock_low : (hour minute second : ℕ) → AreLow (clock_text hour minute second)
clock_low hour minute second =
    low_append (two_digits hour ++ codes ":" ++ two_digits minute ++ codes ":") (two_digits second)
    (low_append (two_digits hour ++ codes ":" ++ two_digits minute) (codes ":")
    (low_append (two_digits hour ++ codes ":") (two_digits minute)
    (low_append (two_digits hour) (codes ":") (two_low hour) colon_low) (two_low minute)) colon_low) (two_low second)

whole_low : (date clock rest : List ℕ) → AreLow date → AreLow clock → AreLow rest
    → AreLow (date ++ codes "T" ++ clock ++ codes "." ++ rest ++ codes "Z")
whole_low date clock rest d c r =
    low_append (date ++ codes "T" ++ clock ++ codes "." ++ rest) (codes "Z")
    (low_append (date ++ codes "T" ++ clock ++ codes ".") rest
    (low_append (date ++ codes "T" ++ clock) (codes ".")
    (low_append (date ++ codes "T") clock
    (low_append date (codes "T") d (omega arith, tt)) c) (omega arith, tt)) r) (omega arith, tt)

pub moment_utf8 : (moment : ℕ) → IsUtf8 (moment_text moment)
unfolding moment_text
moment_utf8 moment =
    utf8_low (moment_text moment)
    (whole_low (date_text (year_at moment) (month_at moment) (month_day_at moment)) (clock_text _ _ _) (three_digits _)
    (date_low (year_at moment) (month_at moment) (month_day_at moment)) (clock_low _ _ _) (three_low _))

-- ---- queues

low_queue_byte : (c : ℕ) → is_queue_byte c ≡ true → c < 128
low_queue_byte c e = grind (arith, nat_tests)

low_at : (queue : List ℕ) (i : ℕ) → AllPass is_queue_byte queue → get_or queue i 0 < 128
low_at queue i each =
    elim (cases_lt i (length queue)) [
      | inl inside ↦ low_queue_byte (get_or queue i 0) (each i 0 inside)
      | inr past ↦ rw (get_or_past queue i 0 past) (omega arith)
    ]

pub queue_utf8 : (queue : List ℕ) → AllPass is_queue_byte queue → IsUtf8 queue
queue_utf8 queue each = IsUtf8-from_ascii queue (λ i. low_at queue i each)

-- ---- counts

is_digit : (c : ℕ) → 48 ≤ c → c ≤ 57 → is_ascii_digit c ≡ true
is_digit c low high = grind (arith, nat_tests)

digits_at : (n : ℕ) → n < 2 ^ 64 → AllPass is_ascii_digit (decimal n)
digits_at n fits k d inside =
    let numeral = decimal_is_IsNumeral n fits in
    let here = digit_at (decimal n) k numeral.0.1 inside in
    rw (get_or_default (decimal n) k d 0 inside) (is_digit (get_or (decimal n) k 0) here.0 here.1)

decimal_digits : (n : ℕ) → n < 2 ^ 64 → AreDigits (decimal n)
decimal_digits n fits = record { some = decimal_nonempty n fits; each = digits_at n fits }

decimal_whole : (n : ℕ) → n < 2 ^ 64 → IsWhole (decimal n)
decimal_whole n fits =
    elim (cases_lt 0 n) [
      | inl more ↦ inr (decimal_digits n fits, λ e. omega (arith, e, first_decimal n more fits))
      | inr none ↦
          let e : n ≡ 0 = omega arith in
          inl (ap decimal e ∙ decimal_digit 0 (omega arith))
    ]

decimal_number : (n : ℕ) → n < 2 ^ 64 → IsNumber (decimal n)
decimal_number n fits = record {
  minus = [];
  digits = decimal n;
  fraction = [];
  exponent = [];
  signed = inl refl;
  whole_part = decimal_whole n fits;
  fractional = inl refl;
  raised = inl refl;
  whole = simp append-nil refl;
}

-- ---- values

pub scalar_value : (levels : ℕ) (text : List ℕ) → IsScalar text → IsValue levels text
scalar_value zero text is = is
scalar_value (suc levels) text is = inl is

pub number_value : (levels n : ℕ) → n < 2 ^ 64 → IsValue levels (decimal n)
number_value levels n fits = scalar_value levels (decimal n) (inr (inl (decimal_number n fits)))

pub spelled : (value : List ℕ) → IsUtf8 value → IsString (spelling value) value
spelled value utf8 = spelling_string (spelling value) value utf8 refl

pub string_value : (levels : ℕ) (value : List ℕ) → IsUtf8 value → IsValue levels (spelling value)
string_value levels value utf8 = scalar_value levels (spelling value) (inr (inr (value, spelled value utf8)))

-- The text of a moment is written as it is, between quotes.
use Rattle.std.proofs.Common.{◌≡◌, ℕ, ◌<◌, ◌≤◌, List, [], ◌∷◌, ◌++◌, codes, refl, ap, ap₂, arith}
use Rattle.std.proofs.lemmas.Bool.{le-ltb, ne_eqb}
use Rattle.std.specs.List.{AllByRecursion, flat_map}
use Rattle.fk_json.specs.String.{spelled_byte}
use Rattle.fk_time.specs.Moments.{clock_text, date_text, four_digits, moment_text, three_digits, two_digits, year_at, month_at, month_day_at}
use Rattle.fk_job.specs.RowText.{IsPlainName}

-- a byte from the dash to before the backslash
abbrev IsBetween : ℕ → Type 0
IsBetween byte = (45 ≤ byte) × (byte < 92)

itself : (byte : ℕ) → IsBetween byte → spelled_byte byte ≡ byte ∷ []
itself b is =
    rw (
      ne_eqb b 34 (λ e. omega (arith, is.0, e)),
      ne_eqb b 92 (λ e. omega (arith, is.1, e)),
      ne_eqb b 8 (λ e. omega (arith, is.0, e)),
      ne_eqb b 9 (λ e. omega (arith, is.0, e)),
      ne_eqb b 10 (λ e. omega (arith, is.0, e)),
      ne_eqb b 12 (λ e. omega (arith, is.0, e)),
      ne_eqb b 13 (λ e. omega (arith, is.0, e)),
      le-ltb b 32 (omega (arith, is.0)),
    ) refl

abbrev AreBetween : List ℕ → Type 0
AreBetween text = AllByRecursion IsBetween text

spelled_same : (text : List ℕ) → AreBetween text → flat_map spelled_byte text ≡ text
spelled_same [] each = refl
spelled_same (byte ∷ text) each =
    ap₂ (λ first others. first ++ others) (itself byte each.0) (spelled_same text each.1)

plain_name : (text : List ℕ) → AreBetween text → IsPlainName text
plain_name text each = ap (λ inside. 34 ∷ inside ++ 34 ∷ []) (spelled_same text each)

between_append : (xs ys : List ℕ) → AreBetween xs → AreBetween ys → AreBetween (xs ++ ys)
between_append [] ys f g = g
between_append (x ∷ xs) ys f g = (f.0, between_append xs ys f.1 g)

single : (byte : ℕ) → 45 ≤ byte → byte < 92 → AreBetween (byte ∷ [])
single byte least most = ((least, most), tt)

two_between : (n : ℕ) → AreBetween (two_digits n)
two_between n = ((omega arith, omega arith), ((omega arith, omega arith), tt))

three_between : (n : ℕ) → AreBetween (three_digits n)
three_between n = ((omega arith, omega arith), two_between n)

four_between : (n : ℕ) → AreBetween (four_digits n)
four_between n = ((omega arith, omega arith), three_between n)

joined_between : (xs ys : List ℕ) (byte : ℕ) → 45 ≤ byte → byte < 92 → AreBetween xs → AreBetween ys
    → AreBetween (xs ++ (byte ∷ []) ++ ys)
joined_between xs ys byte least most f g =
    between_append (xs ++ (byte ∷ [])) ys (between_append xs (byte ∷ []) f (single byte least most)) g

date_between : (year month day : ℕ) → AreBetween (date_text year month day)
date_between year month day =
    joined_between (four_digits year ++ codes "-" ++ two_digits month) (two_digits day) 45 (omega arith) (omega arith)
    (joined_between (four_digits year) (two_digits month) 45 (omega arith) (omega arith) (four_between year) (two_between month))
    (two_between day)

clock_between : (hour minute second : ℕ) → AreBetween (clock_text hour minute second)
clock_between hour minute second =
    joined_between (two_digits hour ++ codes ":" ++ two_digits minute) (two_digits second) 58 (omega arith) (omega arith)
    (joined_between (two_digits hour) (two_digits minute) 58 (omega arith) (omega arith) (two_between hour) (two_between minute))
    (two_between second)

whole_between : (date clock rest : List ℕ) → AreBetween date → AreBetween clock → AreBetween rest
    → AreBetween (date ++ codes "T" ++ clock ++ codes "." ++ rest ++ codes "Z")
whole_between date clock rest d c r =
    between_append (date ++ codes "T" ++ clock ++ codes "." ++ rest) (codes "Z")
    (joined_between (date ++ codes "T" ++ clock) rest 46 (omega arith) (omega arith)
    (joined_between date clock 84 (omega arith) (omega arith) d c) r)
    (single 90 (omega arith) (omega arith))

pub plain_moment : (moment : ℕ) → IsPlainName (moment_text moment)
unfolding moment_text
plain_moment moment =
    plain_name (moment_text moment)
    (whole_between (date_text (year_at moment) (month_at moment) (month_day_at moment)) (clock_text _ _ _) (three_digits _)
    (date_between (year_at moment) (month_at moment) (month_day_at moment)) (clock_between _ _ _) (three_between _))

-- The test for integers answers what the fact says, and an integer is a numeral to std.
use Rattle.std.proofs.Common.{Option, None, Some, ℤ, FitsSigned, ◌≡◌, ◌≢◌, ◌==◌, inl, inr, ℕ, zero, suc, ◌<◌, ◌≤◌, Bool, true, false, if◌then◌else◌, List, [], ◌∷◌, ◌++◌, length, drop, get_or, codes, refl, sym, ap, subst, ◌∙◌, arith}
use Rattle.std.specs.Bool.{Decides}
use Rattle.std.specs.Int.{w64}
use Rattle.std.specs.Option.{SomeIff}
use Rattle.std.specs.Char.{digit_value, is_ascii_digit}
use Rattle.std.specs.List.{AllPass}
use Rattle.std.specs.Str.{IsAscii, IsUtf8}
use Rattle.std.specs.Str.Parse.{AllDigits, IsNumeral, without_leading_sign}
use Rattle.std.proofs.lemmas.Bool.{and_from, and_parts, cases_eq, eq-eqb, false≢true, lt-ltb, ltb-true, ne_eqb}
use Rattle.std.proofs.lemmas.Bool.Decides.{Decides-and, Decides-eqb, Decides-not, Decides-or}
use Rattle.std.proofs.lemmas.List.Sums.{AllPass-from_list_all, list_all-from_AllPass}
use Rattle.std.proofs.lemmas.Slice.Eq.{bytes_eq-Decides}
use Rattle.std.proofs.lemmas.Str.{IsAscii-append, IsUtf8-from_ascii, digit_value_digit}
use Rattle.fk_json.specs.Number.{AreDigits, IsInteger, IsMinus, IsWhole, are_digits, behind_minus, integer_of, is_integer, is_whole}

digits_decide : (text : List ℕ) → Decides (are_digits text) (AreDigits text)
digits_decide text = (
  λ e. let h = and_parts _ _ e in record {
    some = ltb-true 0 (length text) h.0;
    each = AllPass-from_list_all is_ascii_digit text h.1;
  },
  λ h. and_from _ _ (lt-ltb 0 (length text) h.some) (list_all-from_AllPass is_ascii_digit text h.each),
)

pub whole_decides : (text : List ℕ) → Decides (is_whole text) (IsWhole text)
whole_decides text =
    Decides-or _ _ (bytes_eq-Decides text (codes "0"))
    (Decides-and _ _ (digits_decide text) (Decides-not _ (Decides-eqb (get_or text 0 0) 48)))

digits_of_whole : (text : List ℕ) → IsWhole text → AreDigits text
digits_of_whole text (inl zero_is) =
    rw zero_is (record { some = omega arith; each = AllPass-from_list_all is_ascii_digit (codes "0") refl })
digits_of_whole text (inr digits) = digits.0

is_digit_range : (c : ℕ) → is_ascii_digit c ≡ true → (48 ≤ c) × (c < 58)
is_digit_range c e = grind (arith, e)

head_digit : (text : List ℕ) → AreDigits text → (48 ≤ get_or text 0 0) × (get_or text 0 0 < 58)
head_digit text h = is_digit_range _ (h.each 0 0 h.some)

minus_split : (text : List ℕ) → get_or text 0 0 ≡ 45 → text ≡ codes "-" ++ drop 1 text
minus_split [] e = absurd (omega (arith, e))
minus_split (c ∷ cs) e = ap (λ x. x ∷ cs) e

pub integer_from_test : (text : List ℕ) → is_integer text ≡ true → IsInteger text
unfolding is_integer
integer_from_test text e =
    elim (cases_eq (get_or text 0 0) 45) [
      | inl minus ↦
          let rest : is_whole (drop 1 text) ≡ true = subst (λ b. is_whole (if b then drop 1 text else text) ≡ true) (eq-eqb _ _ minus) e in
          record { minus = codes "-"; digits = drop 1 text; signed = inr refl; whole_part = (whole_decides _).0 rest; whole = minus_split text minus }
      | inr none ↦
          let rest : is_whole text ≡ true = subst (λ b. is_whole (if b then drop 1 text else text) ≡ true) (ne_eqb _ _ none) e in
          record { minus = []; digits = text; signed = inl refl; whole_part = (whole_decides _).0 rest; whole = refl }
    ]

-- a whole part, with what stands behind a minus made out
test_from_whole : (text digits : List ℕ) → IsWhole digits → behind_minus text ≡ digits → is_integer text ≡ true
unfolding is_integer
test_from_whole text digits whole e = rw e ((whole_decides digits).1 whole)

behind_none : (text : List ℕ) → get_or text 0 0 ≢ 45 → behind_minus text ≡ text
behind_none text ne = rw (ne_eqb _ _ ne) refl

test_from_parts : (text minus digits : List ℕ) → IsMinus minus → IsWhole digits → text ≡ minus ++ digits → is_integer text ≡ true
test_from_parts text minus digits (inl none) whole e =
    let same : text ≡ digits = rw none at e in
    let h = head_digit digits (digits_of_whole digits whole) in
    test_from_whole text digits whole (rw same (behind_none digits (omega (arith, h.0, h.1))))
test_from_parts text minus digits (inr minus_is) whole e =
    let same : text ≡ 45 ∷ digits = rw minus_is at e in
    test_from_whole text digits whole (rw same refl)

pub test_from_integer : (text : List ℕ) → IsInteger text → is_integer text ≡ true
test_from_integer text h = test_from_parts text h.minus h.digits h.signed h.whole_part h.whole

pub integer_decides : (text : List ℕ) → Decides (is_integer text) (IsInteger text)
integer_decides text = (integer_from_test text, test_from_integer text)

-- ---- what std reads as a number

digit_below : (c : ℕ) → 48 ≤ c → c < 58 → digit_value c < 10
digit_below c l h = grind (arith, digit_value_digit c (l, (omega arith)))

all_digits : (text : List ℕ) → AllPass is_ascii_digit text → AllDigits 10 text
all_digits [] h = tt
all_digits (c ∷ cs) h =
    let r = is_digit_range c (h 0 0 (omega arith)) in
    (digit_below c r.0 r.1, all_digits cs (λ k d l. h (suc k) d (omega arith)))

unsigned : (d : ℕ) (ds : List ℕ) → AreDigits (d ∷ ds) → 48 ≤ d → IsNumeral 10 (without_leading_sign (d ∷ ds))
unsigned d ds are l =
    let minus : (d == 45) ≡ false = ne_eqb d 45 (omega arith) in
    let plus : (d == 43) ≡ false = ne_eqb d 43 (omega arith) in
    rw (minus, plus) (are.some, all_digits (d ∷ ds) are.each)

numeral_of_parts : (text minus digits : List ℕ) → IsMinus minus → AreDigits digits → text ≡ minus ++ digits → IsNumeral 10 (without_leading_sign text)
numeral_of_parts text minus [] signed are e = absurd (omega (arith, are.some))
numeral_of_parts text minus (d ∷ ds) (inl none) are e =
    let same : text ≡ d ∷ ds = rw none at e in
    let r = head_digit (d ∷ ds) are in
    rw same (unsigned d ds are r.0)
numeral_of_parts text minus (d ∷ ds) (inr minus_is) are e =
    let same : text ≡ 45 ∷ d ∷ ds = rw minus_is at e in
    rw same (are.some, all_digits (d ∷ ds) are.each)

pub numeral_of_integer : (text : List ℕ) → IsInteger text → IsNumeral 10 (without_leading_sign text)
numeral_of_integer text h = numeral_of_parts text h.minus h.digits h.signed (digits_of_whole h.digits h.whole_part) h.whole

ascii_of_digits : (text : List ℕ) → AllPass is_ascii_digit text → IsAscii text
ascii_of_digits [] h i = omega arith
ascii_of_digits (c ∷ cs) h zero = let r = is_digit_range c (h 0 0 (omega arith)) in omega (arith, r.1)
ascii_of_digits (c ∷ cs) h (suc i) = ascii_of_digits cs (λ k d l. h (suc k) d (omega arith)) i

minus_ascii : IsAscii (codes "-")
minus_ascii zero = omega arith
minus_ascii (suc i) = omega arith

ascii_of_parts : (text minus digits : List ℕ) → IsMinus minus → AreDigits digits → text ≡ minus ++ digits → IsAscii text
ascii_of_parts text minus digits (inl none) are e =
    let same : text ≡ digits = rw none at e in
    rw same (ascii_of_digits digits are.each)
ascii_of_parts text minus digits (inr minus_is) are e =
    let same : text ≡ codes "-" ++ digits = rw minus_is at e in
    rw same (IsAscii-append (codes "-") digits minus_ascii (ascii_of_digits digits are.each))

pub ascii_of_integer : (text : List ℕ) → IsInteger text → IsAscii text
ascii_of_integer text h = ascii_of_parts text h.minus h.digits h.signed (digits_of_whole h.digits h.whole_part) h.whole

pub utf8_of_integer : (text : List ℕ) → IsInteger text → IsUtf8 text
utf8_of_integer text h = IsUtf8-from_ascii text (ascii_of_integer text h)

pub no_integer : (text : List ℕ) (answer : Bool) → answer ≡ is_integer text → answer ≡ false → ¬ IsInteger text
no_integer text answer is fails h = false≢true (sym fails ∙ is ∙ test_from_integer text h)

-- what std answers is what is wanted, where the text is an integer
pub reads_integer : (text : List ℕ) (found : Option ℤ) → IsInteger text
    → SomeIff found (IsNumeral 10 (without_leading_sign text) × FitsSigned w64 (integer_of text)) (integer_of text)
    → SomeIff found (IsInteger text × FitsSigned w64 (integer_of text)) (integer_of text)
reads_integer text None h fails = λ x. fails (numeral_of_integer text h, x.1)
reads_integer text (Some found) h reads = ((h, reads.0.1), reads.1)

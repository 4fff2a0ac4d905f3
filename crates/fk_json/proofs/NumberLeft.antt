-- Numbers, read byte by byte: what is left behind a byte, and where they may end.
use Rattle.std.proofs.Common.{◌≡◌, ◌↔◌, ◌==◌, ◌||◌, inl, inr, ℕ, Bool, true, false, List, [], ◌∷◌, ◌++◌, if◌then◌else◌, Option, None, Some, refl, sym, ap, subst, ◌∙◌}
use Rattle.std.specs.Char.{is_ascii_digit}
use Rattle.std.proofs.lemmas.Bool.{eqb-true, false≢true, true≢false, or_cases}
use Rattle.fk_json.proofs.Parts.{head_of, tail_of}
use Rattle.fk_json.specs.Number.{AreDigits, IsExponent, IsFraction, IsMinus, IsNumber, IsWhole}
use Rattle.fk_json.specs.Tokens.{number_ends, number_first, number_step}
use Rattle.fk_json.specs.TokenRests.{NumberLeft, follows}
use Rattle.fk_json.specs.declared.number_mode.NumberMode.{NumberMode}
use Rattle.fk_json.specs.declared.number_mode.NumberMode.TheVariants.{Minus, Zero, Whole, Point, Fraction, Letter, Sign, Exponent}
use Rattle.fk_json.proofs.DigitsLeft.{Behind, first_whole, leads, no_cons, no_digits, none_are, one_digit}
use Rattle.fk_json.proofs.NumberOn.{first_on, number_on}
use Rattle.fk_json.proofs.NumberBack.{number_back, zero_first}

-- ---- a number, by its bytes

number_reads : (mode : NumberMode) (b : ℕ) (text : List ℕ)
    → NumberLeft mode (b ∷ text) ↔ Behind (number_step mode b) text
number_reads mode b text = (number_on mode b text, number_back mode b text)

pub number_goes : (mode next : NumberMode) (b : ℕ) (text : List ℕ) → number_step mode b ≡ Some next
    → NumberLeft mode (b ∷ text) ↔ NumberLeft next text
number_goes mode next b text e =
    subst (λ o. NumberLeft mode (b ∷ text) ↔ Behind o text) e (number_reads mode b text)

pub number_stops : (mode : NumberMode) (b : ℕ) (text : List ℕ) → number_step mode b ≡ None
    → ¬ NumberLeft mode (b ∷ text)
number_stops mode b text e h = subst (λ o. Behind o text) e (number_on mode b text h)

pub number_may_end : (mode : NumberMode) → number_ends mode ≡ true → NumberLeft mode []
number_may_end Minus e = absurd (false≢true e)
number_may_end Zero e = ([], [], inl refl, inl refl, refl)
number_may_end Whole e = ([], [], [], no_digits, inl refl, inl refl, refl)
number_may_end Point e = absurd (false≢true e)
number_may_end Fraction e = ([], [], no_digits, inl refl, refl)
number_may_end Letter e = absurd (false≢true e)
number_may_end Sign e = absurd (false≢true e)
number_may_end Exponent e = no_digits

digits_needed : (digits rest : List ℕ) → AreDigits digits → ¬ ([] ≡ digits ++ rest)
digits_needed [] rest are e = none_are are
digits_needed (d ∷ ds) rest are e = no_cons (sym e)

whole_some : (digits : List ℕ) → IsWhole digits → AreDigits digits
whole_some digits (inl is) = subst AreDigits (sym is) one_digit
whole_some digits (inr are) = are.0

sign_needed : (sign digits : List ℕ) → AreDigits digits → ¬ ([] ≡ sign ++ digits)
sign_needed [] digits are e = none_are (subst AreDigits (sym e) are)
sign_needed (s ∷ ss) digits are e = no_cons (sym e)

whole_needed : (digits fraction exponent : List ℕ) → AreDigits digits → ¬ ([] ≡ digits ++ fraction ++ exponent)
whole_needed [] fraction exponent are e = none_are are
whole_needed (d ∷ ds) fraction exponent are e = no_cons (sym e)

pub number_unended : (mode : NumberMode) → number_ends mode ≡ false → ¬ NumberLeft mode []
number_unended Minus e (digits, fraction, exponent, is, fractional, raised, whole) =
    whole_needed digits fraction exponent (whole_some digits is) whole
number_unended Zero e h = true≢false e
number_unended Whole e h = true≢false e
number_unended Point e (digits, exponent, are, raised, whole) = digits_needed digits exponent are whole
number_unended Fraction e h = true≢false e
number_unended Letter e (sign, digits, signed, are, whole) = sign_needed sign digits are whole
number_unended Sign e are = none_are are
number_unended Exponent e h = true≢false e

pub number_completes : (mode : NumberMode) → (text : List ℕ) × NumberLeft mode text
number_completes Minus = (48 ∷ [], (48 ∷ [], [], [], inl refl, inl refl, inl refl, refl))
number_completes Zero = ([], number_may_end Zero refl)
number_completes Whole = ([], number_may_end Whole refl)
number_completes Point = (48 ∷ [], (48 ∷ [], [], one_digit, inl refl, refl))
number_completes Fraction = ([], number_may_end Fraction refl)
number_completes Letter = (48 ∷ [], ([], 48 ∷ [], inl refl, one_digit, refl))
number_completes Sign = (48 ∷ [], one_digit)
number_completes Exponent = ([], no_digits)

-- ---- where a number begins

first_reads : (b : ℕ) (text minus digits fraction exponent : List ℕ) → IsMinus minus → IsWhole digits
    → IsFraction fraction → IsExponent exponent → b ∷ text ≡ minus ++ digits ++ fraction ++ exponent
    → Behind (number_first b) text
first_reads b text minus digits fraction exponent (inl none) is fractional raised e =
    let whole : b ∷ text ≡ digits ++ fraction ++ exponent
    = e ∙ ap (λ x. x ++ digits ++ fraction ++ exponent) none in
    first_on number_first b text refl first_whole digits fraction exponent is fractional raised whole
first_reads b text minus digits fraction exponent (inr at) is fractional raised e =
    let whole : b ∷ text ≡ 45 ∷ (digits ++ fraction ++ exponent)
    = e ∙ ap (λ x. x ++ digits ++ fraction ++ exponent) at in
    leads (number_first b) (Some Minus) text (ap number_first (head_of whole))
    (digits, fraction, exponent, is, fractional, raised, tail_of whole)

number_of_left : (b : ℕ) (text : List ℕ) (test : Bool) → (b == 45) ≡ test
    → Behind (if test then Some Minus else if b == 48 then Some Zero
    else if is_ascii_digit b then Some Whole else None) text
    → IsNumber (b ∷ text)
number_of_left b text true at (digits, fraction, exponent, is, fractional, raised, e) = record {
  minus = b ∷ [];
  digits = digits;
  fraction = fraction;
  exponent = exponent;
  signed = inr (ap (λ x. x ∷ []) (eqb-true b 45 at));
  whole_part = is;
  fractional = fractional;
  raised = raised;
  whole = ap (λ x. b ∷ x) e;
}
number_of_left b text false at h =
    let (digits, fraction, exponent, is, fractional, raised, e) = zero_first b text _ refl h in
    record {
      minus = [];
      digits = digits;
      fraction = fraction;
      exponent = exponent;
      signed = inl refl;
      whole_part = is;
      fractional = fractional;
      raised = raised;
      whole = e;
    }

left_of_number : (b : ℕ) (text : List ℕ) → IsNumber (b ∷ text) → Behind (number_first b) text
left_of_number b text h =
    first_reads b text h.minus h.digits h.fraction h.exponent h.signed h.whole_part h.fractional h.raised h.whole

pub number_begins : (next : NumberMode) (b : ℕ) (text : List ℕ) → number_first b ≡ Some next
    → IsNumber (b ∷ text) ↔ NumberLeft next text
number_begins next b text e =
    subst (λ o. IsNumber (b ∷ text) ↔ Behind o text) e (left_of_number b text, number_of_left b text _ refl)

pub number_none : (b : ℕ) (text : List ℕ) → number_first b ≡ None → ¬ IsNumber (b ∷ text)
number_none b text e h = subst (λ o. Behind o text) e (left_of_number b text h)

minus_needed : (minus digits fraction exponent : List ℕ) → AreDigits digits
    → ¬ ([] ≡ minus ++ digits ++ fraction ++ exponent)
minus_needed [] digits fraction exponent are e = whole_needed digits fraction exponent are e
minus_needed (m ∷ ms) digits fraction exponent are e = no_cons (sym e)

pub number_empty : ¬ IsNumber []
number_empty h = minus_needed h.minus h.digits h.fraction h.exponent (whole_some h.digits h.whole_part) h.whole

-- ---- what may stand behind a value goes on with none

one_of : (step : ℕ → Option NumberMode) (b c : ℕ) (others : Bool) → step c ≡ None
    → (others ≡ true → step b ≡ None) → others || (b == c) ≡ true → step b ≡ None
one_of step b c others at more e = elim (or_cases _ _ e) [
  | inl is ↦ more is
  | inr is ↦ ap step (eqb-true b c is) ∙ at
]

stops_behind : (step : ℕ → Option NumberMode) → step 32 ≡ None → step 9 ≡ None → step 10 ≡ None → step 13 ≡ None
    → step 44 ≡ None → step 93 ≡ None → step 125 ≡ None → (b : ℕ) → follows b ≡ true → step b ≡ None
stops_behind step space tab line_feed return comma closing_list closing_object b =
    one_of step b 125 _ closing_object (one_of step b 93 _ closing_list (one_of step b 44 _ comma
    (one_of step b 13 _ return (one_of step b 10 _ line_feed (one_of step b 9 _ tab
    (λ is. ap step (eqb-true b 32 is) ∙ space))))))

pub number_over : (mode : NumberMode) (b : ℕ) → number_ends mode ≡ true → follows b ≡ true
    → number_step mode b ≡ None
number_over Minus b ends e = absurd (false≢true ends)
number_over Zero b ends e = stops_behind (number_step Zero) refl refl refl refl refl refl refl b e
number_over Whole b ends e = stops_behind (number_step Whole) refl refl refl refl refl refl refl b e
number_over Point b ends e = absurd (false≢true ends)
number_over Fraction b ends e = stops_behind (number_step Fraction) refl refl refl refl refl refl refl b e
number_over Letter b ends e = absurd (false≢true ends)
number_over Sign b ends e = absurd (false≢true ends)
number_over Exponent b ends e = stops_behind (number_step Exponent) refl refl refl refl refl refl refl b e

-- Digits, one by one, and where the bytes of a number lead.
use Rattle.std.proofs.Common.{◌≡◌, ◌≢◌, ◌==◌, ◌||◌, ℕ, true, false, List, [], ◌∷◌, length, if◌then◌else◌, Option, None, Some, refl, sym, ap, subst, ◌∙◌, arith}
use Rattle.std.specs.Char.{is_ascii_digit}
use Rattle.std.specs.List.{AllPass}
use Rattle.std.proofs.lemmas.Bool.{ne_eqb}
use Rattle.std.proofs.lemmas.List.Elements.{All-cons, All-head, All-nil, All-tail}
use Rattle.fk_json.specs.Number.{AreDigits}
use Rattle.fk_json.specs.Tokens.{number_first, number_step}
use Rattle.fk_json.specs.TokenRests.{NumberLeft}
use Rattle.fk_json.specs.declared.number_mode.NumberMode.{NumberMode}
use Rattle.fk_json.specs.declared.number_mode.NumberMode.TheVariants.{Minus, Whole, Letter, Exponent}

-- what is left behind a byte, by where the byte leads
abbrev pub Behind : Option NumberMode → List ℕ → Type 0
Behind None text = ⊥
Behind (Some next) text = NumberLeft next text

pub leads : (found expected : Option NumberMode) (text : List ℕ) → found ≡ expected → Behind expected text
    → Behind found text
leads found expected text e h = subst (λ o. Behind o text) (sym e) h

pub no_cons : {b : ℕ} {text : List ℕ} → ¬ (b ∷ text ≡ [])
no_cons {text = text} e = absurd (omega (arith, ap length e))

-- ---- digits, one by one

pub digit_head : (b : ℕ) (text : List ℕ) → AllPass is_ascii_digit (b ∷ text) → is_ascii_digit b ≡ true
digit_head b text h = All-head (λ x. is_ascii_digit x ≡ true) b text h

pub digits_tail : (b : ℕ) (text : List ℕ) → AllPass is_ascii_digit (b ∷ text) → AllPass is_ascii_digit text
digits_tail b text h = All-tail (λ x. is_ascii_digit x ≡ true) b text h

pub digits_cons : (b : ℕ) (text : List ℕ) → is_ascii_digit b ≡ true → AllPass is_ascii_digit text
    → AllPass is_ascii_digit (b ∷ text)
digits_cons b text d h = All-cons (λ x. is_ascii_digit x ≡ true) b text d h

pub no_digits : AllPass is_ascii_digit []
no_digits = All-nil (λ x. is_ascii_digit x ≡ true)

pub are_cons : (b : ℕ) (text : List ℕ) → is_ascii_digit b ≡ true → AllPass is_ascii_digit text → AreDigits (b ∷ text)
are_cons b text d h = record { some = omega arith; each = digits_cons b text d h }

pub none_are : ¬ AreDigits []
none_are are = absurd (omega (arith, are.some))

pub one_digit : AreDigits (48 ∷ [])
one_digit = are_cons 48 [] refl no_digits

no_sign_digit : (b : ℕ) → is_ascii_digit b ≡ true → (b == 43) || (b == 45) ≡ false
no_sign_digit b d = grind (arith, d)

pub digit_no_minus : (b : ℕ) → is_ascii_digit b ≡ true → (b == 45) ≡ false
digit_no_minus b d = grind (arith, d)

pub first_whole : (b : ℕ) → is_ascii_digit b ≡ true → b ≢ 48 → number_first b ≡ Some Whole
first_whole b d ne = rw (digit_no_minus b d, ne_eqb b 48 ne, d) refl

pub minus_whole : (b : ℕ) → is_ascii_digit b ≡ true → b ≢ 48 → number_step Minus b ≡ Some Whole
minus_whole b d ne = ap (λ t. if t then number_first b else None) d ∙ first_whole b d ne

pub sign_step : (b : ℕ) → is_ascii_digit b ≡ true → number_step Letter b ≡ Some Exponent
sign_step b d = rw (no_sign_digit b d, d) refl

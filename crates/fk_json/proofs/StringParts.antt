-- The parts of a string up to its closing quote, and what is left behind one byte inside.
use Rattle.std.proofs.Common.{◌≡◌, ◌≢◌, ◌↔◌, ℕ, ◌<◌, ◌≤◌, true, false, List, [], ◌∷◌, ◌++◌, flat_map, sym, ap, subst, ◌∙◌, arith}
use Rattle.std.specs.List.{AllByRecursion}
use Rattle.std.specs.Str.{IsUtf8}
use Rattle.std.proofs.lemmas.Bool.{false≢true}
use Rattle.std.proofs.lemmas.Bool.Decides.{nat_tests}
use Rattle.std.proofs.lemmas.Str.{IsUtf8-nil}
use Rattle.fk_json.specs.String.{IsHexadecimal, IsPart, Part, byte, letter, unit, is_letter, part_text, quote}
use Rattle.fk_json.specs.Tokens.{is_hexadecimal}
use Rattle.fk_json.specs.TokenRests.{InsideLeft}
use Rattle.fk_json.proofs.Parts.{front_part, head_of, no_quote_part, tail_of}
use Rattle.fk_json.proofs.Utf8Strings.{after_ascii, cons_ascii}

-- ---- tests on one byte

pub hexadecimal : (b : ℕ) → is_hexadecimal b ≡ true → IsHexadecimal b
hexadecimal b is = grind (arith, nat_tests, is)

pub no_hexadecimal : (b : ℕ) → is_hexadecimal b ≡ false → ¬ IsHexadecimal b
no_hexadecimal b is h = grind (arith, nat_tests, is, h)

pub hexadecimal_low : (b : ℕ) → IsHexadecimal b → b < 128
hexadecimal_low b h = grind (arith, h)

pub letter_low : (b : ℕ) → is_letter b ≡ true → b < 128
letter_low b h = grind (arith, h)

pub letter_is_no_u : (b : ℕ) → b ≡ 117 → ¬ (is_letter b ≡ true)
letter_is_no_u b e h = false≢true (subst (λ x. is_letter x ≡ true) e h)

-- ---- parts and the closing quote, whether or not in UTF-8

abbrev pub Parted : List ℕ → Type 0
Parted text =
    (parts : List Part) × AllByRecursion IsPart parts
    × (text ≡ flat_map part_text parts ++ quote ∷ [])

pub parted : (text : List ℕ) → InsideLeft text → Parted text
parted text i = (i.0, i.1, i.2)

-- no byte but a backslash or a quote begins another part than its own
parted_behind : (b : ℕ) (text : List ℕ) → b ≢ 34 → b ≢ 92 → (parts : List Part)
    → AllByRecursion IsPart parts → b ∷ text ≡ flat_map part_text parts ++ quote ∷ []
    → (32 ≤ b) × (Parted text)
parted_behind b text n m [] each e = absurd (n (head_of e))
parted_behind b text n m (byte c ∷ ps) each e =
    (subst (λ x. 32 ≤ x) (sym (head_of e)) each.0.0, (ps, each.1, tail_of e))
parted_behind b text n m (letter l ∷ ps) each e = absurd (m (head_of e))
parted_behind b text n m (unit i j k l ∷ ps) each e = absurd (m (head_of e))

parted_by : (b : ℕ) (text : List ℕ) → 32 ≤ b → b ≢ 34 → b ≢ 92 → Parted text → Parted (b ∷ text)
parted_by b text l n m p = (byte b ∷ p.0, ((l, n, m), p.1), ap (λ x. b ∷ x) p.2)

pub high_behind : (b : ℕ) (text : List ℕ) → 128 ≤ b → Parted (b ∷ text) → Parted text
high_behind b text l p =
    let n : b ≢ 34 = λ e. absurd (omega (arith, l, e)) in
    let m : b ≢ 92 = λ e. absurd (omega (arith, l, e)) in
    (parted_behind b text n m p.0 p.1 p.2).1

pub high_by : (b : ℕ) (text : List ℕ) → 128 ≤ b → Parted text → Parted (b ∷ text)
high_by b text l p =
    let n : b ≢ 34 = λ e. absurd (omega (arith, l, e)) in
    let m : b ≢ 92 = λ e. absurd (omega (arith, l, e)) in
    parted_by b text (omega (arith, l)) n m p

-- ---- behind one byte inside

pub inside_closed : (text : List ℕ) → InsideLeft (34 ∷ text) → text ≡ []
inside_closed text ([], each, e, u) = tail_of e
inside_closed text (p ∷ ps, each, e, u) =
    let rest = flat_map part_text ps ++ 34 ∷ [] in
    absurd (no_quote_part p rest text each.0 (sym (front_part p ps) ∙ sym e))

pub closed_inside : (text : List ℕ) → text ≡ [] → InsideLeft (34 ∷ text)
closed_inside text e =
    ([], tt, ap (λ x. 34 ∷ x) e, cons_ascii 34 text (omega arith) (subst IsUtf8 (sym e) IsUtf8-nil))

pub inside_plain : (b : ℕ) (text : List ℕ) → 32 ≤ b → b < 128 → b ≢ 34 → b ≢ 92
    → InsideLeft (b ∷ text) ↔ InsideLeft text
inside_plain b text l h n m = (
  λ i.
      let (_, p) = parted_behind b text n m i.0 i.1 i.2 in
      (p.0, p.1, p.2, after_ascii [] b text h i.3),
  λ i.
      let p = parted_by b text l n m (parted text i) in
      (p.0, p.1, p.2, cons_ascii b text h i.3),
)

pub no_control : (b : ℕ) (text : List ℕ) → b < 32 → ¬ InsideLeft (b ∷ text)
no_control b text h i =
    let n : b ≢ 34 = λ e. absurd (omega (arith, h, e)) in
    let m : b ≢ 92 = λ e. absurd (omega (arith, h, e)) in
    let (l, _) = parted_behind b text n m i.0 i.1 i.2 in
    absurd (omega (arith, h, l))

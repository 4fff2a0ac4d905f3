-- What a string stands for is UTF-8, and so is the spelling of a value that is.
use Rattle.std.proofs.Common.{◌≡◌, ◌&&◌, ℕ, ◌+◌, ◌<◌, Bool, true, false, List, [], ◌∷◌, ◌++◌, length, get_or, flat_map, if◌then◌else◌, refl, sym, subst, arith, encode_utf8}
use Rattle.std.specs.Char.{IsScalar, digit_value}
use Rattle.std.specs.Char.Utf16.{is_high_surrogate, is_low_surrogate, surrogate_pair_char}
use Rattle.std.specs.List.{AllByRecursion}
use Rattle.std.specs.Str.{IsUtf8}
use lib.Utf8.{low_scalar}
use Rattle.std.proofs.Math.Seq.{drop-append-add, get_or-append_seam, take-append_seam}
use Rattle.std.proofs.lemmas.Bool.{and_parts}
use Rattle.std.proofs.lemmas.List.{append_assoc, append-nil, length-append}
use Rattle.std.proofs.lemmas.Str.{encode_ascii, IsCharBoundary-after_ascii, IsCharBoundary-before_ascii, IsUtf8-append, IsUtf8-drop, IsUtf8-encode, IsUtf8-nil, IsUtf8-take}
use Rattle.fk_json.specs.String.{IsPart, Part, byte, letter, unit, code_unit, is_letter, letter_byte, lone_unit, meaning, part_text}

-- what stands before an ASCII byte is whole characters
pub before_ascii : (front : List ℕ) (b : ℕ) (rest : List ℕ) → b < 128 → IsUtf8 (front ++ b ∷ rest) → IsUtf8 front
before_ascii front b rest l u =
    let at : get_or (front ++ b ∷ rest) (length front) 0 ≡ b = get_or-append_seam front b rest 0 in
    let within : length front < length (front ++ b ∷ rest) = omega (arith, length-append front (b ∷ rest)) in
    let less : get_or (front ++ b ∷ rest) (length front) 0 < 128 = rw at l in
    subst IsUtf8 (take-append_seam front (b ∷ rest))
    (IsUtf8-take (front ++ b ∷ rest) (length front) u (IsCharBoundary-before_ascii (front ++ b ∷ rest) (length front) within less))

-- and so is what stands behind it
pub after_ascii : (front : List ℕ) (b : ℕ) (rest : List ℕ) → b < 128 → IsUtf8 (front ++ b ∷ rest) → IsUtf8 rest
after_ascii front b rest l u =
    let at : get_or (front ++ b ∷ rest) (length front) 0 ≡ b = get_or-append_seam front b rest 0 in
    let within : length front < length (front ++ b ∷ rest) = omega (arith, length-append front (b ∷ rest)) in
    let less : get_or (front ++ b ∷ rest) (length front) 0 < 128 = rw at l in
    subst IsUtf8 (drop-append-add front (b ∷ rest) 1)
    (IsUtf8-drop (front ++ b ∷ rest) (length front + 1) u (IsCharBoundary-after_ascii (front ++ b ∷ rest) (length front) u within less))

pub cons_ascii : (b : ℕ) (rest : List ℕ) → b < 128 → IsUtf8 rest → IsUtf8 (b ∷ rest)
cons_ascii b rest l u =
    IsUtf8-append (b ∷ []) rest (subst IsUtf8 (encode_ascii b l) (IsUtf8-encode b (low_scalar b (omega arith)))) u

-- ---- characters

scalar_behind : (u : ℕ) → u < 65536 → is_high_surrogate u ≡ false → is_low_surrogate u ≡ false → IsScalar u
scalar_behind u l h low = grind (arith, h, low)

by_high : (u : ℕ) → u < 65536 → (high low : Bool) → is_high_surrogate u ≡ high → is_low_surrogate u ≡ low
    → IsUtf8 (encode_utf8 (if high then 0xFFFD else if low then 0xFFFD else u))
by_high u l true low h k = IsUtf8-encode 0xFFFD refl
by_high u l false true h k = IsUtf8-encode 0xFFFD refl
by_high u l false false h k = IsUtf8-encode u (scalar_behind u l h k)

pub lone_utf8 : (u : ℕ) → u < 65536 → IsUtf8 (lone_unit u)
lone_utf8 u l = by_high u l (is_high_surrogate u) (is_low_surrogate u) refl refl

pair_scalar : (h u : ℕ) → is_high_surrogate h ≡ true → is_low_surrogate u ≡ true → IsScalar (surrogate_pair_char h u)
pair_scalar h u hh hu = grind (arith, hh, hu)

-- ---- parts

digit_ascii : (d : ℕ) → digit_value d < 16 → d < 128
digit_ascii d l = grind (arith, l)

around_unit : (front rest : List ℕ) (a b c d : ℕ) → IsPart (unit a b c d)
    → IsUtf8 (front ++ 92 ∷ 117 ∷ a ∷ b ∷ c ∷ d ∷ rest) → IsUtf8 front × IsUtf8 rest
around_unit front rest a b c d fits u =
    let u0 = after_ascii front 92 (117 ∷ a ∷ b ∷ c ∷ d ∷ rest) (omega arith) u in
    let u1 = after_ascii [] 117 (a ∷ b ∷ c ∷ d ∷ rest) (omega arith) u0 in
    let u2 = after_ascii [] a (b ∷ c ∷ d ∷ rest) (digit_ascii a fits.0) u1 in
    let u3 = after_ascii [] b (c ∷ d ∷ rest) (digit_ascii b fits.1) u2 in
    let u4 = after_ascii [] c (d ∷ rest) (digit_ascii c fits.2) u3 in
    (before_ascii front 92 _ (omega arith) u, after_ascii [] d rest (digit_ascii d fits.3) u4)

letter_ascii : (l : ℕ) → is_letter l ≡ true → (l < 128) × (letter_byte l < 128)
letter_ascii l is = grind (arith, is)

unit_small : (a b c d : ℕ) → IsPart (unit a b c d) → code_unit a b c d < 65536
unit_small a b c d fits = omega (arith, fits.0, fits.1, fits.2, fits.3)

lone_then : (front rest : List ℕ) (a b c d : ℕ) → IsPart (unit a b c d) → IsUtf8 front → IsUtf8 rest
    → IsUtf8 (front ++ (lone_unit (code_unit a b c d) ++ rest))
lone_then front rest a b c d fits before after =
    IsUtf8-append front _ before (IsUtf8-append _ rest (lone_utf8 _ (unit_small a b c d fits)) after)

unit_then : (front after after_unit : List ℕ) (a b c d e f g h : ℕ) → IsPart (unit a b c d)
    → IsUtf8 front → IsUtf8 after → IsUtf8 after_unit → (pair : Bool)
    → is_high_surrogate (code_unit a b c d) && is_low_surrogate (code_unit e f g h) ≡ pair
    → IsUtf8 (front ++ (if pair
    then encode_utf8 (surrogate_pair_char (code_unit a b c d) (code_unit e f g h)) ++ after
    else lone_unit (code_unit a b c d) ++ after_unit))
unit_then front after after_unit a b c d e f g h fits before u v true is =
    let both = and_parts _ _ is in
    IsUtf8-append front _ before (IsUtf8-append _ after (IsUtf8-encode _ (pair_scalar (code_unit a b c d) (code_unit e f g h) both.0 both.1)) u)
unit_then front after after_unit a b c d e f g h fits before u v false is = lone_then front after_unit a b c d fits before v

abbrev Rest : List Part → List ℕ
Rest ps = flat_map part_text ps ++ 34 ∷ []

pub means_utf8 : (front : List ℕ) (ps : List Part) → AllByRecursion IsPart ps
    → IsUtf8 (front ++ Rest ps) → IsUtf8 (front ++ meaning ps)
means_utf8 front [] each u = subst IsUtf8 (sym (append-nil front)) (before_ascii front 34 [] (omega arith) u)
means_utf8 front (byte b ∷ ps) each u =
    let moved = subst IsUtf8 (sym (append_assoc front (b ∷ []) (Rest ps))) u in
    subst IsUtf8 (append_assoc front (b ∷ []) (meaning ps)) (means_utf8 (front ++ b ∷ []) ps each.1 moved)
means_utf8 front (letter l ∷ ps) each u =
    let is = letter_ascii l each.0 in
    let rest = after_ascii [] l (Rest ps) is.0 (after_ascii front 92 (l ∷ Rest ps) (omega arith) u) in
    IsUtf8-append front _ (before_ascii front 92 _ (omega arith) u)
    (cons_ascii (letter_byte l) (meaning ps) is.1 (means_utf8 [] ps each.1 rest))
means_utf8 front (unit a b c d ∷ []) each u =
    let (before, rest) = around_unit front (Rest []) a b c d each.0 u in
    lone_then front [] a b c d each.0 before IsUtf8-nil
means_utf8 front (unit a b c d ∷ byte e ∷ ps) each u =
    let (before, rest) = around_unit front (Rest (byte e ∷ ps)) a b c d each.0 u in
    lone_then front _ a b c d each.0 before (means_utf8 [] (byte e ∷ ps) each.1 rest)
means_utf8 front (unit a b c d ∷ letter e ∷ ps) each u =
    let (before, rest) = around_unit front (Rest (letter e ∷ ps)) a b c d each.0 u in
    lone_then front _ a b c d each.0 before (means_utf8 [] (letter e ∷ ps) each.1 rest)
means_utf8 front (unit a b c d ∷ unit e f g h ∷ ps) each u =
    let (before, rest) = around_unit front (Rest (unit e f g h ∷ ps)) a b c d each.0 u in
    let (_, last) = around_unit [] (Rest ps) e f g h each.1.0 rest in
    unit_then front (meaning ps) (meaning (unit e f g h ∷ ps)) a b c d e f g h each.0 before
    (means_utf8 [] ps each.1.1 last) (means_utf8 [] (unit e f g h ∷ ps) each.1 rest) _ refl

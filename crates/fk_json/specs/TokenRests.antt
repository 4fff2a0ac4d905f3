-- Values without brackets: what is left to be read of one, in the words of the grammar (RFC 8259,
-- sections 3, 6 and 7; RFC 3629, section 4).
use Rattle.std.specs.Prelude.{◌≡◌, ◌⊎◌, ◌==◌, ◌||◌, ℕ, ◌≤◌, ◌<◌, Bool, true, List, [], ◌∷◌, ◌++◌, codes, flat_map, IsUtf8}
use Rattle.std.specs.Char.{is_ascii_digit}
use Rattle.std.specs.List.{AllByRecursion, AllPass}
use Rattle.fk_json.specs.Number.{AreDigits, IsExponent, IsFraction, IsSign, IsWhole}
use Rattle.fk_json.specs.String.{IsHexadecimal, IsPart, Part, is_letter, part_text, quote}
use Rattle.fk_json.specs.declared.number_mode.NumberMode.{NumberMode}
use Rattle.fk_json.specs.declared.number_mode.NumberMode.TheVariants.{Minus, Zero, Whole, Point, Fraction, Letter, Sign, Exponent}
use Rattle.fk_json.specs.declared.string_mode.StringMode.{StringMode}
use Rattle.fk_json.specs.declared.string_mode.StringMode.TheVariants.{Inside, Escape, Four, Three, Two, One, LastByte, TwoBytes, ThreeBytes, NotOverlongOfThree, NoSurrogate, NotOverlongOfFour, NotPastTheLast, Closed}
use Rattle.fk_json.specs.declared.token.Letters.{Letters}
use Rattle.fk_json.specs.declared.token.Letters.TheVariants.{Ull, Ll, L, Rue, Ue, E, Alse, Lse, Se, Nothing}
use Rattle.fk_json.specs.declared.token.Token.TheVariants as token
use Rattle.fk_json.specs.declared.token.Token.{Token}

-- of a number
abbrev pub NumberLeft : NumberMode → List ℕ → Type 0
NumberLeft Minus text =
    (digits fraction exponent : List ℕ) × IsWhole digits × IsFraction fraction
    × IsExponent exponent × (text ≡ digits ++ fraction ++ exponent)
NumberLeft Zero text =
    (fraction exponent : List ℕ) × IsFraction fraction × IsExponent exponent
    × (text ≡ fraction ++ exponent)
NumberLeft Whole text =
    (digits fraction exponent : List ℕ) × AllPass is_ascii_digit digits × IsFraction fraction
    × IsExponent exponent × (text ≡ digits ++ fraction ++ exponent)
NumberLeft Point text =
    (digits exponent : List ℕ) × AreDigits digits × IsExponent exponent
    × (text ≡ digits ++ exponent)
NumberLeft Fraction text =
    (digits exponent : List ℕ) × AllPass is_ascii_digit digits × IsExponent exponent
    × (text ≡ digits ++ exponent)
NumberLeft Letter text =
    (sign digits : List ℕ) × IsSign sign × AreDigits digits × (text ≡ sign ++ digits)
NumberLeft Sign text = AreDigits text
NumberLeft Exponent text = AllPass is_ascii_digit text

-- parts and the closing quote, in UTF-8
abbrev pub InsideLeft : List ℕ → Type 0
InsideLeft text =
    (parts : List Part) × AllByRecursion IsPart parts
    × (text ≡ flat_map part_text parts ++ quote ∷ []) × IsUtf8 text

-- one hexadecimal digit, and then such a rest
abbrev pub DigitThen : (List ℕ → Type 0) → List ℕ → Type 0
DigitThen IsRest [] = ⊥
DigitThen IsRest (b ∷ rest) = IsHexadecimal b × IsRest rest

-- one byte from here to below there, and then such a rest
abbrev pub ByteThen : ℕ → ℕ → (List ℕ → Type 0) → List ℕ → Type 0
ByteThen from end IsRest [] = ⊥
ByteThen from end IsRest (b ∷ rest) = (from ≤ b) × (b < end) × IsRest rest

-- a letter, or `u` and four digits
abbrev pub EscapeLeft : List ℕ → Type 0
EscapeLeft [] = ⊥
EscapeLeft (b ∷ rest) =
    ((is_letter b ≡ true) × InsideLeft rest)
    ⊎ ((b ≡ 117) × DigitThen (DigitThen (DigitThen (DigitThen InsideLeft))) rest)

-- of a string
abbrev pub StringLeft : StringMode → List ℕ → Type 0
StringLeft Inside text = InsideLeft text
StringLeft Escape text = EscapeLeft text
StringLeft Four text = DigitThen (DigitThen (DigitThen (DigitThen InsideLeft))) text
StringLeft Three text = DigitThen (DigitThen (DigitThen InsideLeft)) text
StringLeft Two text = DigitThen (DigitThen InsideLeft) text
StringLeft One text = DigitThen InsideLeft text
StringLeft LastByte text = ByteThen 0x80 0xC0 InsideLeft text
StringLeft TwoBytes text = ByteThen 0x80 0xC0 (ByteThen 0x80 0xC0 InsideLeft) text
StringLeft ThreeBytes text =
    ByteThen 0x80 0xC0 (ByteThen 0x80 0xC0 (ByteThen 0x80 0xC0 InsideLeft)) text
StringLeft NotOverlongOfThree text = ByteThen 0xA0 0xC0 (ByteThen 0x80 0xC0 InsideLeft) text
StringLeft NoSurrogate text = ByteThen 0x80 0xA0 (ByteThen 0x80 0xC0 InsideLeft) text
StringLeft NotOverlongOfFour text =
    ByteThen 0x90 0xC0 (ByteThen 0x80 0xC0 (ByteThen 0x80 0xC0 InsideLeft)) text
StringLeft NotPastTheLast text =
    ByteThen 0x80 0x90 (ByteThen 0x80 0xC0 (ByteThen 0x80 0xC0 InsideLeft)) text
StringLeft Closed text = text ≡ []

-- of letters
abbrev pub letters_text : Letters → List ℕ
letters_text Ull = codes "ull"
letters_text Ll = codes "ll"
letters_text L = codes "l"
letters_text Rue = codes "rue"
letters_text Ue = codes "ue"
letters_text E = codes "e"
letters_text Alse = codes "alse"
letters_text Lse = codes "lse"
letters_text Se = codes "se"
letters_text Nothing = []

-- of a value without brackets
abbrev pub TokenLeft : Token → List ℕ → Type 0
TokenLeft (token.Number mode) text = NumberLeft mode text
TokenLeft (token.Quoted mode) text = StringLeft mode text
TokenLeft (token.Letters left) text = text ≡ letters_text left
TokenLeft token.Bracketed text = text ≡ []

-- what may stand behind a value inside of brackets: white space, a comma or a closing bracket
abbrev pub follows : ℕ → Bool
follows b = (b == 32) || (b == 9) || (b == 10) || (b == 13) || (b == 44) || (b == 93) || (b == 125)

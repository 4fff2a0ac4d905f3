-- JSON strings (RFC 8259, section 7): the one spelling that is written, and the texts that are
-- read.
use Rattle.std.specs.Prelude.{◌≡◌, ◌≢◌, ℕ, ◌+◌, ◌*◌, ◌/◌, ◌%◌, ◌<◌, ◌≤◌, ◌==◌, ◌&&◌, ◌||◌, nat_lt, Bool, not, true, if◌then◌else◌, List, [], ◌∷◌, ◌++◌, codes, flat_map, IsUtf8, encode_utf8}
use Rattle.std.specs.Char.{digit_value, digit_char}
use Rattle.std.specs.Char.Utf16.{is_high_surrogate, is_low_surrogate, surrogate_pair_char}
use Rattle.std.specs.List.{AllByRecursion}

-- the byte at both ends of a string
abbrev pub quote : ℕ
quote = 34

-- the byte before an escape
abbrev pub backslash : ℕ
backslash = 92

-- a byte that stands for itself
abbrev pub is_itself : ℕ → Bool
is_itself byte = not (byte == quote) && not (byte == backslash) && not (nat_lt byte 32)

-- ---- what is written

-- a byte below 32 that has no letter: `\u00` and two hexadecimal digits in lower case
abbrev pub spelled_control : ℕ → List ℕ
spelled_control byte = codes "\\u00" ++ digit_char (byte / 16) ∷ digit_char (byte % 16) ∷ []

-- one byte of a value, as it is written
abbrev pub spelled_byte : ℕ → List ℕ
spelled_byte byte =
    if byte == quote then codes "\\\""
    else if byte == backslash then codes "\\\\"
    else if byte == 8 then codes "\\b"
    else if byte == 9 then codes "\\t"
    else if byte == 10 then codes "\\n"
    else if byte == 12 then codes "\\f"
    else if byte == 13 then codes "\\r"
    else if nat_lt byte 32 then spelled_control byte
    else byte ∷ []

-- the one spelling of a value
abbrev pub spelling : List ℕ → List ℕ
spelling value = quote ∷ flat_map spelled_byte value ++ quote ∷ []

-- ---- what is read

-- A part of a string: a byte that stands for itself, a backslash and a letter, or a backslash,
-- `u` and four hexadecimal digits.
pub data Part : Type 0 where
  byte : ℕ → Part
  letter : ℕ → Part
  unit : ℕ → ℕ → ℕ → ℕ → Part

-- the bytes of a part
abbrev pub part_text : Part → List ℕ
part_text (byte b) = b ∷ []
part_text (letter l) = backslash ∷ l ∷ []
part_text (unit a b c d) = backslash ∷ 117 ∷ a ∷ b ∷ c ∷ d ∷ []

-- a digit of base 16, in either case
abbrev pub IsHexadecimal : ℕ → Type 0
IsHexadecimal digit = digit_value digit < 16

-- `"`, `\`, `/`, `b`, `f`, `n`, `r` and `t`
abbrev pub is_letter : ℕ → Bool
is_letter l =
    (l == quote) || (l == backslash) || (l == 47) || (l == 98) || (l == 102) || (l == 110)
    || (l == 114) || (l == 116)

-- no control byte, quote or backslash stands for itself; eight letters have a meaning
abbrev pub IsPart : Part → Type 0
IsPart (byte b) = (32 ≤ b) × (b ≢ quote) × (b ≢ backslash)
IsPart (letter l) = is_letter l ≡ true
IsPart (unit a b c d) = IsHexadecimal a × IsHexadecimal b × IsHexadecimal c × IsHexadecimal d

-- the byte that a letter behind a backslash stands for
abbrev pub letter_byte : ℕ → ℕ
letter_byte l =
    if l == 98 then 8
    else if l == 102 then 12
    else if l == 110 then 10
    else if l == 114 then 13
    else if l == 116 then 9
    else l

-- the number that four hexadecimal digits write, a code unit of UTF-16
abbrev pub code_unit : ℕ → ℕ → ℕ → ℕ → ℕ
code_unit a b c d =
    digit_value a * 4096 + digit_value b * 256 + digit_value c * 16 + digit_value d

-- the character of a code unit that is in no pair, in UTF-8: U+FFFD where the unit is a surrogate
abbrev pub lone_unit : ℕ → List ℕ
lone_unit u =
    encode_utf8 (if is_high_surrogate u then 0xFFFD else if is_low_surrogate u then 0xFFFD else u)

-- what the parts stand for, in UTF-8 (RFC 3629): two units that are a surrogate pair are one
-- character (RFC 8259, section 7)
abbrev pub meaning : List Part → List ℕ
meaning [] = []
meaning (byte b ∷ parts) = b ∷ meaning parts
meaning (letter l ∷ parts) = letter_byte l ∷ meaning parts
meaning (unit a b c d ∷ unit e f g h ∷ parts) =
    if is_high_surrogate (code_unit a b c d) && is_low_surrogate (code_unit e f g h)
    then encode_utf8 (surrogate_pair_char (code_unit a b c d) (code_unit e f g h)) ++ meaning parts
    else lone_unit (code_unit a b c d) ++ meaning (unit e f g h ∷ parts)
meaning (unit a b c d ∷ parts) = lone_unit (code_unit a b c d) ++ meaning parts

-- The text is a JSON string that stands for the value: parts between two quotes, in UTF-8.
pub record IsString (text value : List ℕ) : Type 0 where
  pub parts : List Part
  pub each : AllByRecursion IsPart parts
  pub whole : text ≡ quote ∷ flat_map part_text parts ++ quote ∷ []
  pub utf8 : IsUtf8 text
  pub means : value ≡ meaning parts

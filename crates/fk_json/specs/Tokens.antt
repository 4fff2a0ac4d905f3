-- Values without brackets, byte by byte: where a byte leads, and whether a value may end there (RFC 8259,
-- sections 3, 6 and 7; RFC 3629, section 4).
use Rattle.std.specs.Prelude.{◌==◌, ◌&&◌, ◌||◌, ℕ, Bool, true, false, nat_lt, nat_le, if◌then◌else◌, option_map, Option, None, Some}
use Rattle.std.specs.Char.{is_ascii_digit}
use Rattle.fk_json.specs.String.{is_letter}
use Rattle.fk_json.specs.declared.number_mode.NumberMode.{NumberMode}
use Rattle.fk_json.specs.declared.number_mode.NumberMode.TheVariants.{Minus, Zero, Whole, Point, Fraction, Letter, Sign, Exponent}
use Rattle.fk_json.specs.declared.string_mode.StringMode.{StringMode}
use Rattle.fk_json.specs.declared.string_mode.StringMode.TheVariants.{Inside, Escape, Four, Three, Two, One, LastByte, TwoBytes, ThreeBytes, NotOverlongOfThree, NoSurrogate, NotOverlongOfFour, NotPastTheLast, Closed}
use Rattle.fk_json.specs.declared.token.Letters.{Letters}
use Rattle.fk_json.specs.declared.token.Letters.TheVariants.{Ull, Ll, L, Rue, Ue, E, Alse, Lse, Se, Nothing}
use Rattle.fk_json.specs.declared.token.Token.TheVariants as token
use Rattle.fk_json.specs.declared.token.Token.{Token}

-- ---- where a byte leads, in a number

abbrev pub number_first : ℕ → Option NumberMode
number_first b =
    if b == 45 then Some Minus
    else if b == 48 then Some Zero
    else if is_ascii_digit b then Some Whole
    else None

abbrev pub raised_by : ℕ → Option NumberMode
raised_by b = if (b == 101) || (b == 69) then Some Letter else None

abbrev pub behind_whole : ℕ → Option NumberMode
behind_whole b = if b == 46 then Some Point else raised_by b

abbrev pub number_step : NumberMode → ℕ → Option NumberMode
number_step Minus b = if is_ascii_digit b then number_first b else None
number_step Zero b = behind_whole b
number_step Whole b = if is_ascii_digit b then Some Whole else behind_whole b
number_step Point b = if is_ascii_digit b then Some Fraction else None
number_step Fraction b = if is_ascii_digit b then Some Fraction else raised_by b
number_step Letter b =
    if (b == 43) || (b == 45) then Some Sign
    else if is_ascii_digit b then Some Exponent
    else None
number_step Sign b = if is_ascii_digit b then Some Exponent else None
number_step Exponent b = if is_ascii_digit b then Some Exponent else None

abbrev pub number_ends : NumberMode → Bool
number_ends Minus = false
number_ends Zero = true
number_ends Whole = true
number_ends Point = false
number_ends Fraction = true
number_ends Letter = false
number_ends Sign = false
number_ends Exponent = true

-- ---- and in a string

abbrev pub is_hexadecimal : ℕ → Bool
is_hexadecimal b =
    is_ascii_digit b || (nat_le 65 b && nat_le b 70) || (nat_le 97 b && nat_le b 102)

-- behind the first byte of a character of more than one
abbrev pub character_first : ℕ → Option StringMode
character_first b =
    if nat_lt b 0xC2 then None
    else if nat_lt b 0xE0 then Some LastByte
    else if b == 0xE0 then Some NotOverlongOfThree
    else if b == 0xED then Some NoSurrogate
    else if nat_lt b 0xF0 then Some TwoBytes
    else if b == 0xF0 then Some NotOverlongOfFour
    else if nat_lt b 0xF4 then Some ThreeBytes
    else if b == 0xF4 then Some NotPastTheLast
    else None

-- behind the first byte of a part, or the closing quote
abbrev pub behind_byte : ℕ → Option StringMode
behind_byte b =
    if b == 34 then Some Closed
    else if b == 92 then Some Escape
    else if nat_lt b 32 then None
    else if nat_lt b 0x80 then Some Inside
    else character_first b

abbrev pub behind_backslash : ℕ → Option StringMode
behind_backslash b = if b == 117 then Some Four else if is_letter b then Some Inside else None

abbrev pub digit_then : ℕ → StringMode → Option StringMode
digit_then b next = if is_hexadecimal b then Some next else None

abbrev pub continued : ℕ → ℕ → ℕ → StringMode → Option StringMode
continued b from end next = if nat_le from b && nat_lt b end then Some next else None

abbrev pub string_step : StringMode → ℕ → Option StringMode
string_step Inside b = behind_byte b
string_step Escape b = behind_backslash b
string_step Four b = digit_then b Three
string_step Three b = digit_then b Two
string_step Two b = digit_then b One
string_step One b = digit_then b Inside
string_step LastByte b = continued b 0x80 0xC0 Inside
string_step TwoBytes b = continued b 0x80 0xC0 LastByte
string_step ThreeBytes b = continued b 0x80 0xC0 TwoBytes
string_step NotOverlongOfThree b = continued b 0xA0 0xC0 LastByte
string_step NoSurrogate b = continued b 0x80 0xA0 LastByte
string_step NotOverlongOfFour b = continued b 0x90 0xC0 TwoBytes
string_step NotPastTheLast b = continued b 0x80 0x90 TwoBytes
string_step Closed b = None

abbrev pub string_ends : StringMode → Bool
string_ends Closed = true
string_ends _ = false

-- ---- and in letters, or in any value without brackets

abbrev pub when : {A : Type 0} → Bool → A → Option A
when test next = if test then Some next else None

abbrev pub letters_step : Letters → ℕ → Option Letters
letters_step Ull b = when (b == 117) Ll
letters_step Ll b = when (b == 108) L
letters_step L b = when (b == 108) Nothing
letters_step Rue b = when (b == 114) Ue
letters_step Ue b = when (b == 117) E
letters_step E b = when (b == 101) Nothing
letters_step Alse b = when (b == 97) Lse
letters_step Lse b = when (b == 108) Se
letters_step Se b = when (b == 115) E
letters_step Nothing b = None

abbrev pub letters_end : Letters → Bool
letters_end Nothing = true
letters_end _ = false

abbrev pub token_first : ℕ → Option Token
token_first b =
    if b == 34 then Some (token.Quoted Inside)
    else if b == 110 then Some (token.Letters Ull)
    else if b == 116 then Some (token.Letters Rue)
    else if b == 102 then Some (token.Letters Alse)
    else option_map token.Number (number_first b)

abbrev pub token_step : Token → ℕ → Option Token
token_step (token.Number mode) b = option_map token.Number (number_step mode b)
token_step (token.Quoted mode) b = option_map token.Quoted (string_step mode b)
token_step (token.Letters left) b = option_map token.Letters (letters_step left b)
token_step token.Bracketed b = None

abbrev pub token_ends : Token → Bool
token_ends (token.Number mode) = number_ends mode
token_ends (token.Quoted mode) = string_ends mode
token_ends (token.Letters left) = letters_end left
token_ends token.Bracketed = true

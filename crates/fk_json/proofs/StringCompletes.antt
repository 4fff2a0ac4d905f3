-- Each string that has begun can be completed.
use Rattle.std.proofs.Common.{ℕ, ◌<◌, List, [], ◌∷◌, inl, refl, arith}
use Rattle.fk_json.specs.TokenRests.{ByteThen, DigitThen, InsideLeft, StringLeft}
use Rattle.fk_json.specs.declared.string_mode.StringMode.{StringMode}
use Rattle.fk_json.specs.declared.string_mode.StringMode.TheVariants.{Inside, Escape, Four, Three, Two, One, LastByte, TwoBytes, ThreeBytes, NotOverlongOfThree, NoSurrogate, NotOverlongOfFour, NotPastTheLast, Closed}
use Rattle.fk_json.proofs.StringParts.{closed_inside}

closing : InsideLeft (34 ∷ [])
closing = closed_inside [] refl

abbrev Completed : StringMode → Type 0
Completed mode = (text : List ℕ) × (StringLeft mode text)

-- by a digit more
digit_more : (m : StringMode) → Completed m
    → (text : List ℕ) × (DigitThen (λ rest. StringLeft m rest) text)
digit_more m c = (48 ∷ c.0, (omega arith, c.1))

-- or by a byte more
byte_more : (from end : ℕ) (m : StringMode) → from < end → Completed m
    → (text : List ℕ) × (ByteThen from end (λ rest. StringLeft m rest) text)
byte_more from end m l c = (from ∷ c.0, (omega arith, l, c.1))

last_byte : Completed LastByte
last_byte = byte_more 0x80 0xC0 Inside (omega arith) (34 ∷ [], closing)

two_bytes : Completed TwoBytes
two_bytes = byte_more 0x80 0xC0 LastByte (omega arith) last_byte

one_digit : Completed One
one_digit = digit_more Inside (34 ∷ [], closing)

two_digits : Completed Two
two_digits = digit_more One one_digit

three_digits : Completed Three
three_digits = digit_more Two two_digits

pub string_completes : (mode : StringMode) → (text : List ℕ) × StringLeft mode text
string_completes Inside = (34 ∷ [], closing)
string_completes Escape = (47 ∷ 34 ∷ [], inl (refl, closing))
string_completes Four = digit_more Three three_digits
string_completes Three = three_digits
string_completes Two = two_digits
string_completes One = one_digit
string_completes LastByte = last_byte
string_completes TwoBytes = two_bytes
string_completes ThreeBytes = byte_more 0x80 0xC0 TwoBytes (omega arith) two_bytes
string_completes NotOverlongOfThree = byte_more 0xA0 0xC0 LastByte (omega arith) last_byte
string_completes NoSurrogate = byte_more 0x80 0xA0 LastByte (omega arith) last_byte
string_completes NotOverlongOfFour = byte_more 0x90 0xC0 TwoBytes (omega arith) two_bytes
string_completes NotPastTheLast = byte_more 0x80 0x90 TwoBytes (omega arith) two_bytes
string_completes Closed = ([], refl)

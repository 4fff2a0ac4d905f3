-- JSON numbers (RFC 8259, section 6): a minus, a whole part, a fraction and an exponent.
use Rattle.std.specs.Prelude.{◌≡◌, ◌≢◌, ◌⊎◌, ◌==◌, ◌&&◌, ◌||◌, ℕ, ◌<◌, ℤ, Bool, not, nat_lt, if◌then◌else◌, List, [], ◌∷◌, ◌++◌, length, drop, codes, slice_index, Contains}
use Rattle.std.specs.Char.{is_ascii_digit}
use Rattle.std.specs.List.{AllPass, list_all}
use Rattle.std.specs.Str.{bytes_eq}
use Rattle.std.specs.Str.Parse.{signed_digits_value}

-- one or more digits
pub record AreDigits (text : List ℕ) : Type 0 where
  pub some : 0 < length text
  pub each : AllPass is_ascii_digit text

-- nothing, or a minus
abbrev pub IsMinus : List ℕ → Type 0
IsMinus text = (text ≡ []) ⊎ (text ≡ codes "-")

-- 0, or digits of which the first isn't 0
abbrev pub IsWhole : List ℕ → Type 0
IsWhole text = (text ≡ codes "0") ⊎ (AreDigits text × (slice_index text 0 ≢ 48))

-- nothing, or a point and digits
abbrev pub IsFraction : List ℕ → Type 0
IsFraction text =
    (text ≡ []) ⊎ ((digits : List ℕ) × AreDigits digits × (text ≡ codes "." ++ digits))

-- nothing, a plus or a minus
abbrev pub IsSign : List ℕ → Type 0
IsSign text = (text ≡ []) ⊎ ((text ≡ codes "+") ⊎ (text ≡ codes "-"))

-- nothing, or `e` or `E`, a sign and digits
abbrev pub IsExponent : List ℕ → Type 0
IsExponent text =
    (text ≡ [])
    ⊎ ((letter : ℕ) × (sign digits : List ℕ) × Contains (codes "eE") letter × IsSign sign
    × AreDigits digits × (text ≡ letter ∷ sign ++ digits))

-- a number: its four parts, one behind the other
pub record IsNumber (text : List ℕ) : Type 0 where
  pub minus : List ℕ
  pub digits : List ℕ
  pub fraction : List ℕ
  pub exponent : List ℕ
  pub signed : IsMinus minus
  pub whole_part : IsWhole digits
  pub fractional : IsFraction fraction
  pub raised : IsExponent exponent
  pub whole : text ≡ minus ++ digits ++ fraction ++ exponent

-- a number without fraction and exponent
pub record IsInteger (text : List ℕ) : Type 0 where
  pub minus : List ℕ
  pub digits : List ℕ
  pub signed : IsMinus minus
  pub whole_part : IsWhole digits
  pub whole : text ≡ minus ++ digits

-- the number that a minus and digits write
abbrev pub integer_of : List ℕ → ℤ
integer_of text = signed_digits_value 10 text

-- The same as a test.

abbrev pub are_digits : List ℕ → Bool
are_digits text = nat_lt 0 (length text) && list_all is_ascii_digit text

abbrev pub is_whole : List ℕ → Bool
is_whole text = bytes_eq text (codes "0") || (are_digits text && not (slice_index text 0 == 48))

-- behind a minus at the front
abbrev pub behind_minus : List ℕ → List ℕ
behind_minus text = if slice_index text 0 == 45 then drop 1 text else text

unfoldable pub is_integer : List ℕ → Bool
is_integer text = is_whole (behind_minus text)

-- What the readers of single fields give: each field by the bytes at its places.
use Rattle.std.specs.Prelude.{ℕ, ◌<◌, ◌≤◌, min, nat_lt, ◌+ℤ◌, ◌-ℤ◌, ◌*ℤ◌, ◌+◌, ◌-◌, ◌*◌, ◌==◌, ◌&&◌, ◌||◌, nat_le, if◌then◌else◌, ℤ, pos, neg_ℤ, Bool, Option, None, Some, List, [], ◌∷◌, length, drop, take, slice_index}
use Rattle.std.specs.List.{list_all}
use Rattle.std.specs.Char.{is_ascii_digit}
use Rattle.std.specs.Str.{byte}
use Rattle.fk_time.specs.declared.front.Front.{Front}
use Rattle.fk_time.specs.declared.parts.Parts.{Parts}
use Rattle.jiff_core.specs.Calendar.{IsCivilDate, days_from_civil}
use Rattle.fk_time.specs.Moments.{day_length}
use Rattle.fk_time.specs.Reading.{thousandths, moment_of}

infixl 10 ◌>>=◌
abbrev pub ◌>>=◌ : {A B : Type 0} → Option A → (A → Option B) → Option B
None >>= f = None
(Some x) >>= f = f x

-- the number that two digits spell
abbrev pub pair : ℕ → ℕ → Option ℕ
pair tens ones =
    if is_ascii_digit tens && is_ascii_digit ones
    then Some ((tens - byte "0") * 10 + (ones - byte "0"))
    else None

abbrev pub pair_at : List ℕ → ℕ → Option ℕ
pair_at text place = pair (slice_index text place) (slice_index text (place + 1))

abbrev pub is_separator : ℕ → Bool
is_separator c = (c == byte "T") || (c == byte "t") || (c == byte " ")

-- the bytes between the numbers of 2023-11-14T22:13:20
abbrev pub has_marks : List ℕ → Bool
has_marks text =
    (slice_index text 4 == byte "-") && (slice_index text 7 == byte "-")
    && is_separator (slice_index text 10)
    && (slice_index text 13 == byte ":") && (slice_index text 16 == byte ":")

-- how large its numbers can be
pub record IsShort (f : Front) : Type 0 where
  pub year : f.year < 10_000
  pub month : f.month < 100
  pub day : f.day < 100

-- its numbers
unfoldable pub front_at : List ℕ → Option Front
front_at text =
    if has_marks text then (do
      century ← pair_at text 0
      year ← pair_at text 2
      month ← pair_at text 5
      day ← pair_at text 8
      hour ← pair_at text 11
      minute ← pair_at text 14
      second ← pair_at text 17
      Some (record {
        year = century * 100 + year;
        month = month;
        day = day;
        hour = hour;
        minute = minute;
        second = second;
      }))
    else None

-- one or more digits
abbrev pub are_digits : List ℕ → Bool
are_digits text = nat_lt 0 (length text) && list_all is_ascii_digit text

-- a point and digits, or nothing, as milliseconds
unfoldable pub fraction_at : List ℕ → Option ℕ
fraction_at [] = Some 0
fraction_at (point ∷ digits) =
    if (point == byte ".") && are_digits digits
    then Some (thousandths digits)
    else None

abbrev pub is_utc_letter : ℕ → Bool
is_utc_letter c = (c == byte "Z") || (c == byte "z")

-- where the offset begins: one byte before the end for a letter, and else six
unfoldable pub offset_start : List ℕ → ℕ
offset_start rest =
    if is_utc_letter (slice_index rest (length rest - 1)) then length rest - 1
    else length rest - 6

-- hours and minutes as HH:MM, in milliseconds
unfoldable pub offset_length_at : List ℕ → Option ℕ
offset_length_at time =
    if (length time == 5) && (slice_index time 2 == byte ":") then (do
      hours ← pair_at time 0
      minutes ← pair_at time 3
      (if nat_le hours 23 && nat_le minutes 59 then Some (hours * 3_600_000 + minutes * 60_000) else None))
    else None

-- how far a clock is ahead of UTC
unfoldable pub ahead_at : List ℕ → Option ℤ
ahead_at [] = None
ahead_at (sign ∷ time) =
    if is_utc_letter sign && (length time == 0) then Some (pos 0)
    else (if sign == byte "+" then offset_length_at time >>= (λ n. Some (pos n))
    else (if sign == byte "-" then offset_length_at time >>= (λ n. Some (neg_ℤ (pos n)))
    else None))

-- the parts of a text: its front, its fraction and its offset
unfoldable pub parts_at : List ℕ → Option Parts
parts_at text =
    if nat_lt (length text) 19 then None else (do
      front ← front_at text
      millisecond ← fraction_at (take (offset_start (drop 19 text)) (drop 19 text))
      ahead ← ahead_at (drop (offset_start (drop 19 text)) (drop 19 text))
      Some (record { front = front; millisecond = millisecond; ahead = ahead }))

-- the numbers are a date of the calendar and a time of day
pub record IsTime (f : Front) : Type 0 where
  pub date : IsCivilDate (pos f.year) f.month f.day
  pub hour : f.hour ≤ 23
  pub minute : f.minute ≤ 59
  pub second : f.second ≤ 60

-- milliseconds since midnight, but for the fraction
abbrev pub clock_at : Front → ℕ
clock_at f = f.hour * 3_600_000 + f.minute * 60_000 + min f.second 59 * 1000

-- the moment that the parts stand for
abbrev pub moment_at : Parts → ℕ
moment_at p =
    moment_of (days_from_civil (pos p.front.year) p.front.month p.front.day *ℤ pos day_length
    +ℤ pos (clock_at p.front + p.millisecond) -ℤ p.ahead)

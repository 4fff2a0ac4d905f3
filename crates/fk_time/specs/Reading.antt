-- The texts that are read as moments: date-time of RFC 3339, section 5.6, in either case of its
-- letters and with a space for the T, as the section's notes allow. Second 60 is taken in every
-- minute, and the offset -00:00 counts as 0.
use Rattle.std.specs.Prelude.{◌≡◌, ◌⊎◌, ℕ, ◌+◌, ◌-◌, ◌*◌, ◌≤◌, min, ℤ, pos, negsuc, neg_ℤ, ◌+ℤ◌, ◌-ℤ◌, ◌*ℤ◌, List, [], ◌∷◌, ◌++◌, codes, slice_index}
use Rattle.std.specs.List.{AllPass}
use Rattle.std.specs.Char.{is_ascii_digit}
use Rattle.std.specs.Str.{byte}
use Rattle.jiff_core.specs.Calendar.{IsCivilDate, days_from_civil}
use Rattle.fk_time.specs.Moments.{greatest, day_length, two_digits, date_text, clock_text}

-- time-offset: UTC by its letter, or so many hours and minutes ahead of it (+) or behind it (-)
pub data Zone : Type 0 where
  Utc : ℕ → Zone
  Ahead : ℕ → ℕ → Zone
  Behind : ℕ → ℕ → Zone

-- the fields of a text
pub record Fields : Type 0 where
  pub year : ℕ
  pub month : ℕ
  pub day : ℕ
  pub separator : ℕ
  pub hour : ℕ
  pub minute : ℕ
  pub second : ℕ
  -- the digits behind the point, as bytes; none where there is no point
  pub fraction : List ℕ
  pub zone : Zone

-- T, t or a space
abbrev pub IsSeparator : ℕ → Type 0
IsSeparator c = (c ≡ byte "T") ⊎ (c ≡ byte "t") ⊎ (c ≡ byte " ")

-- Z or z, or an offset below a day
abbrev pub IsZone : Zone → Type 0
IsZone (Utc letter) = (letter ≡ byte "Z") ⊎ (letter ≡ byte "z")
IsZone (Ahead hours minutes) = (hours ≤ 23) × (minutes ≤ 59)
IsZone (Behind hours minutes) = (hours ≤ 23) × (minutes ≤ 59)

-- what the fields have to meet: a date of the calendar with a year from 0000 to 9999, a separator,
-- a time of day with seconds from 0 to 60, digits, and a zone
pub record AreValid (f : Fields) : Type 0 where
  pub date : IsCivilDate (pos f.year) f.month f.day
  pub separator : IsSeparator f.separator
  pub hour : f.hour ≤ 23
  pub minute : f.minute ≤ 59
  pub second : f.second ≤ 60
  pub fraction : AllPass is_ascii_digit f.fraction
  pub zone : IsZone f.zone

-- time-secfrac: a point and one or more digits, or nothing
abbrev pub fraction_text : List ℕ → List ℕ
fraction_text [] = []
fraction_text (first ∷ others) = codes "." ++ first ∷ others

abbrev pub zone_text : Zone → List ℕ
zone_text (Utc letter) = letter ∷ []
zone_text (Ahead hours minutes) = codes "+" ++ two_digits hours ++ codes ":" ++ two_digits minutes
zone_text (Behind hours minutes) = codes "-" ++ two_digits hours ++ codes ":" ++ two_digits minutes

-- the text that has these fields
abbrev pub fields_text : Fields → List ℕ
fields_text f =
    date_text f.year f.month f.day
    ++ f.separator ∷ []
    ++ clock_text f.hour f.minute f.second
    ++ fraction_text f.fraction
    ++ zone_text f.zone

-- the digit at a place behind the point; a missing one is 0
abbrev pub digit_at : List ℕ → ℕ → ℕ
digit_at fraction place = slice_index fraction place - byte "0"

-- the first three digits, as milliseconds
abbrev pub thousandths : List ℕ → ℕ
thousandths fraction =
    digit_at fraction 0 * 100 + digit_at fraction 1 * 10 + digit_at fraction 2

-- milliseconds since midnight; second 60 counts as 59
abbrev pub clock_length : Fields → ℕ
clock_length f =
    f.hour * 3_600_000 + f.minute * 60_000 + min f.second 59 * 1000 + thousandths f.fraction

-- how far the text's clock is ahead of UTC, in milliseconds
abbrev pub ahead : Zone → ℤ
ahead (Utc letter) = pos 0
ahead (Ahead hours minutes) = pos (hours * 3_600_000 + minutes * 60_000)
ahead (Behind hours minutes) = neg_ℤ (pos (hours * 3_600_000 + minutes * 60_000))

-- milliseconds since 1970-01-01T00:00:00Z, negative before it
abbrev pub milliseconds : Fields → ℤ
milliseconds f =
    days_from_civil (pos f.year) f.month f.day *ℤ pos day_length +ℤ pos (clock_length f)
    -ℤ ahead f.zone

-- the moment of a number of milliseconds: what is below 0 is 0, and what is above the greatest
-- moment is that
abbrev pub moment_of : ℤ → ℕ
moment_of (pos n) = min n greatest
moment_of (negsuc n) = 0

-- a text that may be read, and the moment that it stands for
pub record ReadsAs (text : List ℕ) (moment : ℕ) : Type 0 where
  pub fields : Fields
  pub valid : AreValid fields
  pub spelled : text ≡ fields_text fields
  pub counted : moment ≡ moment_of (milliseconds fields)

-- a text that may be read
abbrev pub IsMomentText : List ℕ → Type 0
IsMomentText text = (moment : ℕ) × ReadsAs text moment

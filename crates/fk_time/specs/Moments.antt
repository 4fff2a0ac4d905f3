-- Moments, in milliseconds since 1970-01-01T00:00:00Z, and the one text that is written for each.
-- The text is of RFC 3339, section 5.6, and the dates are of the proleptic Gregorian calendar.
use Rattle.std.specs.Prelude.{ℕ, zero, suc, ◌+◌, ◌-◌, ◌/◌, ◌%◌, Bool, nat_le, if◌then◌else◌, pos, List, [], ◌∷◌, ◌++◌, codes}
use Rattle.jiff_core.specs.Calendar.{day_count}

-- the greatest moment; a later one counts as this
abbrev pub greatest : ℕ
greatest = 250_000_000_000_000

-- the milliseconds of a day: a day has no leap second here
abbrev pub day_length : ℕ
day_length = 86_400_000

-- the last decimal digit of a number, as a byte
abbrev pub digit : ℕ → ℕ
digit n = 48 + n % 10

-- the last digits of a number, with leading zeros
abbrev pub two_digits : ℕ → List ℕ
two_digits n = digit (n / 10) ∷ digit n ∷ []

abbrev pub three_digits : ℕ → List ℕ
three_digits n = digit (n / 100) ∷ two_digits n

abbrev pub four_digits : ℕ → List ℕ
four_digits n = digit (n / 1000) ∷ three_digits n

-- RFC 3339, section 5.6: full-date is date-fullyear "-" date-month "-" date-mday
abbrev pub date_text : ℕ → ℕ → ℕ → List ℕ
date_text year month day =
    four_digits year ++ codes "-" ++ two_digits month ++ codes "-" ++ two_digits day

-- the same: time-hour ":" time-minute ":" time-second
abbrev pub clock_text : ℕ → ℕ → ℕ → List ℕ
clock_text hour minute second =
    two_digits hour ++ codes ":" ++ two_digits minute ++ codes ":" ++ two_digits second

-- the greatest number up to n that passes a test, or 0
unfoldable pub last_so : (ℕ → Bool) → ℕ → ℕ
last_so test zero = 0
last_so test (suc n) = if test (suc n) then suc n else last_so test n

-- the day of a moment, in days since 1 January of the year -10000
abbrev pub day_at : ℕ → ℕ
day_at moment = day_count (pos 1970) 1 1 + moment / day_length

-- the last year up to 9999 that begins on that day or before
abbrev pub year_at : ℕ → ℕ
year_at moment = last_so (λ year. nat_le (day_count (pos year) 1 1) (day_at moment)) 9999

-- the last month of that year that begins on that day or before
abbrev pub month_at : ℕ → ℕ
month_at moment =
    last_so (λ month. nat_le (day_count (pos (year_at moment)) month 1) (day_at moment)) 12

-- the day's place in that month, from 1
abbrev pub month_day_at : ℕ → ℕ
month_day_at moment =
    day_at moment - day_count (pos (year_at moment)) (month_at moment) 1 + 1

-- the text of a moment, as 2023-11-14T22:13:20.000Z
unfoldable pub moment_text : ℕ → List ℕ
moment_text moment =
    date_text (year_at moment) (month_at moment) (month_day_at moment)
    ++ codes "T"
    ++ clock_text (moment / 3_600_000 % 24) (moment / 60_000 % 60) (moment / 1000 % 60)
    ++ codes "." ++ three_digits (moment % 1000)
    ++ codes "Z"

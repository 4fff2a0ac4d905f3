-- The text of a moment is read as that moment.
use Rattle.std.proofs.Common.{◌≡◌, ℕ, ◌+◌, ◌*◌, ◌/◌, ◌%◌, ◌≤◌, inl, min, true, ℤ, pos, ◌+ℤ◌, ◌-ℤ◌, ◌*ℤ◌, List, refl, sym, ap, ◌∙◌, arith}
use Rattle.std.specs.List.{AllPass}
use Rattle.std.specs.Char.{is_ascii_digit}
use Rattle.std.proofs.lemmas.Bool.Decides.{nat_tests}
use Rattle.std.proofs.lemmas.List.Sums.{AllPass-from_list_all}
use Rattle.jiff_core.specs.Calendar.{IsCivilDate, days_from_civil}
use Rattle.fk_time.specs.Moments.{greatest, day_length, digit, three_digits, year_at, month_at, month_day_at, moment_text}
use Rattle.fk_time.specs.Reading.{Fields, Utc, thousandths, ReadsAs, moment_of}

digit_is : (n : ℕ) → is_ascii_digit (digit n) ≡ true
digit_is n = grind (arith, nat_tests)

digits_are : (n : ℕ) → AllPass is_ascii_digit (three_digits n)
digits_are n =
    AllPass-from_list_all is_ascii_digit (three_digits n)
    (rw (digit_is (n / 100), digit_is (n / 10), digit_is n) refl)

-- the fields of a moment's text
abbrev fields_at : ℕ → Fields
fields_at moment = record {
  year = year_at moment;
  month = month_at moment;
  day = month_day_at moment;
  separator = 84;
  hour = moment / 3_600_000 % 24;
  minute = moment / 60_000 % 60;
  second = moment / 1000 % 60;
  fraction = three_digits (moment % 1000);
  zone = Utc 90;
}

abbrev clock_at : ℕ → ℕ
clock_at moment =
    moment / 3_600_000 % 24 * 3_600_000 + moment / 60_000 % 60 * 60_000 + min (moment / 1000 % 60)
    59 * 1000 + thousandths (three_digits (moment % 1000))

counted_at : (days : ℤ) (moment : ℕ) → moment ≤ greatest → days ≡ pos (moment / day_length)
    → moment ≡ moment_of (days *ℤ pos day_length +ℤ pos (clock_at moment) -ℤ pos 0)
counted_at days moment small e =
    let whole : moment / day_length * day_length + clock_at moment + 0 ≡ moment = omega arith in
    let is : days *ℤ pos day_length +ℤ pos (clock_at moment) -ℤ pos 0 ≡ pos moment =
    rw e (ap (λ (n : ℕ). pos n) whole) in
    let least : moment ≡ min moment greatest = omega arith in
    least ∙ sym (ap moment_of is)

pub text_reads : (moment : ℕ) → moment ≤ greatest
    → IsCivilDate (pos (year_at moment)) (month_at moment) (month_day_at moment)
    → days_from_civil (pos (year_at moment)) (month_at moment) (month_day_at moment)
    ≡ pos (moment / day_length)
    → ReadsAs (moment_text moment) moment
unfolding moment_text
text_reads moment small date days = record {
  fields = fields_at moment;
  valid = record {
    date = date;
    separator = inl refl;
    hour = omega arith;
    minute = omega arith;
    second = omega arith;
    fraction = digits_are (moment % 1000);
    zone = inl refl;
  };
  spelled = refl;
  counted = counted_at
      (days_from_civil (pos (year_at moment)) (month_at moment) (month_day_at moment)) moment small
      days;
}

-- the same of a day in other words
pub record IsDay (moment year month day : ℕ) : Type 0 where
  pub year_is : year ≡ year_at moment
  pub month_is : month ≡ month_at moment
  pub day_is : day ≡ month_day_at moment

pub day_reads : (moment year month day : ℕ) (text : List ℕ) → moment ≤ greatest
    → IsDay moment year month day → IsCivilDate (pos year) month day
    → days_from_civil (pos year) month day ≡ pos (moment / day_length) → text ≡ moment_text moment
    → ReadsAs text moment
day_reads moment year month day text small is valid epoch spelled =
    let date = rw (is.year_is, is.month_is, is.day_is) at valid in
    let days = rw (is.year_is, is.month_is, is.day_is) at epoch in
    rw spelled (text_reads moment small date days)

-- The year, month and day of a moment are those of jiff's date with its day number.
use Rattle.std.proofs.Common.{◌≡◌, ℕ, zero, suc, ◌+◌, ◌/◌, ◌<◌, ◌≤◌, inl, inr, Bool, true, false, ℤ, pos, negsuc, ◌+ℤ◌, ◌<ℤ◌, ◌≤ℤ◌, unsigned_abs, refl, sym, ap, subst, ◌∙◌, arith}
use Rattle.std.specs.Prelude.{nat_le}
use Rattle.std.proofs.lemmas.Bool.{le-leb, lt-leb, cases_lt}
use Rattle.std.proofs.lemmas.Int.{by_lt_z}
use Rattle.jiff_core.specs.Calendar.{IsCivilDate, day_count, days_from_civil}
use Rattle.jiff_core.specs.Date.{epoch_day}
use Rattle.jiff_core.specs.declared.civil.date.Date.{Date}
use Rattle.jiff_core.proofs.SignedLemmas.{signed_arith}
use Rattle.jiff_core.proofs.CalendarLemmas.{day_count-epoch, days_from_civil-day_count, day_count-lt_year, day_count-lt_month, day_count-day, day_count-day_of_year}
use Rattle.fk_time.specs.Moments.{day_length, last_so, day_at, year_at, month_at, month_day_at}

last_is : (test : ℕ → Bool) (n k : ℕ) → k ≤ n → test k ≡ true
    → ((j : ℕ) → k < j → j ≤ n → test j ≡ false) → last_so test n ≡ k
unfolding last_so
last_is test zero k low passes above = omega arith
last_is test (suc n) k low passes above =
    elim (cases_lt n k) [
      | inl lt ↦
          let is : suc n ≡ k = omega arith in
          let here : test (suc n) ≡ true = rw is passes in
          rw here is
      | inr le ↦
          let here : test (suc n) ≡ false = above (suc n) (omega arith) (omega arith) in
          rw here (last_is test n k le passes (λ j lt high. above j lt (omega arith)))
    ]

-- the day count of a day number from 1970-01-01 on
pub count_is : (y : ℤ) (m d moment : ℕ) → days_from_civil y m d ≡ pos (moment / day_length)
    → day_count y m d ≡ day_at moment
count_is y m d moment e =
    let count = rw e at (days_from_civil-day_count y m d) in
    rw day_count-epoch (omega (arith, signed_arith, count))

pub year_is : (y m d moment : ℕ) → IsCivilDate (pos y) m d → day_count (pos y) m d ≡ day_at moment
    → year_at moment ≡ y
year_is y m d moment valid count =
    let low : y ≤ 9999 = let high = valid.0.1 in omega (arith, signed_arith) in
    let begun : day_count (pos y) 1 1 ≤ day_at moment =
    omega (arith, count, day_count-day_of_year (pos y) m d valid.2.0) in
    last_is (λ year. nat_le (day_count (pos year) 1 1) (day_at moment)) 9999 y low
    (le-leb _ _ begun)
    (λ j lt high.
    let later : pos y <ℤ pos j = omega (arith, signed_arith) in
    let after = day_count-lt_year (pos y) m d (pos j) 1 1 valid (omega arith) later in
    lt-leb _ _ (omega (arith, count, after)))

pub month_is : (y m d moment : ℕ) → IsCivilDate (pos y) m d
    → day_count (pos y) m d ≡ day_at moment → year_at moment ≡ y → month_at moment ≡ m
month_is y m d moment valid count year =
    let begun : day_count (pos y) m 1 ≤ day_at moment =
    omega (arith, count, day_count-day (pos y) m d 1 valid.2.0 (omega arith)) in
    rw year
    (last_is (λ month. nat_le (day_count (pos y) month 1) (day_at moment)) 12 m valid.1.1
    (le-leb _ _ begun)
    (λ j lt high.
    let after = day_count-lt_month (pos y) m d j 1 valid (omega arith) lt in
    lt-leb _ _ (omega (arith, count, after))))

pub month_day_is : (y m d moment : ℕ) → IsCivilDate (pos y) m d
    → day_count (pos y) m d ≡ day_at moment → year_at moment ≡ y → month_at moment ≡ m
    → month_day_at moment ≡ d
month_day_is y m d moment valid count year month =
    rw (month, year) (omega (arith, count, day_count-day (pos y) m d 1 valid.2.0 (omega arith)))

-- a day from 1970-01-01 on lies in a year from 1970 on
pub year_from_epoch : (y : ℤ) (m d moment : ℕ) → IsCivilDate y m d
    → day_count y m d ≡ day_at moment → pos 1970 ≤ℤ y
year_from_epoch y m d moment valid count =
    by_lt_z y (pos 1970)
    (λ before.
    let after = day_count-lt_year y m d (pos 1970) 1 1 valid (omega arith) before in
    absurd (omega (arith, count, after)))
    (λ le. le)

positive : (z : ℤ) → pos 1970 ≤ℤ z → z ≡ pos (unsigned_abs z)
positive (pos n) from = refl
positive (negsuc n) from = absurd (omega (arith, signed_arith))

-- a number that lies so far behind the first date's day number
pub shifted : (z : ℤ) (n : ℕ) → z +ℤ pos 4_371_587 ≡ pos (4_371_587 + n) → z ≡ pos n
shifted z n e = omega (arith, signed_arith)

-- the fields of a date that has the moment's day number
pub record IsDateOf (moment : ℕ) (date : Date) : Type 0 where
  pub year : date.year ≡ pos (year_at moment)
  pub month : date.month ≡ month_at moment
  pub day : date.day ≡ month_day_at moment

pub date_of : (moment : ℕ) (date : Date) → epoch_day date ≡ pos (moment / day_length)
    → IsDateOf moment date
date_of moment date e =
    let valid : IsCivilDate date.year date.month date.day =
    (date.year_in, date.month_in, date.day_in) in
    let count = count_is date.year date.month date.day moment e in
    let from = year_from_epoch date.year date.month date.day moment valid count in
    let y = unsigned_abs date.year in
    let is : date.year ≡ pos y = positive date.year from in
    let there : IsCivilDate (pos y) date.month date.day =
    subst (λ z. IsCivilDate z date.month date.day) is valid in
    let counted : day_count (pos y) date.month date.day ≡ day_at moment =
    subst (λ z. day_count z date.month date.day ≡ day_at moment) is count in
    let year = year_is y date.month date.day moment there counted in
    let month = month_is y date.month date.day moment there counted year in
    record {
      year = is ∙ ap (λ n. pos n) (sym year);
      month = sym month;
      day = sym (month_day_is y date.month date.day moment there counted year month);
    }

-- Each text stands for a moment, or for none.
use Rattle.std.proofs.Common.{◌≡◌, ◌⊎◌, inl, inr, ℕ, ◌≤◌, ℤ, pos, neg_ℤ, ◌≤ℤ◌, List, Option, Some, None, refl, sym, ◌∙◌, arith}
use Rattle.std.specs.Int.{IsInRange}
use Rattle.std.specs.Int.Signed.{clash_ℤ}
use Rattle.std.proofs.lemmas.Bool.{cases_lt}
use Rattle.std.proofs.lemmas.Int.{by_lt_z}
use Rattle.jiff_core.specs.Calendar.{IsCivilDate, days_in_month}
use Rattle.fk_time.specs.declared.front.Front.{Front}
use Rattle.fk_time.specs.declared.parts.Parts.{Parts}
use Rattle.fk_time.specs.Reading.{ReadsAs}
use Rattle.fk_time.specs.Places.{parts_at, IsTime, moment_at}
use Rattle.fk_time.proofs.Forms.{again, again_of, found}

-- it holds, or it doesn't
abbrev pub Decision : Type 0 → Type 0
Decision A = A ⊎ ¬ A

pub both_decided : {A B : Type 0} → Decision A → Decision B → Decision (A × B)
both_decided (inl a) (inl b) = inl (a, b)
both_decided (inl a) (inr b) = inr (λ h. b h.1)
both_decided (inr a) b = inr (λ h. a h.0)

three_decided : {A B C : Type 0} → Decision A → Decision B → Decision C → Decision (A × B × C)
three_decided (inl a) (inl b) (inl c) = inl (a, b, c)
three_decided (inl a) (inl b) (inr c) = inr (λ h. c h.2)
three_decided (inl a) (inr b) c = inr (λ h. b h.1)
three_decided (inr a) b c = inr (λ h. a h.0)

pub most_decided : (n most : ℕ) → Decision (n ≤ most)
most_decided n most =
    elim (cases_lt most n) [
      | inl more ↦ inr (λ h. absurd (omega (arith, more, h)))
      | inr h ↦ inl h
    ]

pub signed_decided : (a b : ℤ) → Decision (a ≤ℤ b)
signed_decided a b = by_lt_z b a (λ less. inr (λ h. clash_ℤ less h)) (λ h. inl h)

range_decided : (low high n : ℕ) → Decision (IsInRange low high n)
range_decided low high n = both_decided (most_decided low n) (most_decided n high)

date_decided : (year : ℤ) (month day : ℕ) → Decision (IsCivilDate year month day)
date_decided year month day =
    three_decided
    (both_decided (signed_decided (neg_ℤ (pos 9999)) year) (signed_decided year (pos 9999)))
    (range_decided 1 12 month) (range_decided 1 (days_in_month year month) day)

clock_decided : (f : Front) → Decision (IsCivilDate (pos f.year) f.month f.day) → Decision (f.hour ≤ 23)
    → Decision (f.minute ≤ 59) → Decision (f.second ≤ 60) → Decision (IsTime f)
clock_decided f (inl date) (inl hour) (inl minute) (inl second) =
    inl (record { date = date; hour = hour; minute = minute; second = second })
clock_decided f (inl date) (inl hour) (inl minute) (inr second) = inr (λ time. second time.second)
clock_decided f (inl date) (inl hour) (inr minute) second = inr (λ time. minute time.minute)
clock_decided f (inl date) (inr hour) minute second = inr (λ time. hour time.hour)
clock_decided f (inr date) hour minute second = inr (λ time. date time.date)

time_decided : (f : Front) → Decision (IsTime f)
time_decided f =
    clock_decided f (date_decided (pos f.year) f.month f.day) (most_decided f.hour 23)
    (most_decided f.minute 59) (most_decided f.second 60)

-- the moment of a text, or that it has none
abbrev Reads : List ℕ → Type 0
Reads text = ((moment : ℕ) × ReadsAs text moment) ⊎ ((moment : ℕ) → ¬ ReadsAs text moment)

by_time : (text : List ℕ) (p : Parts) → parts_at text ≡ Some p → Decision (IsTime p.front) → Reads text
by_time text p e (inl time) = inl (moment_at p, found text p e time)
by_time text p e (inr none) = inr (λ moment form. none (again_of text moment p (sym e) form).0)

no_parts : (text : List ℕ) (moment : ℕ) → parts_at text ≡ None → ¬ ReadsAs text moment
no_parts text moment e form =
    let read = again text moment form in
    let clash : None ≡ Some read.parts = sym e ∙ read.read in
    absurd cc

by_parts : (text : List ℕ) (parts : Option Parts) → parts_at text ≡ parts → Reads text
by_parts text None e = inr (λ moment. no_parts text moment e)
by_parts text (Some p) e = by_time text p e (time_decided p.front)

pub moment_decided : (text : List ℕ)
    → ((moment : ℕ) × ReadsAs text moment) ⊎ ((moment : ℕ) → ¬ ReadsAs text moment)
moment_decided text = by_parts text (parts_at text) refl

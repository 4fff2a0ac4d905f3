-- A text is read exactly where it is in the form.
use Rattle.std.proofs.Common.{◌≡◌, ℕ, ◌/◌, ◌%◌, ◌≤◌, inl, inr, Bool, true, false, cond, ℤ, pos, List, [], ◌∷◌, ◌++◌, length, take, drop, Option, Some, None, refl, sym, ap, subst, ◌∙◌, arith}
use Rattle.std.specs.Prelude.{◌==◌, ◌&&◌, ◌||◌, nat_lt, slice_index}
use Rattle.std.proofs.lemmas.Bool.{ltb-false, le-ltb, eqb-true}
use Rattle.std.proofs.lemmas.List.{take-append-drop}
use Rattle.std.proofs.Math.Seq.{take-append_seam, drop-append_seam}
use Rattle.jiff_core.proofs.SignedLemmas.{signed_arith}
use Rattle.jiff_core.proofs.CalendarLemmas.{days_in_month_bounds}
use Rattle.fk_time.specs.declared.front.Front.{Front}
use Rattle.fk_time.specs.declared.parts.Parts.{Parts}
use Rattle.fk_time.specs.Moments.{digit, date_text, clock_text}
use Rattle.fk_time.specs.Reading.{Fields, AreValid, IsSeparator, fields_text, fraction_text, zone_text, thousandths, ahead, ReadsAs}
use Rattle.fk_time.specs.Places.{is_separator, has_marks, front_at, fraction_at, offset_start, ahead_at, parts_at, IsTime, moment_at}
use Rattle.fk_time.proofs.Pairs.{Begins, begins_front, front_begins, pair_is, pair_again, some_then, both, either, same_value, listed, listed-drop}
use Rattle.fk_time.proofs.Endings.{IsFraction, fraction_is, fraction_again, IsAhead, ahead_is, ahead_again, start_again}

-- the parts of a text that has these fields
abbrev pub front_in : Fields → Front
front_in f =
    record {
      year = f.year;
      month = f.month;
      day = f.day;
      hour = f.hour;
      minute = f.minute;
      second = f.second;
    }

abbrev pub parts_in : Fields → Parts
parts_in f =
    record { front = front_in f; millisecond = thousandths f.fraction; ahead = ahead f.zone }

separator_again : (c : ℕ) → IsSeparator c → is_separator c ≡ true
separator_again c (inl e) = rw e refl
separator_again c (inr (inl e)) = rw e refl
separator_again c (inr (inr e)) = rw e refl

fields_begin : (f : Fields) → AreValid f → Begins (fields_text f) (front_in f)
fields_begin f valid =
    let separator = separator_again f.separator valid.separator in
    let high : f.year ≤ 9999 = let year = valid.date.0.1 in omega (arith, signed_arith) in
    record {
      marks = rw separator refl;
      century = pair_again (digit (f.year / 1000)) (digit (f.year / 100)) (f.year / 100)
          (omega arith) (omega arith) refl;
      year = pair_again (digit (f.year / 10)) (digit f.year) (f.year % 100) (omega arith)
          (omega arith) (omega arith);
      month = pair_again _ _ f.month (omega (arith, valid.date.1.0)) refl refl;
      day = pair_again _ _ f.day
          (omega (arith, valid.date.2, days_in_month_bounds (pos f.year) f.month)) refl refl;
      hour = pair_again _ _ f.hour (omega (arith, valid.hour)) refl refl;
      minute = pair_again _ _ f.minute (omega (arith, valid.minute)) refl refl;
      second = pair_again _ _ f.second (omega (arith, valid.second)) refl refl;
    }

pub fields_again : (f : Fields) → AreValid f → parts_at (fields_text f) ≡ Some (parts_in f)
unfolding parts_at
fields_again f valid =
    let front : front_at (fields_text f) ≡ Some (front_in f) =
    begins_front (fields_text f) (front_in f) (fields_begin f valid) in
    let long : nat_lt (length (fields_text f)) 19 ≡ false =
    le-ltb (length (fields_text f)) 19 (omega arith) in
    let start = start_again (fraction_text f.fraction) f.zone valid.zone in
    let before = take-append_seam (fraction_text f.fraction) (zone_text f.zone) in
    let behind = drop-append_seam (fraction_text f.fraction) (zone_text f.zone) in
    let fraction = fraction_again f.fraction valid.fraction in
    let zone = ahead_again f.zone valid.zone in
    rw (long, front, start, before, behind, fraction, zone) refl

pub fields_time : (f : Fields) → AreValid f → IsTime (front_in f)
fields_time f valid =
    record { date = valid.date; hour = valid.hour; minute = valid.minute; second = valid.second }

-- what is read of a text in the form
pub record IsReadAs (text : List ℕ) (moment : ℕ) : Type 0 where
  pub parts : Parts
  pub read : parts_at text ≡ Some parts
  pub time : IsTime parts.front
  pub counted : moment ≡ moment_at parts

pub again : (text : List ℕ) (moment : ℕ) → ReadsAs text moment → IsReadAs text moment
again text moment r = record {
  parts = parts_in r.fields;
  read = ap parts_at r.spelled ∙ fields_again r.fields r.valid;
  time = fields_time r.fields r.valid;
  counted = r.counted;
}

separator_is : (c : ℕ) → is_separator c ≡ true → IsSeparator c
separator_is c e =
    elim (either ((c == 84) || (c == 116)) (c == 32) e) [
      | inl letter ↦ elim (either (c == 84) (c == 116) letter) [
        | inl large ↦ inl (eqb-true c 84 large)
        | inr small ↦ inr (inl (eqb-true c 116 small))
      ]
      | inr space ↦ inr (inr (eqb-true c 32 space))
    ]

-- the marks of a front
pub record AreMarks (text : List ℕ) : Type 0 where
  pub first : slice_index text 4 ≡ 45
  pub second : slice_index text 7 ≡ 45
  pub separator : IsSeparator (slice_index text 10)
  pub third : slice_index text 13 ≡ 58
  pub fourth : slice_index text 16 ≡ 58

marks_are : (text : List ℕ) → has_marks text ≡ true → AreMarks text
marks_are text e =
    let a = both _ (slice_index text 16 == 58) e in
    let b = both _ (slice_index text 13 == 58) a.0 in
    let c =
    both ((slice_index text 4 == 45) && (slice_index text 7 == 45))
    (is_separator (slice_index text 10)) b.0 in
    let d = both (slice_index text 4 == 45) (slice_index text 7 == 45) c.0 in
    record {
      first = eqb-true (slice_index text 4) 45 d.0;
      second = eqb-true (slice_index text 7) 45 d.1;
      separator = separator_is (slice_index text 10) c.1;
      third = eqb-true (slice_index text 13) 58 b.1;
      fourth = eqb-true (slice_index text 16) 58 a.1;
    }

-- the bytes of a front, with this separator
abbrev front_text : Front → ℕ → List ℕ
front_text f c =
    date_text f.year f.month f.day ++ c ∷ [] ++ clock_text f.hour f.minute f.second

-- the front of a text, byte by byte
front_spelled : (text : List ℕ) (f : Front) → Begins text f → AreMarks text
    → listed 19 0 text ≡ front_text f (slice_index text 10)
unfolding listed
front_spelled text f b marks =
    let century = pair_is (slice_index text 0) (slice_index text 1) (f.year / 100) b.century in
    let year = pair_is (slice_index text 2) (slice_index text 3) (f.year % 100) b.year in
    let month = pair_is (slice_index text 5) (slice_index text 6) f.month b.month in
    let day = pair_is (slice_index text 8) (slice_index text 9) f.day b.day in
    let hour = pair_is (slice_index text 11) (slice_index text 12) f.hour b.hour in
    let minute = pair_is (slice_index text 14) (slice_index text 15) f.minute b.minute in
    let second = pair_is (slice_index text 17) (slice_index text 18) f.second b.second in
    let first : slice_index text 0 ≡ digit (f.year / 1000) = omega (arith, century.1) in
    let third : slice_index text 2 ≡ digit (f.year / 10) = omega (arith, year.1) in
    let fourth : slice_index text 3 ≡ digit f.year = omega (arith, year.2) in
    cc (
      first,
      century.2,
      third,
      fourth,
      marks.first,
      month.1,
      month.2,
      marks.second,
      day.1,
      day.2,
      hour.1,
      hour.2,
      marks.third,
      minute.1,
      minute.2,
      marks.fourth,
      second.1,
      second.2,
    )

abbrev whole_of : Front → ℕ → ℤ → Parts
whole_of f n a = record { front = f; millisecond = n; ahead = a }

same_moment : (f : Front) (n m : ℕ) (a b : ℤ) → n ≡ m → a ≡ b
    → moment_at (whole_of f n a) ≡ moment_at (whole_of f m b)
same_moment f n m a b e g = rw (e, g) refl

-- what was read of a text is in the form
found_fields : (text : List ℕ) (f : Front) (n : ℕ) (a : ℤ) (start : ℕ) → 19 ≤ length text
    → Begins text f → IsFraction (take start (drop 19 text)) n
    → IsAhead (drop start (drop 19 text)) a
    → IsTime f → ReadsAs text (moment_at (whole_of f n a))
found_fields text f n a start long b fraction offset time =
    let marks = marks_are text b.marks in
    let front = front_spelled text f b marks in
    let bytes : text ≡ listed 19 0 text ++ drop 19 text = listed-drop 19 0 19 text refl long in
    let rest : fraction_text fraction.digits ++ zone_text offset.zone ≡ drop 19 text =
    ap (λ (t : List ℕ). t ++ zone_text offset.zone) (sym fraction.spelled)
    ∙ ap (λ (t : List ℕ). take start (drop 19 text) ++ t) (sym offset.spelled)
    ∙ take-append-drop start (drop 19 text) in
    let head = front_text f (slice_index text 10) in
    let whole : text ≡ head ++ (fraction_text fraction.digits ++ zone_text offset.zone) =
    bytes ∙ ap (λ (t : List ℕ). t ++ drop 19 text) front
    ∙ ap (λ (t : List ℕ). head ++ t) (sym rest) in
    record {
      fields = record {
        year = f.year;
        month = f.month;
        day = f.day;
        separator = slice_index text 10;
        hour = f.hour;
        minute = f.minute;
        second = f.second;
        fraction = fraction.digits;
        zone = offset.zone;
      };
      valid = record {
        date = time.date;
        separator = marks.separator;
        hour = time.hour;
        minute = time.minute;
        second = time.second;
        fraction = fraction.each;
        zone = offset.valid;
      };
      spelled = whole;
      counted = same_moment f n (thousandths fraction.digits) a (ahead offset.zone)
          fraction.counted offset.counted;
    }

test_failed : {A : Type 0} (b : Bool) (o : Option A) (y : A) → cond b None o ≡ Some y
    → (b ≡ false) × (o ≡ Some y)
test_failed true o y e = absurd cc
test_failed false o y e = (refl, e)

pub found : (text : List ℕ) (p : Parts) → parts_at text ≡ Some p → IsTime p.front
    → ReadsAs text (moment_at p)
unfolding parts_at
found text p e time =
    let rest = drop 19 text in
    let start = offset_start rest in
    let t = test_failed (nat_lt (length text) 19) _ p e in
    let long : 19 ≤ length text = ltb-false (length text) 19 t.0 in
    let f = some_then (front_at text) _ p t.1 in
    let n = some_then (fraction_at (take start rest)) _ p f.2 in
    let a = some_then (ahead_at (drop start rest)) _ p n.2 in
    let is : whole_of f.0 n.0 a.0 ≡ p = same_value (whole_of f.0 n.0 a.0) p a.2 in
    let front = front_begins text f.0 f.1 in
    let fraction = fraction_is (take start rest) n.0 n.1 in
    let offset = ahead_is (drop start rest) a.0 a.1 in
    subst (λ (q : Parts). IsTime q.front → ReadsAs text (moment_at q)) is
    (λ t. found_fields text f.0 n.0 a.0 start long front fraction offset t) time

-- the parts that were read are those of the form
pub again_of : (text : List ℕ) (moment : ℕ) (p : Parts) → Some p ≡ parts_at text
    → ReadsAs text moment → IsTime p.front × (moment ≡ moment_at p)
again_of text moment p e r =
    let g = again text moment r in
    let is : g.parts ≡ p = same_value g.parts p (sym g.read ∙ sym e) in
    subst (λ (q : Parts). IsTime q.front × (moment ≡ moment_at q)) is (g.time, g.counted)

-- a text stands for one moment
pub reads_one : (text : List ℕ) (m n : ℕ) → ReadsAs text m → ReadsAs text n → m ≡ n
reads_one text m n first second =
    let g = again text m first in
    let h = again_of text n g.parts (sym g.read) second in
    g.counted ∙ sym h.1

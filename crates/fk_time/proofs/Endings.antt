-- What stands behind the seconds: a fraction and an offset.
use Rattle.std.proofs.Common.{◌≡◌, ℕ, ◌+◌, ◌-◌, ◌*◌, ◌/◌, ◌<◌, ◌≤◌, ◌⊎◌, inl, inr, Bool, true, false, cond, ℤ, pos, neg_ℤ, List, [], ◌∷◌, ◌++◌, length, get_or, drop, Option, Some, None, refl, sym, ap, ◌∙◌, arith}
use Rattle.std.specs.Prelude.{◌==◌, ◌&&◌, nat_lt, nat_le, slice_index, codes}
use Rattle.std.specs.List.{AllPass, list_all}
use Rattle.std.specs.Char.{is_ascii_digit}
use Rattle.std.proofs.lemmas.Bool.{ltb-true, leb-true, eqb-true, lt-ltb, le-leb, ne_eqb}
use Rattle.std.proofs.lemmas.List.Sums.{AllPass-from_list_all, list_all-from_AllPass}
use Rattle.std.proofs.lemmas.List.{get_or-append-add, length-append, nil_from_length}
use Rattle.std.proofs.Math.ListN.{drop_of_length-le}
use Rattle.fk_time.specs.Moments.{digit, two_digits}
use Rattle.fk_time.specs.Reading.{Zone, Utc, Ahead, Behind, IsZone, fraction_text, zone_text, thousandths, ahead}
use Rattle.fk_time.specs.Places.{◌>>=◌, pair, pair_at, are_digits, fraction_at, offset_start, is_utc_letter, offset_length_at, ahead_at}
use Rattle.fk_time.proofs.Pairs.{pair_is, pair_again, some_then, test_passed, both, either, same_value, listed, listed-drop}

pub fraction_again : (digits : List ℕ) → AllPass is_ascii_digit digits
    → fraction_at (fraction_text digits) ≡ Some (thousandths digits)
unfolding fraction_at
fraction_again [] h = refl
fraction_again (d ∷ ds) h =
    let all : list_all is_ascii_digit (d ∷ ds) ≡ true =
    list_all-from_AllPass is_ascii_digit (d ∷ ds) h in
    let some : nat_lt 0 (length (d ∷ ds)) ≡ true =
    lt-ltb 0 (length (d ∷ ds)) (omega arith) in
    rw (some, all) refl

-- a fraction that was read
pub record IsFraction (text : List ℕ) (n : ℕ) : Type 0 where
  pub digits : List ℕ
  pub each : AllPass is_ascii_digit digits
  pub spelled : text ≡ fraction_text digits
  pub counted : n ≡ thousandths digits

behind_point : (digits : List ℕ) → 0 < length digits → (46 ∷ digits) ≡ fraction_text digits
behind_point [] some = absurd (omega arith)
behind_point (d ∷ ds) some = refl

pub fraction_is : (text : List ℕ) (n : ℕ) → fraction_at text ≡ Some n → IsFraction text n
unfolding fraction_at
fraction_is [] n e =
    record {
      digits = [];
      each = AllPass-from_list_all is_ascii_digit [] refl;
      spelled = refl;
      counted = sym (same_value 0 n e);
    }
fraction_is (point ∷ digits) n e =
    let t = test_passed ((point == 46) && are_digits digits) (Some (thousandths digits)) n e in
    let b = both (point == 46) (are_digits digits) t.0 in
    let all = both (nat_lt 0 (length digits)) (list_all is_ascii_digit digits) b.1 in
    let is : point ≡ 46 = eqb-true point 46 b.0 in
    let spelled : (46 ∷ digits) ≡ fraction_text digits =
    behind_point digits (ltb-true 0 (length digits) all.0) in
    record {
      digits = digits;
      each = AllPass-from_list_all is_ascii_digit digits all.1;
      spelled = rw is spelled;
      counted = sym (same_value (thousandths digits) n t.1);
    }

-- hours and minutes that were read
pub record IsOffset (time : List ℕ) (n : ℕ) : Type 0 where
  pub hours : ℕ
  pub minutes : ℕ
  pub hours_in : hours ≤ 23
  pub minutes_in : minutes ≤ 59
  pub spelled : time ≡ two_digits hours ++ codes ":" ++ two_digits minutes
  pub counted : n ≡ hours * 3_600_000 + minutes * 60_000

pub offset_again : (h m : ℕ) → h ≤ 23 → m ≤ 59
    → offset_length_at (two_digits h ++ codes ":" ++ two_digits m)
    ≡ Some (h * 3_600_000 + m * 60_000)
unfolding offset_length_at
offset_again h m hs ms =
    let hours : pair (digit (h / 10)) (digit h) ≡ Some h =
    pair_again _ _ h (omega arith) refl refl in
    let minutes : pair (digit (m / 10)) (digit m) ≡ Some m =
    pair_again _ _ m (omega arith) refl refl in
    let low : nat_le h 23 ≡ true = le-leb h 23 hs in
    let high : nat_le m 59 ≡ true = le-leb m 59 ms in
    rw (hours, minutes, low, high) refl

pub offset_is : (time : List ℕ) (n : ℕ) → offset_length_at time ≡ Some n → IsOffset time n
unfolding offset_length_at listed
offset_is time n e =
    let t = test_passed ((length time == 5) && (slice_index time 2 == 58)) _ n e in
    let b = both (length time == 5) (slice_index time 2 == 58) t.0 in
    let long : length time ≡ 5 = eqb-true (length time) 5 b.0 in
    let colon : slice_index time 2 ≡ 58 = eqb-true (slice_index time 2) 58 b.1 in
    let h = some_then (pair_at time 0) _ n t.1 in
    let m = some_then (pair_at time 3) _ n h.2 in
    let g =
    test_passed (nat_le h.0 23 && nat_le m.0 59) (Some (h.0 * 3_600_000 + m.0 * 60_000)) n m.2 in
    let within = both (nat_le h.0 23) (nat_le m.0 59) g.0 in
    let hours = pair_is (slice_index time 0) (slice_index time 1) h.0 h.1 in
    let minutes = pair_is (slice_index time 3) (slice_index time 4) m.0 m.1 in
    let bytes : time ≡ listed 5 0 time ++ drop 5 time = listed-drop 5 0 5 time refl (omega arith) in
    let none : drop 5 time ≡ [] =
    let short : length time ≤ 5 = omega arith in drop_of_length-le time short in
    let whole : listed 5 0 time ++ drop 5 time ≡ two_digits h.0 ++ codes ":" ++ two_digits m.0 =
    rw none (cc (hours.1, hours.2, colon, minutes.1, minutes.2)) in
    record {
      hours = h.0;
      minutes = m.0;
      hours_in = leb-true h.0 23 within.0;
      minutes_in = leb-true m.0 59 within.1;
      spelled = bytes ∙ whole;
      counted = sym (same_value (h.0 * 3_600_000 + m.0 * 60_000) n g.1);
    }

-- an offset that was read
pub record IsAhead (text : List ℕ) (a : ℤ) : Type 0 where
  pub zone : Zone
  pub valid : IsZone zone
  pub spelled : text ≡ zone_text zone
  pub counted : a ≡ ahead zone

pub ahead_again : (zone : Zone) → IsZone zone → ahead_at (zone_text zone) ≡ Some (ahead zone)
unfolding ahead_at
ahead_again (Utc letter) (inl is) = rw is refl
ahead_again (Utc letter) (inr is) = rw is refl
ahead_again (Ahead h m) valid = rw (offset_again h m valid.0 valid.1) refl
ahead_again (Behind h m) valid = rw (offset_again h m valid.0 valid.1) refl

utc_is : (c : ℕ) → is_utc_letter c ≡ true → (c ≡ 90) ⊎ (c ≡ 122)
utc_is c e =
    elim (either (c == 90) (c == 122) e) [
      | inl z ↦ inl (eqb-true c 90 z)
      | inr z ↦ inr (eqb-true c 122 z)
    ]

utc_again : (c : ℕ) → (c ≡ 90) ⊎ (c ≡ 122) → is_utc_letter c ≡ true
utc_again c (inl e) = rw e refl
utc_again c (inr e) = rw e refl

-- a digit is no letter
digit_apart : (n : ℕ) → is_utc_letter (digit n) ≡ false
digit_apart n =
    let big : (digit n == 90) ≡ false = ne_eqb (digit n) 90 (λ e. omega arith) in
    let small : (digit n == 122) ≡ false = ne_eqb (digit n) 122 (λ e. omega arith) in
    rw (big, small) refl

-- which of three tests passed
choice : (b c d : Bool) (x y z : Option ℤ) (a : ℤ) → cond b x (cond c y (cond d z None)) ≡ Some a
    → ((b ≡ true) × (x ≡ Some a)) ⊎ (((c ≡ true) × (y ≡ Some a)) ⊎ ((d ≡ true) × (z ≡ Some a)))
choice true c d x y z a e = inl (refl, e)
choice false true d x y z a e = inr (inl (refl, e))
choice false false true x y z a e = inr (inr (refl, e))
choice false false false x y z a e = absurd cc

signed : (sign byte : ℕ) (time text : List ℕ) → sign ≡ byte → time ≡ text
    → (sign ∷ time) ≡ (byte ∷ text)
signed sign byte time text e f = cc

abbrev ahead_by : (ℕ → ℤ) → List ℕ → Option ℤ
ahead_by sign time = offset_length_at time >>= (λ n. Some (sign n))

ahead_from : (c : ℕ) (time : List ℕ) (a : ℤ)
    → (((is_utc_letter c && (length time == 0)) ≡ true) × (Some (pos 0) ≡ Some a))
    ⊎ ((((c == 43) ≡ true) × (ahead_by (λ n. pos n) time ≡ Some a))
    ⊎ (((c == 45) ≡ true) × (ahead_by (λ n. neg_ℤ (pos n)) time ≡ Some a)))
    → IsAhead (c ∷ time) a
ahead_from c time a (inl u) =
    let b = both (is_utc_letter c) (length time == 0) u.0 in
    let none : time ≡ [] = nil_from_length time (eqb-true (length time) 0 b.1) in
    record {
      zone = Utc c;
      valid = utc_is c b.0;
      spelled = signed c c time [] refl none;
      counted = sym (same_value (pos 0) a u.1);
    }
ahead_from c time a (inr (inl u)) =
    let o = some_then (offset_length_at time) (λ n. Some (pos n)) a u.1 in
    let p = offset_is time o.0 o.1 in
    record {
      zone = Ahead p.hours p.minutes;
      valid = (p.hours_in, p.minutes_in);
      spelled = signed c 43 time _ (eqb-true c 43 u.0) p.spelled;
      counted = sym (same_value (pos o.0) a o.2) ∙ ap (λ (n : ℕ). pos n) p.counted;
    }
ahead_from c time a (inr (inr u)) =
    let o = some_then (offset_length_at time) (λ n. Some (neg_ℤ (pos n))) a u.1 in
    let p = offset_is time o.0 o.1 in
    record {
      zone = Behind p.hours p.minutes;
      valid = (p.hours_in, p.minutes_in);
      spelled = signed c 45 time _ (eqb-true c 45 u.0) p.spelled;
      counted = sym (same_value (neg_ℤ (pos o.0)) a o.2) ∙ ap (λ (n : ℕ). neg_ℤ (pos n)) p.counted;
    }

pub ahead_is : (text : List ℕ) (a : ℤ) → ahead_at text ≡ Some a → IsAhead text a
unfolding ahead_at
ahead_is [] a e = absurd cc
ahead_is (c ∷ time) a e =
    ahead_from c time a
    (choice (is_utc_letter c && (length time == 0)) (c == 43) (c == 45) (Some (pos 0))
    (ahead_by (λ n. pos n) time) (ahead_by (λ n. neg_ℤ (pos n)) time) a e)

start_six : (front : List ℕ) (sign h m : ℕ)
    → offset_start (front ++ sign ∷ (two_digits h ++ codes ":" ++ two_digits m)) ≡ length front
unfolding offset_start
start_six front sign h m =
    let zone = sign ∷ (two_digits h ++ codes ":" ++ two_digits m) in
    let long : length (front ++ zone) ≡ length front + 6 = length-append front zone in
    let place : length front + 6 - 1 ≡ length front + 5 = omega arith in
    let last : get_or (front ++ zone) (length front + 5) 0 ≡ digit m =
    get_or-append-add front zone 5 0 in
    rw (long, place, last, digit_apart m) (omega arith)

-- the offset begins behind what stands before it
pub start_again : (front : List ℕ) (zone : Zone) → IsZone zone
    → offset_start (front ++ zone_text zone) ≡ length front
unfolding offset_start
start_again front (Utc letter) valid =
    let long : length (front ++ letter ∷ []) ≡ length front + 1 =
    length-append front (letter ∷ []) in
    let place : length front + 1 - 1 ≡ length front + 0 = omega arith in
    let last : get_or (front ++ letter ∷ []) (length front + 0) 0 ≡ letter =
    get_or-append-add front (letter ∷ []) 0 0 in
    rw (long, place, last, utc_again letter valid) (omega arith)
start_again front (Ahead h m) valid = start_six front 43 h m
start_again front (Behind h m) valid = start_six front 45 h m

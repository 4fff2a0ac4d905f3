-- Numbers of two digits, and the front of a text that they make up.
use Rattle.std.proofs.Common.{◌≡◌, ℕ, zero, suc, ◌+◌, ◌*◌, ◌/◌, ◌%◌, ◌<◌, ◌≤◌, ◌⊎◌, inl, inr, Bool, true, false, cond, List, [], ◌∷◌, ◌++◌, length, get_or, drop, Option, Some, None, refl, ap, subst, ◌∙◌, arith}
use Rattle.std.specs.Prelude.{◌&&◌, ◌||◌, slice_index}
use Rattle.std.proofs.lemmas.Bool.Decides.{nat_tests}
use Rattle.std.proofs.Math.Seq.{drop-cons}
use Rattle.fk_time.specs.declared.front.Front.{Front}
use Rattle.fk_time.specs.Moments.{digit}
use Rattle.fk_time.specs.Places.{◌>>=◌, pair, pair_at, has_marks, front_at}

pub pair_is : (tens ones n : ℕ) → pair tens ones ≡ Some n
    → (n < 100) × (tens ≡ digit (n / 10)) × (ones ≡ digit n)
pair_is tens ones n e = grind (arith, nat_tests)

pub pair_again : (tens ones n : ℕ) → n < 100 → tens ≡ digit (n / 10) → ones ≡ digit n
    → pair tens ones ≡ Some n
pair_again tens ones n small e f = grind (arith, nat_tests)

-- a step that gave something
pub some_then : {A B : Type 0} (o : Option A) (f : A → Option B) (y : B) → (o >>= f) ≡ Some y
    → (x : A) × (o ≡ Some x) × (f x ≡ Some y)
some_then None f y e = absurd cc
some_then (Some x) f y e = (x, refl, e)

-- a test that passed
pub test_passed : {A : Type 0} (b : Bool) (o : Option A) (y : A) → cond b o None ≡ Some y
    → (b ≡ true) × (o ≡ Some y)
test_passed true o y e = (refl, e)
test_passed false o y e = absurd cc

pub both : (a b : Bool) → (a && b) ≡ true → (a ≡ true) × (b ≡ true)
both true true e = (refl, refl)
both true false e = absurd cc
both false b e = absurd cc

pub either : (a b : Bool) → (a || b) ≡ true → (a ≡ true) ⊎ (b ≡ true)
either true b e = inl refl
either false b e = inr e

pub same_value : {A : Type 0} (x y : A) → Some x ≡ Some y → x ≡ y
same_value x y e = cc

-- the bytes from a place on, one by one
unfoldable pub listed : ℕ → ℕ → List ℕ → List ℕ
listed zero from text = []
listed (suc n) from text = get_or text from 0 ∷ listed n (suc from) text

pub listed-drop : (n from to : ℕ) (text : List ℕ) → to ≡ from + n → to ≤ length text
    → drop from text ≡ listed n from text ++ drop to text
unfolding listed
listed-drop zero from to text e long = let same : to ≡ from = omega arith in rw same refl
listed-drop (suc n) from to text e long =
    let here : from < length text = omega arith in
    let next : to ≡ suc from + n = omega arith in
    drop-cons text from 0 here ∙ ap (λ (rest : List ℕ). get_or text from 0 ∷ rest)
    (listed-drop n (suc from) to text next long)

-- a text begins with these numbers, two digits at a time
pub record Begins (text : List ℕ) (f : Front) : Type 0 where
  pub marks : has_marks text ≡ true
  pub century : pair_at text 0 ≡ Some (f.year / 100)
  pub year : pair_at text 2 ≡ Some (f.year % 100)
  pub month : pair_at text 5 ≡ Some f.month
  pub day : pair_at text 8 ≡ Some f.day
  pub hour : pair_at text 11 ≡ Some f.hour
  pub minute : pair_at text 14 ≡ Some f.minute
  pub second : pair_at text 17 ≡ Some f.second

abbrev made : ℕ → ℕ → ℕ → ℕ → ℕ → ℕ → ℕ → Front
made century year month day hour minute second =
    record {
      year = century * 100 + year;
      month = month;
      day = day;
      hour = hour;
      minute = minute;
      second = second;
    }

pub front_begins : (text : List ℕ) (f : Front) → front_at text ≡ Some f → Begins text f
unfolding front_at
front_begins text f e =
    let t = test_passed (has_marks text) _ f e in
    let a = some_then (pair_at text 0) _ f t.1 in
    let b = some_then (pair_at text 2) _ f a.2 in
    let c = some_then (pair_at text 5) _ f b.2 in
    let d = some_then (pair_at text 8) _ f c.2 in
    let h = some_then (pair_at text 11) _ f d.2 in
    let m = some_then (pair_at text 14) _ f h.2 in
    let s = some_then (pair_at text 17) _ f m.2 in
    let small : b.0 < 100 = (pair_is (slice_index text 2) (slice_index text 3) b.0 b.1).0 in
    let high : (a.0 * 100 + b.0) / 100 ≡ a.0 = omega arith in
    let low : (a.0 * 100 + b.0) % 100 ≡ b.0 = omega arith in
    let front = made a.0 b.0 c.0 d.0 h.0 m.0 s.0 in
    let numbers : Begins text front =
    record {
      marks = t.0;
      century = rw high a.1;
      year = rw low b.1;
      month = c.1;
      day = d.1;
      hour = h.1;
      minute = m.1;
      second = s.1;
    } in
    subst (λ (g : Front). Begins text g) (same_value front f s.2) numbers

pub begins_front : (text : List ℕ) (f : Front) → Begins text f → front_at text ≡ Some f
unfolding front_at
begins_front text f b =
    let whole : f.year / 100 * 100 + f.year % 100 ≡ f.year = omega arith in
    rw (b.marks, b.century, b.year, b.month, b.day, b.hour, b.minute, b.second, whole) refl

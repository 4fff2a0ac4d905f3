-- A byte, so many bytes, numbers and items of one kind are fields.
use Rattle.std.proofs.Common.{◌≡◌, ℕ, zero, suc, ◌-◌, ◌<◌, ◌≤◌, ◌^◌, Bool, true, false, List, [], ◌∷◌, ◌++◌, length, take, drop, get_or, replicate, Some, Ok, Err, refl, sym, ap, subst, ◌∙◌, arith, length-append, inl, inr}
use Rattle.std.specs.Prelude.{if◌then◌else◌, nat_lt}
use Rattle.std.specs.Int.{Width, w32, w64, byte_len, to_be_bytes, from_be_bytes}
use Rattle.std.proofs.lemmas.Bool.{cases_lt, ltb-false, ltb-true, le-ltb}
use Rattle.std.proofs.lemmas.List.{take_at, drop_at, take-append-drop, length-take, append-nil, get_or_past}
use Rattle.std.proofs.lemmas.List.Elements.{All-append}
use Rattle.std.proofs.lemmas.Nat.{be_bytes_4, be_bytes_8, from_be_bytes-to_be_bytes_4, from_be_bytes-to_be_bytes_8}
use Rattle.fk_job.specs.Spellings.{AreBytes}
use Rattle.fk_moves.specs.Fields.{Field, nothing, byte_where, read_byte, whole, so_many, first_of, rest_of, behind, times}
use Rattle.fk_moves.proofs.Aligned.{bytes_before, found, found_is}
use Rattle.fk_moves.proofs.FieldLaws.{IsField, IsStuck}
use Rattle.fk_moves.proofs.PartLaw.{Belongs, nothing_law, part_law}

-- ---- a byte

byte_found : (t : Bool) (b v n : ℕ) (rest r : List ℕ)
    → (if t then found b rest else Err n) ≡ found v r → (t ≡ true) × (b ≡ v) × (rest ≡ r)
byte_found true b v n rest r is = let same = found_is (b, rest) (v, r) is in
    (refl, ap (λ (x : ℕ × List ℕ). x.0) same, ap (λ (x : ℕ × List ℕ). x.1) same)
byte_found false b v n rest r is = absurd cc

byte_stopped : (t : Bool) (b n left : ℕ) (rest : List ℕ)
    → (if t then found b rest else Err n) ≡ Err left → (t ≡ false) × (n ≡ left)
byte_stopped true b n left rest is = absurd cc
byte_stopped false b n left rest is = (refl, cc)

byte_takes : (test : ℕ → Bool) (bytes rest : List ℕ) (v : ℕ) → AreBytes bytes → read_byte test bytes ≡ Ok (v, rest)
    → ((v < 256) × (test v ≡ true)) × (bytes ≡ v ∷ rest)
byte_takes test [] rest v all is = absurd cc
byte_takes test (b ∷ bytes) rest v all is =
    let f = byte_found (test b) b v (length (b ∷ bytes)) bytes rest is in
    ((subst (λ x. x < 256) f.1 (all 0 0 (omega arith)), ap test (sym f.1) ∙ f.0), cc)

never_both : (t : Bool) → t ≡ true → t ≡ false → ⊥
never_both t one other = absurd cc

no_byte : (test : ℕ → Bool) (a c : List ℕ) (b v : ℕ) (rest bytes : List ℕ) → test b ≡ false → test v ≡ true
    → b ∷ bytes ≡ a ++ rest → a ++ c ≡ v ∷ [] → length a ≤ 0
no_byte test [] c b v rest bytes fails passes parts begins = omega arith
no_byte test (x ∷ a) c b v rest bytes fails passes parts begins =
    let same : b ≡ v = cc in
    absurd (never_both (test v) passes (ap test (sym same) ∙ fails))

byte_stuck : (test : ℕ → Bool) (some : ℕ) (small : some < 256) (passes : test some ≡ true) (bytes : List ℕ) (left : ℕ)
    → read_byte test bytes ≡ Err left → IsStuck (byte_where test) bytes left
byte_stuck test some small passes [] left is = record {
  front = [];
  back = [];
  parts = refl;
  behind = cc;
  more = some ∷ [];
  value = some;
  has = (small, passes);
  begins = refl;
  longest = λ a b c v parts has begins. omega (arith, ap length parts, length-append a b);
}
byte_stuck test some small passes (b ∷ bytes) left is =
    let s = byte_stopped (test b) b (length (b ∷ bytes)) left bytes is in
    record {
      front = [];
      back = b ∷ bytes;
      parts = refl;
      behind = s.1;
      more = some ∷ [];
      value = some;
      has = (small, passes);
      begins = refl;
      longest = λ a rest c v parts has begins. no_byte test a c b v rest bytes s.0 has.1 parts begins;
    }

pub byte_law : (test : ℕ → Bool) (some : ℕ) → some < 256 → test some ≡ true → IsField (byte_where test)
byte_law test some small passes = record {
  takes = λ bytes rest v all is. byte_takes test bytes rest v all is;
  again = λ v rest has. rw has.1 refl;
  stuck = λ bytes left _ is. byte_stuck test some small passes bytes left is;
  some = some;
  has = (small, passes);
}

-- ---- bytes that are cut off

are_bytes : (bytes : List ℕ) → AreBytes bytes → (i : ℕ) → get_or bytes i 0 < 256
are_bytes bytes all i = elim (cases_lt i (length bytes)) [
  | inl lt ↦ all i 0 lt
  | inr le ↦ rw (get_or_past bytes i 0 le) (omega arith)
]

zeros_are_bytes : (n : ℕ) → AreBytes (replicate n 0)
zeros_are_bytes zero k d lt = absurd (omega arith)
zeros_are_bytes (suc n) zero d lt = omega arith
zeros_are_bytes (suc n) (suc k) d lt = zeros_are_bytes n k d (omega arith)

length_zeros : (n : ℕ) → length {A = ℕ} (replicate n 0) ≡ n
length_zeros zero = refl
length_zeros (suc n) = ap suc (length_zeros n)

cut_found : {T : Type 0} (t : Bool) (n : ℕ) (v w : T × List ℕ)
    → (if t then Err n else Ok v) ≡ Ok w → (t ≡ false) × (v ≡ w)
cut_found true n v w is = absurd cc
cut_found false n v w is = (refl, found_is v w is)

cut_stopped : {T : Type 0} (t : Bool) (n left : ℕ) (v : T × List ℕ)
    → (if t then Err n else Ok v) ≡ Err left → (t ≡ true) × (n ≡ left)
cut_stopped true n left v is = (refl, cc)
cut_stopped false n left v is = absurd cc

so_many_stuck : (count : ℕ) (bytes : List ℕ) (left : ℕ) → AreBytes bytes → (so_many count).read bytes ≡ Err left
    → IsStuck (so_many count) bytes left
so_many_stuck count bytes left all is =
    let s = cut_stopped (nat_lt (length bytes) count) 0 left (take count bytes, drop count bytes) is in
    let short : length bytes < count = ltb-true _ _ s.0 in
    let tail : List ℕ = replicate (count - length bytes) 0 in
    record {
      front = bytes;
      back = [];
      parts = sym (append-nil bytes);
      behind = s.1;
      more = tail;
      value = bytes ++ tail;
      has = (
        All-append (λ byte. byte < 256) bytes tail all (zeros_are_bytes (count - length bytes)),
        omega (arith, length-append bytes tail, length_zeros (count - length bytes)),
      );
      begins = refl;
      longest = λ a b c v parts has begins. omega (arith, ap length parts, length-append a b);
    }

pub so_many_law : (count : ℕ) → IsField (so_many count)
so_many_law count = record {
  takes = λ bytes rest v all is.
      let f = cut_found (nat_lt (length bytes) count) 0 (take count bytes, drop count bytes) (v, rest) is in
      let long : count ≤ length bytes = ltb-false _ _ f.0 in
      let front : take count bytes ≡ v = ap (λ (x : List ℕ × List ℕ). x.0) f.1 in
      let back : drop count bytes ≡ rest = ap (λ (x : List ℕ × List ℕ). x.1) f.1 in
      let parts : bytes ≡ v ++ rest = sym (take-append-drop count bytes) ∙ ap (λ x. x ++ drop count bytes) front ∙ ap (λ x. v ++ x) back in
      ((bytes_before v rest (subst AreBytes parts all), omega (arith, length-take count bytes, ap length front)), parts);
  again = λ v rest has.
      let long : nat_lt (length (v ++ rest)) count ≡ false = le-ltb _ _ (omega (arith, length-append v rest, has.1)) in
      rw (long, take_at v rest count has.1, drop_at v rest count has.1) refl;
  stuck = λ bytes left all is. so_many_stuck count bytes left all is;
  some = replicate count 0;
  has = (zeros_are_bytes count, length_zeros count);
}

-- ---- numbers of a width

pub record IsWide (w : Width) : Type 0 where
  pub len : (n : ℕ) → length (to_be_bytes w n) ≡ byte_len w
  pub back : (bytes : List ℕ) → length bytes ≡ byte_len w → AreBytes bytes
      → to_be_bytes w (from_be_bytes w bytes) ≡ bytes
  pub again : (n : ℕ) → n < 256 ^ byte_len w → from_be_bytes w (to_be_bytes w n) ≡ n
  pub below : (bytes : List ℕ) → AreBytes bytes → from_be_bytes w bytes < 256 ^ byte_len w

pub wide32 : IsWide w32
wide32 = record {
  len = λ n. refl;
  back = λ bytes len all. be_bytes_4 bytes _ len (are_bytes bytes all) refl;
  again = λ n lt. from_be_bytes-to_be_bytes_4 n lt;
  below = λ bytes all. let small = are_bytes bytes all in omega (arith, small 0, small 1, small 2, small 3);
}

pub wide64 : IsWide w64
wide64 = record {
  len = λ n. refl;
  back = λ bytes len all. be_bytes_8 bytes _ len (are_bytes bytes all) refl;
  again = λ n lt. from_be_bytes-to_be_bytes_8 n lt;
  below = λ bytes all. let small = are_bytes bytes all in
      omega (arith, small 0, small 1, small 2, small 3, small 4, small 5, small 6, small 7);
}

whole_law : (w : Width) → IsWide w → IsField (whole w)
whole_law w wide = record {
  takes = λ bytes rest v all is.
      let n = byte_len w in
      let f = cut_found (nat_lt (length bytes) n) 0 (from_be_bytes w (take n bytes), drop n bytes) (v, rest) is in
      let long : n ≤ length bytes = ltb-false _ _ f.0 in
      let front : from_be_bytes w (take n bytes) ≡ v = ap (λ (x : ℕ × List ℕ). x.0) f.1 in
      let back : drop n bytes ≡ rest = ap (λ (x : ℕ × List ℕ). x.1) f.1 in
      let cut : AreBytes (take n bytes) = bytes_before (take n bytes) (drop n bytes) (subst AreBytes (sym (take-append-drop n bytes)) all) in
      let spelled : take n bytes ≡ to_be_bytes w v = sym (wide.back (take n bytes) (omega (arith, length-take n bytes)) cut) ∙ ap (λ x. to_be_bytes w x) front in (
        subst (λ x. x < 256 ^ byte_len w) front (wide.below (take n bytes) cut),
        sym (take-append-drop n bytes) ∙ ap (λ x. x ++ drop n bytes) spelled ∙ ap (λ x. to_be_bytes w v ++ x) back,
      );
  again = λ v rest has.
      let n = byte_len w in
      let spelled = to_be_bytes w v in
      let long : nat_lt (length (spelled ++ rest)) n ≡ false = le-ltb _ _ (omega (arith, length-append spelled rest, wide.len v)) in
      rw (long, take_at spelled rest n (wide.len v), drop_at spelled rest n (wide.len v), wide.again v has) refl;
  stuck = λ bytes left all is.
      let n = byte_len w in
      let s = cut_stopped (nat_lt (length bytes) n) 0 left (from_be_bytes w (take n bytes), drop n bytes) is in
      let short : length bytes < n = ltb-true _ _ s.0 in
      let tail : List ℕ = replicate (n - length bytes) 0 in
      let joined : AreBytes (bytes ++ tail) = All-append (λ byte. byte < 256) bytes tail all (zeros_are_bytes (n - length bytes)) in
      let len : length (bytes ++ tail) ≡ n = omega (arith, length-append bytes tail, length_zeros (n - length bytes)) in
      record {
        front = bytes;
        back = [];
        parts = sym (append-nil bytes);
        behind = s.1;
        more = tail;
        value = from_be_bytes w (bytes ++ tail);
        has = wide.below (bytes ++ tail) joined;
        begins = sym (wide.back (bytes ++ tail) len joined);
        longest = λ a b c v parts has begins. omega (arith, ap length parts, length-append a b);
      };
  some = from_be_bytes w (replicate (byte_len w) 0);
  has = wide.below (replicate (byte_len w) 0) (zeros_are_bytes (byte_len w));
}

pub word_law : IsField (whole w64)
word_law = whole_law w64 wide64

pub count_law : IsField (whole w32)
count_law = whole_law w32 wide32

-- ---- items of one kind

behind_belongs : {A : Type 0} (first : A) (others : Field (List A)) → Belongs rest_of others (λ items. nothing (first ∷ items))
behind_belongs first others items v has is = ap rest_of is

pub behind_law : {A : Type 0} (first : A) (others : Field (List A)) → IsField others → IsField (behind first others)
behind_law first others law =
    part_law rest_of others (λ items. nothing (first ∷ items)) law (λ items _. nothing_law (first ∷ items)) (behind_belongs first others)

-- what stands behind a first item has it
pub first_belongs : {A : Type 0} (first : A) (others : Field (List A)) (v : List A) → (behind first others).Has v
    → first_of v ≡ Some first
first_belongs first others [] has = absurd has
first_belongs first others (x ∷ v) has = ap first_of has.1

pub times_law : {A : Type 0} (field : Field A) (count : ℕ) → IsField field → IsField (times field count)
unfolding times
times_law field zero law = nothing_law []
times_law field (suc count) law =
    part_law first_of field (λ first. behind first (times field count)) law
    (λ first _. behind_law first (times field count) (times_law field count law))
    (λ first v _ has. first_belongs first (times field count) v has)

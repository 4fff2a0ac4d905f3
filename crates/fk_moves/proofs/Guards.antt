-- A number whose bytes are those of another field is a field.
use Rattle.std.proofs.Common.{◌≡◌, ℕ, ◌<◌, ◌≤◌, ◌^◌, List, [], ◌∷◌, ◌++◌, length, Result, Ok, Err, refl, sym, ap, subst, ◌∙◌, arith, length-append, inl, inr}
use Rattle.std.specs.Int.{w64, from_be_bytes}
use Rattle.std.proofs.lemmas.List.{append-nil, nil_from_length}
use Rattle.std.proofs.lemmas.Nat.{from_be_bytes-to_be_bytes_8}
use Rattle.fk_job.specs.Spellings.{AreBytes}
use Rattle.fk_moves.specs.Spelling.{word_bytes}
use Rattle.fk_moves.specs.Fields.{Field, ◌>>=◌, within}
use Rattle.fk_moves.specs.Parts.{word, count, guarded, between}
use Rattle.fk_moves.proofs.Aligned.{aligned, found_both, stopped_at}
use Rattle.fk_moves.proofs.FieldLaws.{IsField, IsStuck}
use Rattle.fk_moves.proofs.PartLaw.{never_both}
use Rattle.fk_moves.proofs.ByteLaws.{word_law, count_law, wide64}
use Rattle.fk_moves.proofs.Bounds.{AreSoMany, AreBounds, more_are, same_are, within_law, has_bounds, bounds_has, value, up_to_value, value_up_to}

pub same_front : (a b c d : List ℕ) → a ++ b ≡ c ++ d → length a ≡ length c → a ≡ c
same_front a b c d is len =
    let more = aligned a b c d is (omega (arith, len)) in
    let none : more.0 ≡ [] = nil_from_length more.0 (omega (arith, ap length more.1, len, length-append a more.0)) in
    sym (more.1 ∙ ap (λ (x : List ℕ). a ++ x) none ∙ append-nil a)

-- what bytes and numbers have to do with each other
pub record Fit (bytes : Field (List ℕ)) (number : Field ℕ) (k : ℕ) : Type 0 where
  pub wide : (n : ℕ) → number.Has n → length (number.spelled n) ≡ k
  pub plain : (x : List ℕ) → bytes.Has x → bytes.spelled x ≡ x
  pub long : (x : List ℕ) → bytes.Has x → length x ≡ k
  pub each : (x : List ℕ) → bytes.Has x → (n : ℕ) × number.Has n × (number.spelled n ≡ x)

guarded_stuck : (bytes : Field (List ℕ)) (number : Field ℕ) (k : ℕ) → IsField bytes → IsField number → Fit bytes number k
    → (text : List ℕ) (left : ℕ) → AreBytes text → (guarded bytes number).read text ≡ Err left
    → IsStuck (guarded bytes number) text left
guarded_stuck bytes number k one two fit text left all is =
    elim (stopped_at (bytes.read text) (λ _. number.read text) left is) [
      | inl at_once ↦
          let s = one.stuck text left all at_once in
          let e = fit.each s.value s.has in
          record {
            front = s.front;
            back = s.back;
            parts = s.parts;
            behind = s.behind;
            more = s.more;
            value = e.0;
            has = (e.1, subst bytes.Has (sym e.2) s.has);
            begins = s.begins ∙ fit.plain s.value s.has ∙ sym e.2;
            longest = λ a b c v parts has begins.
                s.longest a b c (number.spelled v) parts has.1 (begins ∙ sym (fit.plain (number.spelled v) has.1));
          }
      | inr later ↦
          let x = later.0 in
          let first = one.takes text x.1 x.0 all later.1 in
          let e = fit.each x.0 first.0 in
          let whole : text ≡ number.spelled e.0 ++ x.1 = first.1 ∙ ap (λ (b : List ℕ). b ++ x.1) (fit.plain x.0 first.0 ∙ sym e.2) in
          absurd (never_both (number.read text) left (e.0, x.1) later.2 (ap number.read whole ∙ two.again e.0 x.1 e.1))
    ]

pub guarded_law : (bytes : Field (List ℕ)) (number : Field ℕ) (k : ℕ) → IsField bytes → IsField number → Fit bytes number k
    → IsField (guarded bytes number)
guarded_law bytes number k one two fit = let e = fit.each one.some one.has in record {
  takes = λ text rest v all is.
      let both = found_both (bytes.read text) (λ _. number.read text) (v, rest) is in
      let x = both.0 in
      let first = one.takes text x.1 x.0 all both.1 in
      let second = two.takes text rest v all both.2 in
      let same : number.spelled v ≡ x.0 = same_front (number.spelled v) rest x.0 x.1
      (sym second.1 ∙ first.1 ∙ ap (λ (b : List ℕ). b ++ x.1) (fit.plain x.0 first.0)) (fit.wide v second.0 ∙ sym (fit.long x.0 first.0)) in
      ((second.0, subst bytes.Has (sym same) first.0), second.1);
  again = λ v rest has.
      let spelled = number.spelled v in
      let first : bytes.read (spelled ++ rest) ≡ Ok (spelled, rest)
      = ap (λ (b : List ℕ). bytes.read (b ++ rest)) (sym (fit.plain spelled has.1)) ∙ one.again spelled rest has.1 in
      ap (λ (r : Result (List ℕ × List ℕ) ℕ). r >>= λ _. number.read (spelled ++ rest)) first ∙ two.again v rest has.0;
  stuck = λ text left all is. guarded_stuck bytes number k one two fit text left all is;
  some = e.0;
  has = (e.1, subst bytes.Has (sym e.2) one.has);
}

-- ---- numbers of 64 bits within bounds

pub word_field : IsField word
unfolding word
word_field = word_law

pub count_field : IsField count
unfolding count
count_field = count_law

pub word_are : (n : ℕ) → AreSoMany 8 (word_bytes n)
unfolding word_bytes
word_are n =
    more_are 7 _ _ (omega arith) (more_are 6 _ _ (omega arith) (more_are 5 _ _ (omega arith) (more_are 4 _ _ (omega arith)
    (more_are 3 _ _ (omega arith) (more_are 2 _ _ (omega arith) (more_are 1 _ _ (omega arith) (more_are 0 _ _ (omega arith) (same_are 0 0 (omega arith)))))))))

value_8 : (a b c d e f g h : ℕ) → value 0 (a ∷ b ∷ c ∷ d ∷ e ∷ f ∷ g ∷ h ∷ []) ≡ from_be_bytes w64 (a ∷ b ∷ c ∷ d ∷ e ∷ f ∷ g ∷ h ∷ [])
value_8 a b c d e f g h = omega arith

pub word_value : (n : ℕ) → n < 2 ^ 64 → value 0 (word_bytes n) ≡ n
unfolding word_bytes
word_value n lt = value_8 _ _ _ _ _ _ _ _ ∙ from_be_bytes-to_be_bytes_8 n lt

word_bounds : (least most : ℕ) → least ≤ most → most < 2 ^ 64 → AreBounds 8 (word_bytes least) (word_bytes most)
word_bounds least most le lt = record {
  least_are = word_are least;
  most_are = word_are most;
  up_to = value_up_to 8 0 _ _ (word_are least) (word_are most) (omega (arith, word_value least (omega arith), word_value most lt, le));
}

-- eight bytes are those of a number
pub word_of : (x : List ℕ) → AreSoMany 8 x → (n : ℕ) × word.Has n × (word.spelled n ≡ x)
unfolding word
word_of x are = (from_be_bytes w64 x, wide64.below x are.small, wide64.back x are.so_many are.small)

word_fit : (least most : ℕ) → Fit (within 8 (word_bytes least) (word_bytes most)) word 8
unfolding word
word_fit least most = record {
  wide = λ n _. refl;
  plain = λ x has. (has_bounds 8 _ _ x (word_are least) (word_are most) has).1;
  long = λ x has. (has_bounds 8 _ _ x (word_are least) (word_are most) has).0.are.so_many;
  each = λ x has. word_of x (has_bounds 8 _ _ x (word_are least) (word_are most) has).0.are;
}

pub between_law : (least most : ℕ) → least ≤ most → most < 2 ^ 64 → IsField (between least most)
unfolding between
between_law least most le lt =
    guarded_law (within 8 (word_bytes least) (word_bytes most)) word 8
    (within_law 8 _ _ (word_bounds least most le lt)) word_field (word_fit least most)

pub between_has : (least most n : ℕ) → least ≤ n → n ≤ most → most < 2 ^ 64 → (between least most).Has n
unfolding between word word_bytes
between_has least most n low high lt = (
  omega arith,
  bounds_has 8 _ _ _ (word_are least) (word_are most) (record {
    are = word_are n;
    above = value_up_to 8 0 _ _ (word_are least) (word_are n) (omega (arith, word_value least (omega arith), word_value n (omega arith)));
    below = value_up_to 8 0 _ _ (word_are n) (word_are most) (omega (arith, word_value most lt, word_value n (omega arith)));
  }),
)

pub has_between : (least most n : ℕ) → least ≤ most → most < 2 ^ 64 → (between least most).Has n → (least ≤ n) × (n ≤ most)
unfolding between word word_bytes
has_between least most n le lt has =
    let small : n < 2 ^ 64 = has.0 in
    let b = (has_bounds 8 _ _ _ (word_are least) (word_are most) has.1).0 in (
      omega (arith, up_to_value 8 0 _ _ (word_are least) (word_are n) b.above, word_value least (omega arith), word_value n small),
      omega (arith, up_to_value 8 0 _ _ (word_are n) (word_are most) b.below, word_value most lt, word_value n small),
    )

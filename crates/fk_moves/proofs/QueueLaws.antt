-- The name of a queue, and how often a job is tried again, are fields.
use Rattle.std.proofs.Common.{◌≡◌, ℕ, ◌+◌, ◌-◌, ◌*◌, ◌<◌, ◌≤◌, ◌^◌, ◌/◌, ◌%◌, Bool, true, false, ℤ, pos, ◌≤ℤ◌, List, [], ◌∷◌, ◌++◌, length, drop, replicate, Some, Fits, refl, sym, ap, subst, ◌∙◌, arith, ◌⊎◌, inl, inr}
use Rattle.std.specs.Prelude.{FitsSigned, neg_ℤ, nat_le, ◌==◌, ◌||◌, if◌then◌else◌}
use Rattle.std.specs.Int.{w32, w64, to_be_bytes, from_be_bytes, cast_signed, cast_unsigned}
use Rattle.std.specs.List.{flat_map}
use Rattle.std.proofs.lemmas.Int.{of_z-to_z, to_z-of_z, ints}
use Rattle.std.proofs.Math.Facts.{sfits_to_z}
use Rattle.std.proofs.lemmas.Bool.{cases_lt}
use Rattle.std.proofs.lemmas.Nat.{from_be_bytes-to_be_bytes_4, from_be_bytes-to_be_bytes_8}
use Rattle.std.proofs.lemmas.List.{append-nil}
use Rattle.std.proofs.lemmas.Bool.Decides.{nat_tests, eqb_tells}
use Rattle.fk_job.specs.Fields.{is_queue_byte}
use Rattle.fk_job.specs.Spellings.{IsQueueName, IsText}
use Rattle.fk_moves.specs.Spelling.{text_bytes, count_bytes, signed_bytes}
use Rattle.fk_moves.specs.Fields.{nothing, byte_where, times, within, first_of}
use Rattle.fk_moves.specs.Parts.{word, count, guarded, some_count, behind_sign, retry_bytes, retry, queue}
use Rattle.fk_moves.proofs.FieldLaws.{IsField}
use Rattle.fk_moves.proofs.PartLaw.{nothing_law, part_law}
use Rattle.fk_moves.proofs.ByteLaws.{byte_law, times_law, behind_law, first_belongs, wide32}
use Rattle.fk_moves.proofs.Bounds.{AreSoMany, UpTo, more_are, same_are, least_are, most_are, within_law, has_bounds, bounds_has, value, up_to_value, value_up_to}
use Rattle.fk_moves.proofs.Guards.{Fit, guarded_law, word_field, count_field, word_of}
use Rattle.fk_moves.proofs.NamedLaws.{times_long, times_has, has_times, times_spelled}

-- ---- how many there are, one at least

count_are : (n : ℕ) → AreSoMany 4 (to_be_bytes w32 n)
count_are n = more_are 3 _ _ (omega arith) (more_are 2 _ _ (omega arith) (more_are 1 _ _ (omega arith) (more_are 0 _ _ (omega arith) (same_are 0 0 (omega arith)))))

value_4 : (a b c d : ℕ) → value 0 (a ∷ b ∷ c ∷ d ∷ []) ≡ from_be_bytes w32 (a ∷ b ∷ c ∷ d ∷ [])
value_4 a b c d = omega arith

count_value : (n : ℕ) → n < 2 ^ 32 → value 0 (to_be_bytes w32 n) ≡ n
count_value n lt = value_4 _ _ _ _ ∙ from_be_bytes-to_be_bytes_4 n lt

abbrev one_count : List ℕ
one_count = 0 ∷ 0 ∷ 0 ∷ 1 ∷ []

one_are : AreSoMany 4 one_count
one_are = more_are 3 _ _ (omega arith) (more_are 2 _ _ (omega arith) (more_are 1 _ _ (omega arith) (more_are 0 _ _ (omega arith) (same_are 0 0 (omega arith)))))

abbrev top_count : List ℕ
top_count = replicate 4 255

top_are : AreSoMany 4 top_count
top_are = same_are 4 255 (omega arith)

count_fit : Fit (within 4 one_count top_count) count 4
unfolding count
count_fit = record {
  wide = λ n _. refl;
  plain = λ x has. (has_bounds 4 _ _ x one_are top_are has).1;
  long = λ x has. (has_bounds 4 _ _ x one_are top_are has).0.are.so_many;
  each = λ x has. let are = (has_bounds 4 _ _ x one_are top_are has).0.are in
      (from_be_bytes w32 x, wide32.below x are.small, wide32.back x are.so_many are.small);
}

some_count_law : IsField some_count
unfolding some_count
some_count_law = guarded_law (within 4 one_count top_count) count 4
    (within_law 4 _ _ (record { least_are = one_are; most_are = top_are; up_to = most_are 4 one_count one_are })) count_field count_fit

some_count_has : (n : ℕ) → 0 < n → n < 2 ^ 32 → some_count.Has n
unfolding some_count count
some_count_has n some lt = (
  lt,
  bounds_has 4 _ _ _ one_are top_are (record {
    are = count_are n;
    above = value_up_to 4 0 _ _ one_are (count_are n) (omega (arith, count_value n lt));
    below = most_are 4 _ (count_are n);
  }),
)

has_some_count : (n : ℕ) → some_count.Has n → (0 < n) × (n < 2 ^ 32)
unfolding some_count count
has_some_count n has =
    let b = (has_bounds 4 _ _ _ one_are top_are has.1).0 in
    (omega (arith, up_to_value 4 0 _ _ one_are (count_are n) b.above, count_value n has.0), has.0)

-- ---- the name of a queue

pub queue_law : IsField queue
unfolding queue
queue_law = part_law (λ (bytes : List ℕ). Some (length bytes)) some_count (times (byte_where is_queue_byte)) some_count_law
    (λ n _. times_law (byte_where is_queue_byte) n (byte_law is_queue_byte 45 (omega arith) refl))
    (λ n v _ has. ap (λ (k : ℕ). Some k) (times_long (byte_where is_queue_byte) n v has))

pub queue_has : (v : List ℕ) → IsText v → IsQueueName v → queue.Has v
unfolding queue
queue_has v is named = (
  some_count_has (length v) named.some is.short,
  times_has (byte_where is_queue_byte) v (λ k d lt. (is.bytes k d lt, named.plain k d lt)),
)

pub has_queue : (v : List ℕ) → queue.Has v → IsText v × IsQueueName v
unfolding queue
has_queue v has =
    let n = has_some_count (length v) has.0 in
    let all = has_times (byte_where is_queue_byte) (length v) v has.1 in
    (record { bytes = λ k d lt. (all k d lt).0; short = n.1 }, record { some = n.0; plain = λ k d lt. (all k d lt).1 })

singles : (v : List ℕ) → flat_map (λ b. b ∷ []) v ≡ v
singles [] = refl
singles (b ∷ v) = ap (λ (x : List ℕ). b ∷ x) (singles v)

pub queue_spelled : (v : List ℕ) → queue.spelled v ≡ text_bytes v
unfolding queue some_count count count_bytes
queue_spelled v = ap (λ (b : List ℕ). to_be_bytes w32 (length v) ++ b)
    (times_spelled (byte_where is_queue_byte) (λ b. b ∷ []) v (λ b. refl) ∙ singles v)

-- ---- how often a job is tried again

abbrev starts : ℕ → Bool
starts byte = nat_le byte 127 || (byte == 255)

abbrev low_7 : ℕ → List ℕ
low_7 first = replicate 7 (if first == 255 then 255 else 0)

low_7_are : (first : ℕ) → AreSoMany 7 (low_7 first)
low_7_are first = elim (eqb_tells first 255) [
  | inl e ↦ rw e.0 (same_are 7 255 (omega arith))
  | inr e ↦ rw e.0 (same_are 7 0 (omega arith))
]

top_7_are : AreSoMany 7 (replicate 7 255)
top_7_are = same_are 7 255 (omega arith)

behind_sign_law : (first : ℕ) → IsField (behind_sign first)
behind_sign_law first = behind_law first (within 7 (low_7 first) (replicate 7 255)) (within_law 7 _ _ (record {
  least_are = low_7_are first;
  most_are = top_7_are;
  up_to = most_are 7 (low_7 first) (low_7_are first);
}))

retry_bytes_law : IsField retry_bytes
unfolding retry_bytes
retry_bytes_law = part_law first_of (byte_where starts) behind_sign (byte_law starts 0 (omega arith) refl)
    (λ first _. behind_sign_law first) (λ first v _ has. first_belongs first (within 7 (low_7 first) (replicate 7 255)) v has)

record SignLies (x : List ℕ) : Type 0 where
  pub are : AreSoMany 8 x
  pub same : retry_bytes.spelled x ≡ x

sign_lies : (x : List ℕ) → retry_bytes.Has x → SignLies x
unfolding retry_bytes
sign_lies [] has = absurd has
sign_lies (b ∷ x) has =
    let sub = has_bounds 7 _ _ x (low_7_are b) top_7_are has.1.0 in
    record { are = more_are 7 b x has.0.0 sub.0.are; same = ap (λ (l : List ℕ). b ∷ l) (append-nil _ ∙ sub.1) }

retry_fit : Fit retry_bytes word 8
unfolding word
retry_fit = record {
  wide = λ n _. refl;
  plain = λ x has. (sign_lies x has).same;
  long = λ x has. (sign_lies x has).are.so_many;
  each = λ x has. word_of x (sign_lies x has).are;
}

retry_belongs : (n : ℕ) (v : ℤ) → (guarded retry_bytes word).Has n → (nothing (cast_signed w64 n)).Has v → Some (cast_unsigned w64 v) ≡ Some n
unfolding word
retry_belongs n v has is = ap (λ (z : ℤ). Some (cast_unsigned w64 z)) is ∙ ap (λ (k : ℕ). Some k) (of_z-to_z w64 n has.0)

pub retry_law : IsField retry
unfolding retry
retry_law = part_law (λ (z : ℤ). Some (cast_unsigned w64 z)) (guarded retry_bytes word) (λ n. nothing (cast_signed w64 n))
    (guarded_law retry_bytes word 8 retry_bytes_law word_field retry_fit) (λ n _. nothing_law (cast_signed w64 n)) retry_belongs

pub retry_spelled : (z : ℤ) → retry.spelled z ≡ signed_bytes z
unfolding retry word signed_bytes
retry_spelled z = append-nil (to_be_bytes w64 (cast_unsigned w64 z))

-- the bytes of a number behind the first
abbrev low_bytes : ℕ → List ℕ
low_bytes n = drop 1 (to_be_bytes w64 n)

low_are : (n : ℕ) → AreSoMany 7 (low_bytes n)
low_are n =
    more_are 6 _ _ (omega arith) (more_are 5 _ _ (omega arith) (more_are 4 _ _ (omega arith)
    (more_are 3 _ _ (omega arith) (more_are 2 _ _ (omega arith) (more_are 1 _ _ (omega arith) (more_are 0 _ _ (omega arith) (same_are 0 0 (omega arith))))))))

value_7 : (a b c d e f g h : ℕ)
    → a * 2 ^ 56 + value 0 (b ∷ c ∷ d ∷ e ∷ f ∷ g ∷ h ∷ []) ≡ from_be_bytes w64 (a ∷ b ∷ c ∷ d ∷ e ∷ f ∷ g ∷ h ∷ [])
value_7 a b c d e f g h = omega arith

low_value : (n : ℕ) → n < 2 ^ 64 → n / 2 ^ 56 % 256 * 2 ^ 56 + value 0 (low_bytes n) ≡ n
low_value n lt = value_7 _ _ _ _ _ _ _ _ ∙ from_be_bytes-to_be_bytes_8 n lt

-- eight bytes of a number below 2^63 may stand for how often a job is tried again
small_has : (n : ℕ) → n < 2 ^ 63 → retry_bytes.Has (to_be_bytes w64 n)
unfolding retry_bytes
small_has n lt =
    let first : n / 2 ^ 56 % 256 ≤ 127 = omega arith in
    let starts_so : starts (n / 2 ^ 56 % 256) ≡ true = grind (arith, nat_tests) in
    let other : (n / 2 ^ 56 % 256 == 255) ≡ false = grind (arith, nat_tests) in
    let above : UpTo (low_7 (n / 2 ^ 56 % 256)) (low_bytes n) = rw other (least_are 7 (low_bytes n) (low_are n)) in (
      (omega arith, starts_so),
      (
        bounds_has 7 (low_7 (n / 2 ^ 56 % 256)) (replicate 7 255) (low_bytes n) (low_7_are (n / 2 ^ 56 % 256)) top_7_are
            (record { are = low_are n; above = above; below = most_are 7 (low_bytes n) (low_are n) }),
        refl,
      ),
    )

-- and so may those of -1
top_has : retry_bytes.Has (to_be_bytes w64 (2 ^ 64 - 1))
unfolding retry_bytes
top_has = (
  (omega arith, refl),
  (
    bounds_has 7 (replicate 7 255) (replicate 7 255) (replicate 7 255) top_7_are top_7_are
        (record { are = top_7_are; above = most_are 7 (replicate 7 255) top_7_are; below = most_are 7 (replicate 7 255) top_7_are }),
    refl,
  ),
)

first_small : (b : ℕ) → starts b ≡ true → (b == 255) ≡ false → b ≤ 127
first_small b one other = grind (arith, nat_tests)

lower_above : (n : ℕ) → n < 2 ^ 63 → neg_ℤ (pos 1) ≤ℤ cast_signed w64 n
lower_above n lt = omega (arith, ints)

top_above : neg_ℤ (pos 1) ≤ℤ cast_signed w64 (2 ^ 64 - 1)
top_above = omega (arith, ints)

lower_or_top : (z : ℤ) → neg_ℤ (pos 1) ≤ℤ z → FitsSigned w64 z → (cast_unsigned w64 z < 2 ^ 63) ⊎ (cast_unsigned w64 z ≡ 2 ^ 64 - 1)
lower_or_top z least fits = elim (cases_lt (cast_unsigned w64 z) (2 ^ 63)) [
  | inl lt ↦ inl lt
  | inr le ↦ inr (omega (arith, ints))
]

-- of such bytes the number is below 2^63 or the greatest
which_number : (n : ℕ) → n < 2 ^ 64 → retry_bytes.Has (to_be_bytes w64 n) → (n < 2 ^ 63) ⊎ (n ≡ 2 ^ 64 - 1)
unfolding retry_bytes
which_number n lt has =
    let b = n / 2 ^ 56 % 256 in
    let lies = (has_bounds 7 (low_7 b) (replicate 7 255) (low_bytes n) (low_7_are b) top_7_are has.1.0).0 in
    let whole = low_value n lt in
    elim (eqb_tells b 255) [
      | inl e ↦
          let up : UpTo (replicate 7 255) (low_bytes n) = rw e.0 at lies.above in
          let most = up_to_value 7 0 (replicate 7 255) (low_bytes n) top_7_are lies.are up in
          inr (omega (arith, e.1, most, whole))
      | inr e ↦
          let first : b ≤ 127 = first_small b has.0.1 e.0 in
          inl (omega (arith, first))
    ]

pub retry_has : (z : ℤ) → neg_ℤ (pos 1) ≤ℤ z → FitsSigned w64 z → retry.Has z
unfolding retry word
retry_has z least fits =
    let n = cast_unsigned w64 z in
    let again : z ≡ cast_signed w64 n = sym (to_z-of_z w64 z fits) in
    elim (lower_or_top z least fits) [
      | inl lt ↦ ((omega (arith, lt), small_has n lt), again)
      | inr top ↦ ((omega (arith, top), subst (λ (k : ℕ). retry_bytes.Has (to_be_bytes w64 k)) (sym top) top_has), again)
    ]

pub has_retry : (z : ℤ) → retry.Has z → (neg_ℤ (pos 1) ≤ℤ z) × FitsSigned w64 z
unfolding retry word
has_retry z has =
    let n = cast_unsigned w64 z in
    let small : n < 2 ^ 64 = has.0.0 in
    let room : Fits w64 n = omega arith in (
      subst (λ (x : ℤ). neg_ℤ (pos 1) ≤ℤ x) (sym has.1) (elim (which_number n small has.0.1) [
        | inl lt ↦ lower_above n lt
        | inr top ↦ subst (λ (k : ℕ). neg_ℤ (pos 1) ≤ℤ cast_signed w64 k) (sym top) top_above
      ]),
      subst (λ (x : ℤ). FitsSigned w64 x) (sym has.1) (sfits_to_z {w = w64} {n = n} room),
    )

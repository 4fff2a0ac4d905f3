-- Bytes in the order of numbers, and the field of those between two others.
use Rattle.std.proofs.Common.{◌≡◌, ℕ, zero, suc, ◌+◌, ◌*◌, ◌<◌, ◌≤◌, Bool, true, List, [], ◌∷◌, length, replicate, refl, sym, ap, subst, ◌∙◌, arith, ◌⊎◌, inl, inr}
use Rattle.std.specs.Prelude.{if◌then◌else◌, nat_le, ◌==◌, ◌&&◌}
use Rattle.std.proofs.lemmas.Bool.{cases_lt}
use Rattle.std.proofs.lemmas.List.{append-nil}
use Rattle.std.proofs.lemmas.Bool.Decides.{nat_tests, eqb_tells}
use Rattle.fk_job.specs.Spellings.{AreBytes}
use Rattle.fk_moves.specs.Fields.{byte_where, first_of, behind, within}
use Rattle.fk_moves.proofs.FieldLaws.{IsField}
use Rattle.fk_moves.proofs.PartLaw.{nothing_law, part_law}
use Rattle.fk_moves.proofs.ByteLaws.{byte_law, behind_law, first_belongs}

-- bytes up to others of the same number, the first of them first
abbrev pub UpTo : List ℕ → List ℕ → Type 0
UpTo [] ys = Unit {0}
UpTo (x ∷ xs) [] = ⊥
UpTo (x ∷ xs) (y ∷ ys) = (x < y) ⊎ ((x ≡ y) × UpTo xs ys)

-- so many bytes
pub record AreSoMany (count : ℕ) (bytes : List ℕ) : Type 0 where
  pub small : AreBytes bytes
  pub so_many : length bytes ≡ count

all_more : (b : ℕ) (bytes : List ℕ) → b < 256 → AreBytes bytes → AreBytes (b ∷ bytes)
all_more b bytes small all zero d lt = small
all_more b bytes small all (suc k) d lt = all k d (omega arith)

pub rest_are : (count byte : ℕ) (bytes : List ℕ) → AreSoMany (suc count) (byte ∷ bytes) → AreSoMany count bytes
rest_are count byte bytes all = record {
  small = λ k d lt. all.small (suc k) d (omega arith);
  so_many = omega (arith, all.so_many);
}

pub more_are : (count byte : ℕ) (bytes : List ℕ) → byte < 256 → AreSoMany count bytes → AreSoMany (suc count) (byte ∷ bytes)
more_are count byte bytes small all = record {
  small = all_more byte bytes small all.small;
  so_many = ap suc all.so_many;
}

pub same_are : (count byte : ℕ) → byte < 256 → AreSoMany count (replicate count byte)
same_are zero byte small = record { small = λ k d lt. absurd (omega arith); so_many = refl }
same_are (suc count) byte small = more_are count byte (replicate count byte) small (same_are count byte small)

pub least_are : (count : ℕ) (xs : List ℕ) → AreSoMany count xs → UpTo (replicate count 0) xs
least_are zero xs all = tt
least_are (suc count) [] all = absurd (omega (arith, all.so_many))
least_are (suc count) (zero ∷ xs) all = inr (refl, least_are count xs (rest_are count 0 xs all))
least_are (suc count) (suc x ∷ xs) all = inl (omega arith)

pub most_are : (count : ℕ) (xs : List ℕ) → AreSoMany count xs → UpTo xs (replicate count 255)
most_are zero [] all = tt
most_are zero (x ∷ xs) all = absurd (omega (arith, all.so_many))
most_are (suc count) [] all = absurd (omega (arith, all.so_many))
most_are (suc count) (x ∷ xs) all = elim (cases_lt x 255) [
  | inl lt ↦ inl lt
  | inr le ↦ let small : x < 256 = all.small 0 0 (omega arith) in inr (omega arith, most_are count xs (rest_are count x xs all))
]

-- two bounds of so many bytes
pub record AreBounds (count : ℕ) (least most : List ℕ) : Type 0 where
  pub least_are : AreSoMany count least
  pub most_are : AreSoMany count most
  pub up_to : UpTo least most

-- the bounds of what stands behind a first byte
sub_bounds : (count b low high : ℕ) (least most : List ℕ) → AreBounds (suc count) (low ∷ least) (high ∷ most)
    → AreBounds count (if b == low then least else replicate count 0) (if b == high then most else replicate count 255)
sub_bounds count b low high least most bounds =
    let lower = rest_are count low least bounds.least_are in
    let upper = rest_are count high most bounds.most_are in
    let zeros = same_are count 0 (omega arith) in
    let tops = same_are count 255 (omega arith) in
    elim (eqb_tells b low) [
      | inl l ↦ elim (eqb_tells b high) [
        | inl h ↦ rw (l.0, h.0) (record {
          least_are = lower;
          most_are = upper;
          up_to = elim bounds.up_to [
            | inl lt ↦ absurd (omega (arith, l.1, h.1))
            | inr same ↦ same.1
          ];
        })
        | inr h ↦ rw (l.0, h.0) (record { least_are = lower; most_are = tops; up_to = most_are count least lower })
      ]
      | inr l ↦ elim (eqb_tells b high) [
        | inl h ↦ rw (l.0, h.0) (record { least_are = zeros; most_are = upper; up_to = least_are count most upper })
        | inr h ↦ rw (l.0, h.0) (record { least_are = zeros; most_are = tops; up_to = least_are count (replicate count 255) tops })
      ]
    ]

abbrev pub lies : ℕ → ℕ → ℕ → Bool
lies low high byte = nat_le low byte && nat_le byte high

lies_between : (low high b : ℕ) → lies low high b ≡ true → (low ≤ b) × (b ≤ high)
lies_between low high b is = (grind (arith, nat_tests), grind (arith, nat_tests))

between_lies : (low high b : ℕ) → low ≤ b → b ≤ high → lies low high b ≡ true
between_lies low high b least most = grind (arith, nat_tests)

first_up_to : (low high : ℕ) (least most : List ℕ) → UpTo (low ∷ least) (high ∷ most) → low ≤ high
first_up_to low high least most (inl lt) = omega arith
first_up_to low high least most (inr same) = omega (arith, same.0)

rest_up_to : (low b : ℕ) (least bytes : List ℕ) → low ≡ b → UpTo (low ∷ least) (b ∷ bytes) → UpTo least bytes
rest_up_to low b least bytes same (inl lt) = absurd (omega (arith, same, lt))
rest_up_to low b least bytes same (inr up) = up.1

pub within_law : (count : ℕ) (least most : List ℕ) → AreBounds count least most → IsField (within count least most)
unfolding within
within_law zero least most bounds = nothing_law []
within_law (suc count) [] most bounds = absurd (omega (arith, bounds.least_are.so_many))
within_law (suc count) (low ∷ least) [] bounds = absurd (omega (arith, bounds.most_are.so_many))
within_law (suc count) (low ∷ least) (high ∷ most) bounds =
    let others = λ (b : ℕ). within count (if b == low then least else replicate count 0) (if b == high then most else replicate count 255) in
    let order = first_up_to low high least most bounds.up_to in
    part_law first_of (byte_where (lies low high)) (λ b. behind b (others b))
    (byte_law (lies low high) low (bounds.least_are.small 0 0 (omega arith)) (between_lies low high low (omega arith) order))
    (λ b _. behind_law b (others b) (within_law count _ _ (sub_bounds count b low high least most bounds)))
    (λ b v _ has. first_belongs b (others b) v has)

-- ---- what lies within bounds

pub record Lies (count : ℕ) (least most bytes : List ℕ) : Type 0 where
  pub are : AreSoMany count bytes
  pub above : UpTo least bytes
  pub below : UpTo bytes most

none_are : AreSoMany 0 []
none_are = record { small = λ k d lt. absurd (omega arith); so_many = refl }

pub has_bounds : (count : ℕ) (least most bytes : List ℕ) → AreSoMany count least → AreSoMany count most
    → (within count least most).Has bytes → Lies count least most bytes × ((within count least most).spelled bytes ≡ bytes)
unfolding within
has_bounds zero [] most bytes one other has =
    let e : bytes ≡ [] = has in
    (subst (λ b. Lies 0 [] most b) (sym e) (record { are = none_are; above = tt; below = tt }), sym e)
has_bounds zero (low ∷ least) most bytes one other has = absurd (omega (arith, one.so_many))
has_bounds (suc count) [] most bytes one other has = absurd (omega (arith, one.so_many))
has_bounds (suc count) (low ∷ least) [] bytes one other has = absurd (omega (arith, other.so_many))
has_bounds (suc count) (low ∷ least) (high ∷ most) [] one other has = absurd has
has_bounds (suc count) (low ∷ least) (high ∷ most) (b ∷ bytes) one other has =
    let l = rest_are count low least one in
    let h = rest_are count high most other in
    let zeros = same_are count 0 (omega arith) in
    let tops = same_are count 255 (omega arith) in
    let order = lies_between low high b has.0.1 in
    let low_are : AreSoMany count (if b == low then least else replicate count 0) = elim (eqb_tells b low) [ inl e ↦ rw e.0 l | inr e ↦ rw e.0 zeros ] in
    let high_are : AreSoMany count (if b == high then most else replicate count 255) = elim (eqb_tells b high) [ inl e ↦ rw e.0 h | inr e ↦ rw e.0 tops ] in
    let sub = has_bounds count _ _ bytes low_are high_are has.1.0 in (
      record {
        are = more_are count b bytes has.0.0 sub.0.are;
        above = elim (eqb_tells b low) [
          | inl e ↦ inr (sym e.1, rw e.0 at sub.0.above)
          | inr e ↦ inl (omega (arith, e.1, order.0))
        ];
        below = elim (eqb_tells b high) [
          | inl e ↦ inr (e.1, rw e.0 at sub.0.below)
          | inr e ↦ inl (omega (arith, e.1, order.1))
        ];
      },
      ap (λ (x : List ℕ). b ∷ x) (append-nil ((within count (if b == low then least else replicate count 0) (if b == high then most else replicate count 255)).spelled bytes) ∙ sub.1),
    )

pub bounds_has : (count : ℕ) (least most bytes : List ℕ) → AreSoMany count least → AreSoMany count most
    → Lies count least most bytes → (within count least most).Has bytes
unfolding within
bounds_has zero least most [] one other has = refl
bounds_has zero least most (b ∷ bytes) one other has = absurd (omega (arith, has.are.so_many))
bounds_has (suc count) [] most bytes one other has = absurd (omega (arith, one.so_many))
bounds_has (suc count) (low ∷ least) [] bytes one other has = absurd (omega (arith, other.so_many))
bounds_has (suc count) (low ∷ least) (high ∷ most) [] one other has = absurd (omega (arith, has.are.so_many))
bounds_has (suc count) (low ∷ least) (high ∷ most) (b ∷ bytes) one other has =
    let l = rest_are count low least one in
    let h = rest_are count high most other in
    let x = rest_are count b bytes has.are in
    let zeros = same_are count 0 (omega arith) in
    let tops = same_are count 255 (omega arith) in
    let low_are : AreSoMany count (if b == low then least else replicate count 0) = elim (eqb_tells b low) [ inl e ↦ rw e.0 l | inr e ↦ rw e.0 zeros ] in
    let high_are : AreSoMany count (if b == high then most else replicate count 255) = elim (eqb_tells b high) [ inl e ↦ rw e.0 h | inr e ↦ rw e.0 tops ] in
    let above : UpTo (if b == low then least else replicate count 0) bytes = elim (eqb_tells b low) [
      | inl e ↦ rw e.0 (rest_up_to low b least bytes (sym e.1) has.above)
      | inr e ↦ rw e.0 (least_are count bytes x)
    ] in
    let below : UpTo bytes (if b == high then most else replicate count 255) = elim (eqb_tells b high) [
      | inl e ↦ rw e.0 (rest_up_to b high bytes most e.1 has.below)
      | inr e ↦ rw e.0 (most_are count bytes x)
    ] in (
      (has.are.small 0 0 (omega arith), between_lies low high b (first_up_to low b least bytes has.above) (first_up_to b high bytes most has.below)),
      (bounds_has count _ _ bytes low_are high_are (record { are = x; above = above; below = below }), refl),
    )

-- ---- bytes as numbers

-- the number of bytes, behind a number before them
abbrev pub value : ℕ → List ℕ → ℕ
value before [] = before
value before (b ∷ bytes) = value (before * 256 + b) bytes

below_value : (count a b : ℕ) (xs ys : List ℕ) → AreSoMany count xs → AreSoMany count ys → a < b → value a xs < value b ys
below_value zero a b [] [] one other lt = lt
below_value zero a b (x ∷ xs) ys one other lt = absurd (omega (arith, one.so_many))
below_value zero a b [] (y ∷ ys) one other lt = absurd (omega (arith, other.so_many))
below_value (suc count) a b [] ys one other lt = absurd (omega (arith, one.so_many))
below_value (suc count) a b (x ∷ xs) [] one other lt = absurd (omega (arith, other.so_many))
below_value (suc count) a b (x ∷ xs) (y ∷ ys) one other lt =
    let small : x < 256 = one.small 0 0 (omega arith) in
    below_value count (a * 256 + x) (b * 256 + y) xs ys (rest_are count x xs one) (rest_are count y ys other) (omega arith)

pub up_to_value : (count a : ℕ) (xs ys : List ℕ) → AreSoMany count xs → AreSoMany count ys → UpTo xs ys → value a xs ≤ value a ys
up_to_value zero a [] [] one other up = omega arith
up_to_value zero a (x ∷ xs) ys one other up = absurd (omega (arith, one.so_many))
up_to_value zero a [] (y ∷ ys) one other up = absurd (omega (arith, other.so_many))
up_to_value (suc count) a [] ys one other up = absurd (omega (arith, one.so_many))
up_to_value (suc count) a (x ∷ xs) [] one other up = absurd up
up_to_value (suc count) a (x ∷ xs) (y ∷ ys) one other (inl lt) =
    let less = below_value count (a * 256 + x) (a * 256 + y) xs ys (rest_are count x xs one) (rest_are count y ys other) (omega arith) in
    omega (arith, less)
up_to_value (suc count) a (x ∷ xs) (y ∷ ys) one other (inr same) =
    let others = up_to_value count (a * 256 + x) xs ys (rest_are count x xs one) (rest_are count y ys other) same.1 in
    subst (λ (b : ℕ). value (a * 256 + x) xs ≤ value (a * 256 + b) ys) same.0 others

pub value_up_to : (count a : ℕ) (xs ys : List ℕ) → AreSoMany count xs → AreSoMany count ys → value a xs ≤ value a ys → UpTo xs ys
value_up_to zero a [] ys one other le = tt
value_up_to zero a (x ∷ xs) ys one other le = absurd (omega (arith, one.so_many))
value_up_to (suc count) a [] ys one other le = tt
value_up_to (suc count) a (x ∷ xs) [] one other le = absurd (omega (arith, other.so_many))
value_up_to (suc count) a (x ∷ xs) (y ∷ ys) one other le =
    let p = rest_are count x xs one in
    let q = rest_are count y ys other in
    elim (cases_lt x y) [
      | inl lt ↦ inl lt
      | inr above ↦ elim (cases_lt y x) [
        | inl lt ↦
            let less = below_value count (a * 256 + y) (a * 256 + x) ys xs q p (omega arith) in
            absurd (omega (arith, less, le))
        | inr below ↦
            let same : x ≡ y = omega arith in
            inr (same, value_up_to count (a * 256 + x) xs ys p q (subst (λ (b : ℕ). value (a * 256 + x) xs ≤ value (a * 256 + b) ys) (sym same) le))
      ]
    ]

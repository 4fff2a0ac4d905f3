-- What the first bytes of a file tell of the file.
use Rattle.std.proofs.Common.{◌≡◌, inl, inr, ℕ, ◌+◌, ◌-◌, ◌<◌, ◌≤◌, min, arith, ap, sym, subst, ◌∙◌, List, length, take, drop, length-drop, Bool, IsTrue, Result, IfOk}
use Rattle.std.proofs.lemmas.Result.{IfOk-weaker}
use Rattle.std.proofs.lemmas.List.{ext_get_or, get_or-drop, get_or-take, length-take, take_min}
use Rattle.std.proofs.lemmas.Bool.{cases_lt}
use Rattle.fk_lives.specs.declared.header.Header.{Header}
use Rattle.fk_lives.specs.Damages.{HasBase, HasGeneration, HasHeader, HasNumber, IsHeaderDamagedAt}
use Rattle.fk_shelf.specs.Opening.{IsFound, IsFoundDamagedAt}
use Rattle.fk_shelf.proofs.Numbers.{no_number}

-- a header that is right has its bytes
pub head_long : (header : Header) (head : List ℕ) → HasHeader header head → 34 ≤ length head
head_long header head has = elim (cases_lt (length head) 34) [
  | inl short ↦ absurd (no_number 26 header.length head (omega (arith, short)) has.snapshot)
  | inr long ↦ long
]

-- a part within the first bytes of a file is a part of the file
part_in : (k n m : ℕ) (file : List ℕ) → k + n ≤ m → take n (drop k (take m file)) ≡ take n (drop k file)
part_in k n m file within =
    let one : List ℕ = take n (drop k (take m file)) in
    let other : List ℕ = take n (drop k file) in
    let length_one : length one ≡ min n (min m (length file) - k) =
    length-take n (drop k (take m file))
    ∙ ap (min n) (length-drop k (take m file) ∙ ap (λ l. l - k) (length-take m file)) in
    let length_other : length other ≡ min n (length file - k) =
    length-take n (drop k file) ∙ ap (min n) (length-drop k file) in
    ext_get_or 0 one other (omega (arith, length_one, length_other, within)) (λ i less.
    let low : i < n = omega (arith, less, length_one) in
    get_or-take n (drop k (take m file)) i 0 low ∙ get_or-drop k (take m file) i 0
    ∙ get_or-take m file (k + i) 0 (omega (arith, low, within))
    ∙ sym (get_or-take n (drop k file) i 0 low ∙ get_or-drop k file i 0))

-- so two files agree on the parts that the header reads
pub record Agree (head file : List ℕ) : Type 0 where
  pub part : (k n : ℕ) → k + n ≤ 34 → take n (drop k head) ≡ take n (drop k file)

agree_back : (head file : List ℕ) → Agree head file → Agree file head
agree_back head file agree = record { part = λ k n within. sym (agree.part k n within) }

pub agree_head : (head file : List ℕ) (len : ℕ) → len ≡ length file → head ≡ take (min len 34) (drop 0 file) →
    Agree head file
agree_head head file len whole is =
    let short : min len 34 ≡ min 34 (length file) = omega (arith, whole) in
    let front : head ≡ take 34 file = is ∙ ap (λ n. take n file) short ∙ take_min 34 file in
    record { part = λ k n within. ap (λ xs. take n (drop k xs)) front ∙ part_in k n 34 file within }

has_number : (at number : ℕ) (head file : List ℕ) → at + 8 ≤ 34 → Agree head file → HasNumber at number head →
    HasNumber at number file
has_number at number head file within agree has =
    record { word = has.word; bytes = sym (agree.part at 8 within) ∙ has.bytes }

has_header : (header : Header) (head file : List ℕ) → Agree head file → HasHeader header head → HasHeader header file
has_header header head file agree has = record {
  known = sym (agree.part 1 8 (omega arith)) ∙ has.known;
  versioned = sym (agree.part 9 1 (omega arith)) ∙ has.versioned;
  generation = (has_number 10 header.generation head file (omega arith) agree has.generation.0, has.generation.1);
  base = (has_number 18 header.base head file (omega arith) agree has.base.0, has.base.1);
  snapshot = has_number 26 header.length head file (omega arith) agree has.snapshot;
}

has_generation : (head file : List ℕ) → Agree head file → HasGeneration head → HasGeneration file
has_generation head file agree has =
    (has.0, has_number 10 has.0 head file (omega arith) agree has.1, has.2)

has_base : (head file : List ℕ) → Agree head file → HasBase head → HasBase file
has_base head file agree has = (has.0, has_number 18 has.0 head file (omega arith) agree has.1, has.2)

-- a field that is cut or wrong there is so in the file
damaged_at : (at : ℕ) (head file : List ℕ) → Agree head file → IsHeaderDamagedAt at head → IsHeaderDamagedAt at file
damaged_at at head file agree (inl magic) =
    inl (magic.0, λ has. magic.1 (agree.part 1 8 (omega arith) ∙ has))
damaged_at at head file agree (inr (inl wrong)) =
    inr (inl (
      wrong.0,
      sym (agree.part 1 8 (omega arith)) ∙ wrong.1,
      λ has. wrong.2 (agree.part 9 1 (omega arith) ∙ has),
    ))
damaged_at at head file agree (inr (inr (inl wrong))) =
    inr (inr (inl (
      wrong.0,
      sym (agree.part 1 8 (omega arith)) ∙ wrong.1,
      sym (agree.part 9 1 (omega arith)) ∙ wrong.2,
      λ has. wrong.3 (has_generation file head (agree_back head file agree) has),
    )))
damaged_at at head file agree (inr (inr (inr (inl wrong)))) =
    inr (inr (inr (inl (
      wrong.0,
      sym (agree.part 1 8 (omega arith)) ∙ wrong.1,
      sym (agree.part 9 1 (omega arith)) ∙ wrong.2,
      has_generation head file agree wrong.3,
      λ has. wrong.4 (has_base file head (agree_back head file agree) has),
    ))))
damaged_at at head file agree (inr (inr (inr (inr wrong)))) =
    inr (inr (inr (inr (
      wrong.0,
      sym (agree.part 1 8 (omega arith)) ∙ wrong.1,
      sym (agree.part 9 1 (omega arith)) ∙ wrong.2,
      has_generation head file agree wrong.3,
      has_base head file agree wrong.4,
      λ has. wrong.5 (has.0, has_number 26 has.0 file head (omega arith) (agree_back head file agree) has.1),
    ))))

-- what is found in the first bytes is found in the file
pub found_file : (header : Header) (len : ℕ) (head file : List ℕ) → len ≡ length file →
    head ≡ take (min len 34) (drop 0 file) → IsFound header len head → IsFound header (length file) file
found_file header len head file whole is found = record {
  right = has_header header head file (agree_head head file len whole is) found.right;
  whole = omega (arith, whole, found.whole);
}

pub found_damage : (at len : ℕ) (head file : List ℕ) → len ≡ length file → head ≡ take (min len 34) (drop 0 file) →
    IsFoundDamagedAt at len head → IsFoundDamagedAt at (length file) file
found_damage at len head file whole is (inl wrong) =
    inl (damaged_at at head file (agree_head head file len whole is) wrong)
found_damage at len head file whole is (inr (here, (header, right, short))) =
    let agree : Agree head file = agree_head head file len whole is in
    inr (here, (header, has_header header head file agree right, omega (arith, whole, short)))

-- what was read of it: as many bytes as there are, and at most as many as a buffer of 34 has
module _ (told told_now : Bool) (len count : ℕ) (zeros head file file_now : List ℕ) (same : told_now ≡ told)
    (stays : file_now ≡ file) (whole : IsTrue told → len ≡ length file) (most : count ≡ min len 34)
    (room : length zeros ≡ 34)
    (read : IsTrue told_now → head ≡ take (length (take count zeros)) (drop 0 file_now)) where
  first_read : IsTrue told → head ≡ take (min len 34) (drop 0 file)
  first_read tells =
      let long : length (take count zeros) ≡ min count (length zeros) = length-take count zeros in
      let many : length (take count zeros) ≡ min len 34 = omega (arith, long, most, room) in
      read (subst IsTrue (sym same) tells) ∙ ap (λ n. take n (drop 0 file_now)) many
      ∙ ap (λ f. take (min len 34) (drop 0 f)) stays

  pub found_read : {E : Type 0} (result : Result Header E) → IfOk result (λ header. IsFound header len head) →
      IsTrue told → IfOk result (λ header. IsFound header (length file) file)
  found_read result found tells =
      IfOk-weaker result (λ header. IsFound header len head) (λ header. IsFound header (length file) file)
      (λ header is. found_file header len head file (whole tells) (first_read tells) is) found

  pub damage_read : (at : ℕ) → IsFoundDamagedAt at len head → IsTrue told → IsFoundDamagedAt at (length file) file
  damage_read at damaged tells = found_damage at len head file (whole tells) (first_read tells) damaged

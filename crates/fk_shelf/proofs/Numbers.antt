-- Numbers of eight bytes that stand in a file.
use Rattle.std.proofs.Common.{◌≡◌, inl, inr, ℕ, ◌+◌, ◌<◌, ◌≤◌, ◌^◌, arith, ap, sym, subst, ◌∙◌, List, length, take, drop, get_or, length-drop, Fits, w8}
use Rattle.std.specs.Int.{w64, from_be_bytes}
use Rattle.std.proofs.lemmas.Bool.{cases_lt}
use Rattle.std.proofs.lemmas.List.{get_or-take, get_or-drop, get_or_past, length-take, length-take-le}
use Rattle.std.proofs.lemmas.Nat.{be_bytes_8, from_be_bytes-to_be_bytes_8}
use Rattle.fk_moves.specs.Spelling.{word_bytes}
use Rattle.fk_journal.specs.Limits.{greatest_number}
use Rattle.fk_lives.specs.Damages.{HasBase, HasGeneration, HasNumber}
use Rattle.fk_lives.specs.Files.{IsGeneration}

-- eight bytes are needed
pub no_number : (at number : ℕ) (file : List ℕ) → length file < at + 8 → ¬ HasNumber at number file
unfolding word_bytes
no_number at number file short has =
    let count : length (take 8 (drop at file)) ≡ 8 = ap length has.bytes in
    omega (arith, short, count, length-take 8 (drop at file), length-drop at file)

-- no two numbers stand at one place
pub one_number : (at one other : ℕ) (file : List ℕ) → HasNumber at one file → HasNumber at other file → other ≡ one
unfolding word_bytes
one_number at one other file has also =
    sym (from_be_bytes-to_be_bytes_8 other also.word) ∙ ap (from_be_bytes w64) (sym also.bytes ∙ has.bytes)
    ∙ from_be_bytes-to_be_bytes_8 one has.word

-- a part of bytes is made of bytes
part_bytes : (at n : ℕ) (file : List ℕ) → ((i : ℕ) → get_or file i 0 < 256) → (i : ℕ) →
    get_or (take n (drop at file)) i 0 < 256
part_bytes at n file bytes i = elim (cases_lt i n) [
  | inl inside ↦
      let is : get_or (take n (drop at file)) i 0 ≡ get_or file (at + i) 0 =
      get_or-take n (drop at file) i 0 inside ∙ get_or-drop at file i 0 in
      subst (λ byte. byte < 256) (sym is) (bytes (at + i))
  | inr past ↦
      let short : length (take n (drop at file)) ≤ i = rw length-take (omega (arith, past)) in
      subst (λ byte. byte < 256) (sym (get_or_past (take n (drop at file)) i 0 short)) (omega arith)
]

-- the number that was read stands there
pub number_here : (at number : ℕ) (file part : List ℕ) → ((i : ℕ) → Fits w8 (get_or file i 0)) → number < 2 ^ 64 →
    at + 8 ≤ length file → part ≡ take 8 (drop at file) → number ≡ from_be_bytes w64 part →
    HasNumber at number file
unfolding word_bytes
number_here at number file part bytes small inside is read =
    let count : length (take 8 (drop at file)) ≡ 8 =
    length-take-le 8 (drop at file) (rw length-drop (omega (arith, inside))) in
    record {
      word = small;
      bytes = sym (be_bytes_8 (take 8 (drop at file)) number count (part_bytes at 8 file (λ i. omega (arith, bytes i)))
          (read ∙ ap (from_be_bytes w64) is));
    }

-- a number that isn't a generation leaves the file without one
pub no_generation : (number : ℕ) (file : List ℕ) → HasNumber 10 number file → ¬ IsGeneration number →
    ¬ HasGeneration file
no_generation number file here wrong has =
    wrong (subst IsGeneration (one_number 10 number has.0 file here has.1) has.2)

-- and so does a number that is too great for a base
pub no_base : (number : ℕ) (file : List ℕ) → HasNumber 18 number file → greatest_number < number → ¬ HasBase file
no_base number file here over has = omega (arith, over, has.2, one_number 18 number has.0 file here has.1)

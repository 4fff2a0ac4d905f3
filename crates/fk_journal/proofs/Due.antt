-- What stands where a gate is due, as it was read.
use Rattle.std.proofs.Common.{◌≡◌, ◌≢◌, inl, inr, ℕ, suc, ◌+◌, ◌-◌, ◌<◌, ◌≤◌, ◌^◌, arith, ap, sym, subst, ◌∙◌}
use Rattle.std.proofs.Common.{List, ◌∷◌, ◌++◌, length, take, drop, get_or, length-append, length-drop, append_assoc, add-one, drop-cons}
use Rattle.std.proofs.lemmas.List.{get_or-take, get_or-drop, get_or_past, length-take, length-take-le, take-append-drop, drop-drop}
use Rattle.std.proofs.lemmas.Nat.{be_bytes_8, from_be_bytes-to_be_bytes_8}
use Rattle.std.proofs.lemmas.Bool.{cases_lt}
use Rattle.fk_disk.specs.Steps.{AreBytes}
use Rattle.std.proofs.Math.Seq.{take-append_seam, drop-append_seam}
use Rattle.std.specs.Int.{w64, to_be_bytes, from_be_bytes}
use Rattle.fk_journal.specs.Gates.{IsGate, IsHead, IsWrong}
use Rattle.fk_journal.specs.declared.reading.Gate.TheVariants.{Open}
use Rattle.fk_journal.specs.declared.reading.Head.{Head}
use Rattle.fk_journal.specs.Limits.{greatest_number}
use Rattle.fk_journal.specs.Pieces.{open_gate, numbered, opened, BeginWith, IsClosedAt, IsDamagedAt}
use Rattle.fk_journal.proofs.Files.{gate_is_at, closed_within}
use Rattle.fk_journal.proofs.Taking.{take_on}

-- a file from a place on
from_place : (place : ℕ) (file : List ℕ) → place < length file →
    drop place file ≡ get_or file place 0 ∷ drop (place + 1) file
from_place place file inside =
    drop-cons file place 0 inside ∙ ap (λ m. get_or file place 0 ∷ drop m file) (sym (add-one place))

-- a gate that isn't open is closed
pub closed_here : (place : ℕ) (file : List ℕ) → place < length file → get_or file place 0 ≢ open_gate →
    IsClosedAt place file
closed_here place file inside closed = (
  get_or file place 0,
  drop (place + 1) file,
  closed,
  sym (take-append-drop place file) ∙ ap (λ xs. take place file ++ xs) (from_place place file inside),
)

-- and an open one isn't
not_closed_here : (place : ℕ) (file : List ℕ) → get_or file place 0 ≡ open_gate → ¬ IsClosedAt place file
not_closed_here place file open_here (gate, rest, closed, is) =
    let here : IsClosedAt place file = (gate, rest, closed, is) in
    let inside : place < length file = closed_within place file here in
    let long : place ≡ length (take place file) = gate_is_at place file here in
    let behind : drop place file ≡ gate ∷ rest =
    ap (λ n. drop n file) long ∙ ap (drop (length (take place file))) is
    ∙ drop-append_seam (take place file) (gate ∷ rest) in
    let byte : get_or file place 0 ≡ gate =
    ap (λ xs. get_or xs 0 0) (sym (from_place place file inside) ∙ behind) in
    closed (sym byte ∙ open_here)

-- a part of bytes is made of bytes
part_bytes : (at n : ℕ) (file : List ℕ) → AreBytes file → (i : ℕ) → get_or (take n (drop at file)) i 0 < 256
part_bytes at n file bytes i = elim (cases_lt i n) [
  | inl inside ↦
      let is : get_or (take n (drop at file)) i 0 ≡ get_or file (at + i) 0 =
      get_or-take n (drop at file) i 0 inside ∙ get_or-drop at file i 0 in
      subst (λ byte. byte < 256) (sym is) (bytes (at + i))
  | inr past ↦
      let short : length (take n (drop at file)) ≤ i = rw length-take (omega (arith, past)) in
      subst (λ byte. byte < 256) (sym (get_or_past (take n (drop at file)) i 0 short)) (omega arith)
]

-- the bytes of the number that was read
pub number_is : (at number : ℕ) (file : List ℕ) → AreBytes file → at + 8 ≤ length file →
    number ≡ from_be_bytes w64 (take 8 (drop at file)) → to_be_bytes w64 number ≡ take 8 (drop at file)
number_is at number file bytes inside is =
    let count : length (take 8 (drop at file)) ≡ 8 =
    length-take-le 8 (drop at file) (rw length-drop (omega (arith, inside))) in
    be_bytes_8 (take 8 (drop at file)) number count (part_bytes at 8 file bytes) is

-- what stands behind the gate of a piece
pub record Stand (number : ℕ) (moves rest : List ℕ) : Type 0 where
  pub long : 16 + length moves ≤ length rest
  pub first : take 8 rest ≡ to_be_bytes w64 number
  pub second : take 8 (drop 8 rest) ≡ to_be_bytes w64 (length moves)

-- a piece that begins at a place, behind its gate
stand_behind : (number place : ℕ) (moves file : List ℕ) → place < length file →
    BeginWith number moves (drop place file) → Stand number moves (drop (place + 1) file)
unfolding numbered
stand_behind number place moves file inside begins =
    let rest : List ℕ = drop (place + 1) file in
    let one : List ℕ = to_be_bytes w64 number in
    let two : List ℕ = to_be_bytes w64 (length moves) in
    let body : List ℕ = numbered number moves in
    let n : ℕ = length body in
    let size : n ≡ 16 + length moves = length-append (one ++ two) moves in
    let is : take n rest ≡ body =
    ap (drop 1) (ap (take (suc n)) (sym (from_place place file inside)) ∙ begins.front) in
    let count : n ≤ length rest =
    let least : length (take n rest) ≡ n = ap length is in
    omega (arith, least, length-take n rest) in
    let tail : List ℕ = drop n rest in
    let whole : rest ≡ one ++ (two ++ (moves ++ tail)) =
    sym (take-append-drop n rest) ∙ ap (λ xs. xs ++ tail) is
    ∙ append_assoc (one ++ two) moves tail ∙ append_assoc one two (moves ++ tail) in
    let behind : drop 8 rest ≡ two ++ (moves ++ tail) =
    ap (drop 8) whole ∙ drop-append_seam one (two ++ (moves ++ tail)) in
    record {
      long = omega (arith, size, count);
      first = ap (take 8) whole ∙ take-append_seam one (two ++ (moves ++ tail));
      second = ap (take 8) behind ∙ take-append_seam two (moves ++ tail);
    }

-- a number is known by its bytes
same_number : (one other : ℕ) → one < 2 ^ 64 → other < 2 ^ 64 →
    to_be_bytes w64 one ≡ to_be_bytes w64 other → one ≡ other
same_number one other small small_too same =
    sym (from_be_bytes-to_be_bytes_8 one small) ∙ ap (from_be_bytes w64) same
    ∙ from_be_bytes-to_be_bytes_8 other small_too

-- too few bytes are left for a piece
pub too_short : (number place left : ℕ) (file : List ℕ) → IsGate place file (Open left) → left < 16 → IsDamagedAt number place file
too_short number place left file (whole, open_here) short = record {
  not_closed = not_closed_here place file open_here;
  no_piece = λ moves begins.
      let stand : Stand number moves (drop (place + 1) file) =
      stand_behind number place moves file (omega (arith, whole)) begins in
      let rest : length (drop (place + 1) file) ≡ length file - (place + 1) = length-drop (place + 1) file in
      absurd (omega (arith, whole, short, rest, stand.long));
}

-- the number or the length that stands there is wrong
pub wrong_head : (number place left : ℕ) (file : List ℕ) (head : Head) → IsGate place file (Open left) →
    number < 2 ^ 64 → head.number < 2 ^ 64 → head.length < 2 ^ 64 → IsHead (place + 1) file head →
    IsWrong number left head → IsDamagedAt number place file
wrong_head number place left file head (whole, open_here) small small_number small_length is wrong = record {
  not_closed = not_closed_here place file open_here;
  no_piece = λ moves begins.
      let stand : Stand number moves (drop (place + 1) file) =
      stand_behind number place moves file (omega (arith, whole)) begins in
      let rest : length (drop (place + 1) file) ≡ length file - (place + 1) = length-drop (place + 1) file in
      let one : head.number ≡ number = same_number head.number number small_number small (is.first ∙ stand.first) in
      let two : head.length ≡ length moves =
      same_number head.length (length moves) small_length begins.fits
      (is.second ∙ sym (ap (take 8) (drop-drop 8 (place + 1) file)) ∙ stand.second) in
      let over : left < 16 + head.length = wrong one begins.within in
      absurd (omega (arith, whole, rest, two, over, stand.long));
}

-- the piece stands there
pub piece_here : (number place left : ℕ) (file moves : List ℕ) (head : Head) → IsGate place file (Open left) →
    IsHead (place + 1) file head → head.number ≡ number → number ≤ greatest_number → head.length < 2 ^ 64 →
    16 + head.length ≤ left →
    moves ≡ take head.length (drop (place + 1 + 16) file) → length moves ≡ head.length →
    BeginWith number moves (drop place file)
unfolding numbered
piece_here number place left file moves head (whole, open_here) is_head is_number within small long is count =
    let rest : List ℕ = drop (place + 1) file in
    let one : List ℕ = to_be_bytes w64 number in
    let two : List ℕ = to_be_bytes w64 (length moves) in
    let others : List ℕ = take 8 (drop (place + 1 + 8) file) in
    let n : ℕ = length (numbered number moves) in
    let total : n ≡ 16 + head.length = length-append (one ++ two) moves ∙ ap (λ m. 16 + m) count in
    let parts : take (16 + head.length) rest ≡ take 16 rest ++ take head.length (drop (place + 1 + 16) file) =
    take_on file (place + 1) 16 head.length in
    let halves : take 16 rest ≡ take 8 rest ++ others = take_on file (place + 1) 8 8 in
    let first : one ≡ take 8 rest = sym (ap (to_be_bytes w64) is_number) ∙ is_head.first in
    let second : two ≡ others = ap (to_be_bytes w64) count ∙ is_head.second in
    let body : take n rest ≡ numbered number moves =
    ap (λ m. take m rest) total ∙ parts
    ∙ ap (λ xs. xs ++ take head.length (drop (place + 1 + 16) file)) halves
    ∙ ap (λ xs. take 8 rest ++ others ++ xs) (sym is)
    ∙ ap (λ xs. xs ++ others ++ moves) (sym first)
    ∙ ap (λ xs. one ++ xs ++ moves) (sym second) in
    record {
      front = ap (take (suc n)) (from_place place file (omega (arith, whole)))
          ∙ ap (λ g. g ∷ take n rest) open_here ∙ ap (λ xs. open_gate ∷ xs) body;
      fits = omega (arith, count, small);
      within = within;
    }

-- nothing is added
add-none : (n : ℕ) → 0 + n ≡ n
add-none n = omega arith

-- what a file has up to the gate behind the piece
pub front_on : (number place count : ℕ) (moves file : List ℕ) → place < length file → length moves ≡ count →
    BeginWith number moves (drop place file) →
    take (place + 1 + 16 + count) file ≡ take place file ++ opened number moves
unfolding numbered
front_on number place count moves file inside is_count begins =
    let piece : List ℕ = opened number moves in
    let n : ℕ = length piece in
    let body : length (numbered number moves) ≡ 16 + length moves =
    length-append (to_be_bytes w64 number ++ to_be_bytes w64 (length moves)) moves in
    let size : n ≡ suc (16 + length moves) = ap suc body in
    let total : place + 1 + 16 + count ≡ place + n = omega (arith, size, is_count) in
    ap (λ m. take m file) total ∙ take_on file 0 place n
    ∙ ap (λ xs. take place file ++ xs) (ap (λ m. take n (drop m file)) (add-none place) ∙ begins.front)

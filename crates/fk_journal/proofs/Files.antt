-- A file behind whose closed gate a piece is written, step by step.
use Rattle.std.proofs.Common.{◌≡◌, inl, inr, ℕ, suc, ◌+◌, ◌<◌, ◌≤◌, arith, ap, sym, subst, ◌∙◌}
use Rattle.std.proofs.Common.{List, [], ◌∷◌, ◌++◌, length, take, drop, get_or, length-append, length-drop, append_assoc, add-one, drop-cons}
use Rattle.std.proofs.lemmas.List.{length-take, length-take-le, get_or-take, get_or-drop, take-append-drop, take_min, ext_get_or}
use Rattle.std.proofs.Math.Seq.{take-append_seam, take-length, drop-append-add}
use Rattle.std.proofs.lemmas.Bool.{cases_eq, cases_lt}
use Rattle.fk_disk.specs.Steps.{Overwrites, overwritten}
use Rattle.fk_journal.specs.Pieces.{open_gate, closed_gate, numbered, framed, opened, IsClosedAfter}
use Rattle.fk_journal.specs.Standing.{HasBehind, IsPrepared, IsWith, IsWithOrWithout, IsInDoubt}

-- two files agree up to a place
same_front : (n : ℕ) (file after : List ℕ) → n ≤ length file → n ≤ length after →
    ((k : ℕ) → k < n → get_or after k 0 ≡ get_or file k 0) → take n after ≡ take n file
same_front n file after inside within same =
    let count : length (take n after) ≡ n = length-take-le n after within in
    ext_get_or 0 (take n after) (take n file) (count ∙ sym (length-take-le n file inside)) (λ k below.
    let less : k < n = subst (λ m. k < m) count below in
    get_or-take n after k 0 less ∙ same k less ∙ sym (get_or-take n file k 0 less))

-- what stands before what is written stays
pub front_stays : (file after : List ℕ) (at count : ℕ) → at ≤ length file → Overwrites at count file after →
    take at after ≡ take at file
front_stays file after at count inside over =
    same_front at file after inside (omega (arith, inside, over.no_shorter))
    (λ k less. over.below k (omega (arith, less, inside)) less)

-- two files agree on a part
same_part : (from n : ℕ) (file after : List ℕ) → from + n ≤ length file → from + n ≤ length after →
    ((k : ℕ) → from ≤ k → k < from + n → get_or after k 0 ≡ get_or file k 0) →
    take n (drop from after) ≡ take n (drop from file)
same_part from n file after inside within same =
    same_front n (drop from file) (drop from after)
    (rw length-drop (omega (arith, inside))) (rw length-drop (omega (arith, within)))
    (λ k less. get_or-drop from after k 0 ∙ same (from + k) (omega arith) (omega (arith, less)) ∙ sym (get_or-drop from file k 0))

-- bytes before what is written stay
begins_stays : (bytes rest file after : List ℕ) (at count : ℕ) → length bytes ≤ at →
    file ≡ bytes ++ rest → Overwrites at count file after →
    after ≡ bytes ++ drop (length bytes) after
begins_stays bytes rest file after at count before is over =
    let n : ℕ = length bytes in
    let whole : length file ≡ n + length rest = ap length is ∙ length-append bytes rest in
    let inside : n ≤ length file = omega (arith, whole) in
    let within : n ≤ length after = omega (arith, inside, over.no_shorter) in
    let front : take n after ≡ take n file =
    same_front n file after inside within (λ k less. over.below k (omega (arith, less, inside)) (omega (arith, less, before))) in
    let known : take n file ≡ bytes = ap (take n) is ∙ take-append_seam bytes rest in
    sym (take-append-drop n after) ∙ ap (λ xs. xs ++ drop n after) (front ∙ known)

-- a file stays closed while something is written behind its gate
pub closed_stays : (front file after : List ℕ) (at count : ℕ) → length front < at →
    IsClosedAfter front file → Overwrites at count file after → IsClosedAfter front after
closed_stays front file after at count behind (gate, rest, closed, is) over =
    let bytes : List ℕ = front ++ gate ∷ [] in
    let long : length bytes ≡ length front + 1 = length-append front (gate ∷ []) in
    let apart : file ≡ bytes ++ rest = is ∙ sym (append_assoc front (gate ∷ []) rest) in
    let same : after ≡ bytes ++ drop (length bytes) after =
    begins_stays bytes rest file after at count (omega (arith, long, behind)) apart over in
    (gate, drop (length bytes) after, closed, same ∙ append_assoc front (gate ∷ []) (drop (length bytes) after))

-- the piece was written behind the closed gate
pub piece_stands : (front piece file : List ℕ) (at : ℕ) → at ≡ length front + 1 →
    IsClosedAfter front file → IsPrepared front piece (overwritten file at piece)
piece_stands front piece file at behind (gate, rest, closed, is) =
    let bytes : List ℕ = front ++ gate ∷ [] in
    let long : length bytes ≡ at = length-append front (gate ∷ []) ∙ sym behind in
    let apart : file ≡ bytes ++ rest = is ∙ sym (append_assoc front (gate ∷ []) rest) in
    let before : take at file ≡ bytes =
    ap (λ n. take n file) (sym long) ∙ ap (take (length bytes)) apart ∙ take-append_seam bytes rest in
    let others : List ℕ = drop (at + length piece) file in (
      gate,
      closed,
      (
        others,
        ap (λ xs. xs ++ piece ++ others) before ∙ ap (λ xs. xs ++ others) (append_assoc front (gate ∷ []) piece),
      ),
    )

-- a file with a piece, from its gate on
from_gate : (front piece rest file : List ℕ) (gate : ℕ) → file ≡ front ++ gate ∷ piece ++ rest →
    file ≡ front ++ (gate ∷ (piece ++ rest))
from_gate front piece rest file gate is = is ∙ append_assoc front (gate ∷ piece) rest

-- what stands before the gate
before_gate : (front piece rest file : List ℕ) (gate at : ℕ) → at ≡ length front →
    file ≡ front ++ gate ∷ piece ++ rest → take at file ≡ front
before_gate front piece rest file gate at is_at is =
    ap (λ n. take n file) is_at ∙ ap (take (length front)) (from_gate front piece rest file gate is)
    ∙ take-append_seam front (gate ∷ (piece ++ rest))

-- and behind it
behind_gate : (front piece rest file : List ℕ) (gate at : ℕ) → at ≡ length front →
    file ≡ front ++ gate ∷ piece ++ rest → drop (at + 1) file ≡ piece ++ rest
behind_gate front piece rest file gate at is_at is =
    ap (λ n. drop (n + 1) file) is_at ∙ ap (drop (length front + 1)) (from_gate front piece rest file gate is)
    ∙ drop-append-add front (gate ∷ (piece ++ rest)) 1

-- the gate byte was written
pub gate_stands : (front piece file : List ℕ) (gate at : ℕ) → at ≡ length front →
    IsInDoubt front piece file → HasBehind front gate piece (overwritten file at (gate ∷ []))
gate_stands front piece file gate at is_at (other, (rest, is)) = (
  rest,
  ap (λ xs. xs ++ gate ∷ [] ++ drop (at + 1) file) (before_gate front piece rest file other at is_at is)
      ∙ ap (λ xs. front ++ gate ∷ [] ++ xs) (behind_gate front piece rest file other at is_at is)
      ∙ append_assoc front (gate ∷ []) (piece ++ rest) ∙ sym (append_assoc front (gate ∷ piece) rest),
)

-- bytes behind what is written stay
part_stays : (file after : List ℕ) (at count from n : ℕ) → at + count ≤ from → from + n ≤ length file →
    Overwrites at count file after → take n (drop from after) ≡ take n (drop from file)
part_stays file after at count from n behind inside over =
    same_part from n file after inside (omega (arith, inside, over.no_shorter))
    (λ k above less. over.above k (omega (arith, less, inside)) (omega (arith, above, behind)))

-- a file is what stands before a place, the byte there, a part behind it, and the others
in_parts : (file : List ℕ) (at n : ℕ) → at < length file →
    file ≡ take at file ++ get_or file at 0 ∷ take n (drop (at + 1) file) ++ drop n (drop (at + 1) file)
in_parts file at n inside =
    let gate : ℕ = get_or file at 0 in
    let rest : List ℕ = drop (at + 1) file in
    let cut : drop at file ≡ gate ∷ rest =
    drop-cons file at 0 inside ∙ ap (λ m. gate ∷ drop m file) (sym (add-one at)) in
    sym (take-append-drop at file) ∙ ap (λ xs. take at file ++ xs) cut
    ∙ ap (λ xs. take at file ++ gate ∷ xs) (sym (take-append-drop n rest))
    ∙ sym (append_assoc (take at file) (gate ∷ take n rest) (drop n rest))

-- whatever becomes of the gate byte, the piece stands
pub doubt_stays : (front piece file after : List ℕ) (at : ℕ) → at ≡ length front →
    IsInDoubt front piece file → Overwrites at 1 file after → IsInDoubt front piece after
doubt_stays front piece file after at is_at (gate, (rest, is)) over =
    let n : ℕ = length piece in
    let whole : length file ≡ length front + suc (n + length rest) =
    ap length (from_gate front piece rest file gate is) ∙ length-append front (gate ∷ (piece ++ rest))
    ∙ ap (λ m. length front + suc m) (length-append piece rest) in
    let inside : at < length after = omega (arith, whole, over.no_shorter, is_at) in
    let low : at ≤ length file = omega (arith, whole, is_at) in
    let same : take at after ≡ take at file =
    same_front at file after low (omega (arith, inside)) (λ k less. over.below k (omega (arith, less, low)) less) in
    let before : take at file ≡ front = before_gate front piece rest file gate at is_at is in
    let stays : take n (drop (at + 1) after) ≡ take n (drop (at + 1) file) =
    part_stays file after at 1 (at + 1) n (omega arith) (omega (arith, whole, is_at)) over in
    let behind : drop (at + 1) file ≡ piece ++ rest = behind_gate front piece rest file gate at is_at is in
    let part : take n (drop (at + 1) file) ≡ piece = ap (take n) behind ∙ take-append_seam piece rest in
    let now : ℕ = get_or after at 0 in
    let others : List ℕ = drop n (drop (at + 1) after) in (
      now,
      (
        others,
        in_parts after at n inside ∙ ap (λ xs. xs ++ now ∷ take n (drop (at + 1) after) ++ others) (same ∙ before)
            ∙ ap (λ xs. front ++ now ∷ xs ++ others) (stays ∙ part),
      ),
    )

-- a file in doubt is one without the piece or with it
pub doubt_is : (front piece file : List ℕ) → IsInDoubt front piece file → IsWithOrWithout front piece file
doubt_is front piece file (gate, (rest, is)) = elim (cases_eq gate open_gate) [
  | inl same ↦ inr (rest, is ∙ ap (λ g. front ++ g ∷ piece ++ rest) same)
  | inr other ↦ inl (gate, piece ++ rest, other, from_gate front piece rest file gate is)
]

-- a piece that stands behind a gate that isn't open is in doubt
pub prepared_is : (front piece file : List ℕ) → IsPrepared front piece file → IsInDoubt front piece file
prepared_is front piece file (gate, closed, (rest, is)) = (gate, (rest, is))

-- the file with a framed piece is closed behind the piece
pub with_is : (number : ℕ) (moves front piece file : List ℕ) → piece ≡ framed number moves →
    IsWith front piece file → IsClosedAfter (front ++ opened number moves) file
with_is number moves front piece file framed_is (rest, is) =
    let body : List ℕ = numbered number moves in (
      closed_gate,
      rest,
      (λ same. omega (arith, same)),
      is ∙ ap (λ xs. front ++ open_gate ∷ xs ++ rest) framed_is
          ∙ append_assoc front (open_gate ∷ (body ++ closed_gate ∷ [])) rest
          ∙ ap (λ xs. front ++ (open_gate ∷ xs)) (append_assoc body (closed_gate ∷ []) rest)
          ∙ sym (append_assoc front (open_gate ∷ body) (closed_gate ∷ rest)),
    )

-- the file up to the closed gate behind the piece
pub gained : (number : ℕ) (moves front piece file : List ℕ) (place : ℕ) → piece ≡ framed number moves →
    place ≡ length front → IsWith front piece file →
    take (place + length piece) file ≡ front ++ opened number moves
gained number moves front piece file place framed_is place_is is =
    let bytes : List ℕ = front ++ opened number moves in
    let closed : IsClosedAfter bytes file = with_is number moves front piece file framed_is is in
    let body : List ℕ = numbered number moves in
    let long : length piece ≡ length body + 1 = ap length framed_is ∙ length-append body (closed_gate ∷ []) in
    let count : place + length piece ≡ length bytes =
    rw (length-append front (opened number moves)) (omega (arith, long, place_is)) in
    ap (λ n. take n file) count ∙ ap (take (length bytes)) closed.3 ∙ take-append_seam bytes (closed.0 ∷ closed.1)

-- a front as long as the file, or longer, is the file
take_past : (file : List ℕ) (n : ℕ) → length file ≤ n → take n file ≡ file
take_past file n past =
    sym (take_min n file) ∙ ap (λ m. take m file) (omega (arith, past)) ∙ take-length file

-- the gate of a file lies within it
gate_within : (place gate : ℕ) (rest file : List ℕ) → file ≡ take place file ++ gate ∷ rest → place < length file
gate_within place gate rest file is =
    let whole : length file ≡ length (take place file) + suc (length rest) =
    ap length is ∙ length-append (take place file) (gate ∷ rest) in
    elim (cases_lt place (length file)) [
      | inl inside ↦ inside
      | inr past ↦
          let all : length (take place file) ≡ length file = ap length (take_past file place past) in
          absurd (omega (arith, whole, all))
    ]

-- and so it is at its place
gate_at : (place gate : ℕ) (rest file : List ℕ) → file ≡ take place file ++ gate ∷ rest →
    place ≡ length (take place file)
gate_at place gate rest file is =
    let inside : place < length file = gate_within place gate rest file is in
    sym (length-take-le place file (omega (arith, inside)))

-- the closed gate of a file lies within it
pub closed_within : (place : ℕ) (file : List ℕ) → IsClosedAfter (take place file) file → place < length file
closed_within place file (gate, rest, closed, is) = gate_within place gate rest file is

-- a prepared piece stands behind a closed gate
pub prepared_closed : (front piece file : List ℕ) → IsPrepared front piece file → IsClosedAfter front file
prepared_closed front piece file (gate, closed, (rest, is)) =
    (gate, piece ++ rest, closed, from_gate front piece rest file gate is)

-- the gate of a piece in doubt is at its place
pub doubt_at : (place : ℕ) (piece file : List ℕ) → IsInDoubt (take place file) piece file →
    place ≡ length (take place file)
doubt_at place piece file (gate, (rest, is)) =
    gate_at place gate (piece ++ rest) file (from_gate (take place file) piece rest file gate is)

-- and lies within the file
pub doubt_within : (place : ℕ) (piece file : List ℕ) → IsInDoubt (take place file) piece file → place < length file
doubt_within place piece file (gate, (rest, is)) =
    gate_within place gate (piece ++ rest) file (from_gate (take place file) piece rest file gate is)

-- what stands up to the gate of a piece in doubt
pub doubt_front : (front piece file : List ℕ) (place : ℕ) → place ≡ length front →
    IsInDoubt front piece file → take place file ≡ front
doubt_front front piece file place is_at (gate, (rest, is)) = before_gate front piece rest file gate place is_at is

-- and behind it
pub doubt_piece : (front piece file : List ℕ) (place : ℕ) → place ≡ length front →
    IsInDoubt front piece file → take (length piece) (drop (place + 1) file) ≡ piece
doubt_piece front piece file place is_at (gate, (rest, is)) =
    ap (take (length piece)) (behind_gate front piece rest file gate place is_at is) ∙ take-append_seam piece rest

-- without the piece
pub shut_is : (front piece file : List ℕ) → HasBehind front closed_gate piece file → IsClosedAfter front file
shut_is front piece file (rest, is) =
    (closed_gate, piece ++ rest, (λ same. omega (arith, same)), from_gate front piece rest file closed_gate is)

-- what stands up to the gate of a file that is closed there
pub front_is : (front file : List ℕ) (place : ℕ) → place ≡ length front → IsClosedAfter front file →
    take place file ≡ front
front_is front file place is_at (gate, rest, closed, is) =
    ap (λ n. take n file) is_at ∙ ap (take (length front)) is ∙ take-append_seam front (gate ∷ rest)

-- a front is no longer than the place up to which it is taken
pub front_within : (place : ℕ) (file : List ℕ) → length (take place file) < place + 1
front_within place file = rw length-take (omega arith)

-- the gate is at its place
pub gate_is_at : (place : ℕ) (file : List ℕ) → IsClosedAfter (take place file) file →
    place ≡ length (take place file)
gate_is_at place file (gate, rest, closed, is) = gate_at place gate rest file is

-- Whether a piece that may come next stands at a place of a file.
use Rattle.std.proofs.Common.{◌≡◌, inl, inr, sym, ap, subst, ◌∙◌, arith, ℕ, ◌+◌, ◌<◌, ◌≤◌, List, [], ◌∷◌, ◌++◌, length, take, drop, length-append}
use Rattle.std.specs.Prelude.{All}
use Rattle.std.specs.Int.{w64, to_be_bytes}
use Rattle.std.proofs.Math.Seq.{take-add, take-append_seam}
use Rattle.std.proofs.lemmas.List.{length-drop, length-take-le, take-append-drop}
use Rattle.std.proofs.lemmas.List.Elements.{All-drop, All-take}
use Rattle.fk_job.specs.Spellings.{AreBytes}
use Rattle.fk_journal.specs.Limits.{greatest_number}
use Rattle.fk_journal.specs.Pieces.{open_gate, numbered, opened, BeginWith}
use Rattle.fk_model.specs.declared.move_.Move.{Move}
use Rattle.fk_model.specs.State.{untold}
use Rattle.fk_model.specs.Changes.{after_moves}
use Rattle.fk_model.specs.Spellings.{HasSpelling}
use Rattle.fk_moves.specs.Lists.{Spells}
use Rattle.fk_moves.specs.Spelling.{word_bytes, moves_bytes}
use Rattle.fk_moves.proofs.ListLaws.{one_list}
use Rattle.fk_lives.specs.Damages.{HasNumber, AreNext, IsNextPiece}
use Rattle.fk_lives.specs.Files.{Contents, moves_in, number_in}
use Rattle.fk_lives.proofs.Choices.{IsKnown, known_le, known_bytes, known_both}
use Rattle.fk_lives.proofs.Good.{spelled_each}
use Rattle.fk_lives.proofs.Headers.{same_at}
use Rattle.fk_lives.proofs.ReadOrNot.{IsFound, found_moves, known_any, known_next}

-- a piece with this number and these moves stands on the bytes, part by part
record IsPiece (number : ℕ) (body bytes : List ℕ) : Type 0 where
  pub within : number ≤ greatest_number
  pub gate : take 1 bytes ≡ open_gate ∷ []
  pub named : take 8 (drop 1 bytes) ≡ word_bytes number
  pub count : HasNumber 9 (length body) bytes
  pub moves : take (length body) (drop 17 bytes) ≡ body
  pub there : 17 + length body ≤ length bytes

piece_length : (number : ℕ) (body : List ℕ) → length (opened number body) ≡ 17 + length body
unfolding numbered
piece_length number body =
    omega (arith, length-append (to_be_bytes w64 number ++ to_be_bytes w64 (length body)) body)

parts_of : (number : ℕ) (body bytes : List ℕ) → BeginWith number body bytes → IsPiece number body bytes
unfolding numbered word_bytes
parts_of number body bytes begins =
    let n = length (opened number body) in
    let tail = drop n bytes in
    let whole : bytes ≡ opened number body ++ tail =
    sym (take-append-drop n bytes) ∙ ap (λ (xs : List ℕ). xs ++ tail) begins.front in
    record {
      within = begins.within;
      gate = ap (take 1) whole;
      named = ap (λ (xs : List ℕ). take 8 (drop 1 xs)) whole;
      count = record { word = begins.fits; bytes = ap (λ (xs : List ℕ). take 8 (drop 9 xs)) whole };
      moves = ap (λ (xs : List ℕ). take (length body) (drop 17 xs)) whole ∙ take-append_seam body tail;
      there = omega (
        arith,
        ap length whole,
        length-append (opened number body) tail,
        piece_length number body,
      );
    }

four_are : (a b c d gate number count body : List ℕ) → a ≡ gate → b ≡ number → c ≡ count → d ≡ body
    → a ++ b ++ c ++ d ≡ gate ++ number ++ count ++ body
four_are a b c d gate number count body one two three four = cc

begins_of : (number : ℕ) (body bytes : List ℕ) → IsPiece number body bytes → BeginWith number body bytes
unfolding numbered word_bytes
begins_of number body bytes is = record {
  front = ap (λ (n : ℕ). take n bytes) (piece_length number body)
      ∙ take-add 17 (length body) bytes
      ∙ ap (λ (xs : List ℕ). xs ++ take (length body) (drop 17 bytes))
      (take-add 9 8 bytes ∙ ap (λ (xs : List ℕ). xs ++ take 8 (drop 9 bytes)) (take-add 1 8 bytes))
      ∙ four_are (take 1 bytes) (take 8 (drop 1 bytes)) (take 8 (drop 9 bytes)) (take (length body) (drop 17 bytes))
      (open_gate ∷ []) (word_bytes number) (word_bytes (length body)) body is.gate is.named is.count.bytes is.moves;
  fits = is.count.word;
  within = is.within;
}

-- a piece of moves
record IsPieceOf (number : ℕ) (moves : List Move) (bytes : List ℕ) : Type 0 where
  pub begins : BeginWith number (moves_bytes moves) bytes
  pub each : All HasSpelling moves

found_body : (number n : ℕ) (bytes : List ℕ) (moves : List Move) → number ≤ greatest_number
    → take 1 bytes ≡ open_gate ∷ [] → take 8 (drop 1 bytes) ≡ word_bytes number → HasNumber 9 n bytes
    → 17 + n ≤ length bytes → Spells (take n (drop 17 bytes)) moves → IsPieceOf number moves bytes
found_body number n bytes moves within gate is_number has there spells =
    let count : length (moves_bytes moves) ≡ n =
    ap length (sym spells.joined) ∙ length-take-le n (drop 17 bytes) (omega (arith, there, length-drop 17 bytes)) in
    record {
      begins = begins_of number (moves_bytes moves) bytes (record {
        within = within;
        gate = gate;
        named = is_number;
        count = subst (λ (m : ℕ). HasNumber 9 m bytes) (sym count) has;
        moves = ap (λ (m : ℕ). take m (drop 17 bytes)) count ∙ spells.joined;
        there = omega (arith, there, count);
      });
      each = spells.each;
    }

-- a piece of other moves has as many bytes, and spells them
body_spells : (number n : ℕ) (bytes : List ℕ) (moves : List Move) → HasNumber 9 n bytes
    → IsPieceOf number moves bytes → (17 + n ≤ length bytes) × Spells (take n (drop 17 bytes)) moves
body_spells number n bytes moves has is =
    let parts = parts_of number (moves_bytes moves) bytes is.begins in
    let same : n ≡ length (moves_bytes moves) = same_at 9 (length (moves_bytes moves)) n bytes parts.count has in (
      omega (arith, same, parts.there),
      record {
        each = is.each;
        joined = ap (λ (m : ℕ). take m (drop 17 bytes)) same ∙ parts.moves;
      },
    )

found_behind_head : (number n : ℕ) (bytes : List ℕ) → AreBytes bytes → number ≤ greatest_number
    → take 1 bytes ≡ open_gate ∷ [] → take 8 (drop 1 bytes) ≡ word_bytes number → HasNumber 9 n bytes
    → IsFound (λ moves. IsPieceOf number moves bytes)
found_behind_head number n bytes all within gate named has =
    elim (known_le (17 + n) (length bytes)) [
      | inr short ↦ inr (λ moves is. short (body_spells number n bytes moves has is).0)
      | inl there ↦
          elim (found_moves (take n (drop 17 bytes)) (All-take (λ byte. byte < 256) n (drop 17 bytes)
          (All-drop (λ byte. byte < 256) 17 bytes all))) [
            | inl (moves, spells) ↦ inl (moves, found_body number n bytes moves within gate named has there spells)
            | inr none ↦ inr (λ moves is. none moves (body_spells number n bytes moves has is).1)
          ]
    ]

found_piece : (number : ℕ) (bytes : List ℕ) → AreBytes bytes → IsFound (λ moves. IsPieceOf number moves bytes)
found_piece number bytes all =
    elim (known_both (known_le number greatest_number) (known_both (known_bytes (take 1 bytes) (open_gate ∷ []))
    (known_bytes (take 8 (drop 1 bytes)) (word_bytes number)))) [
      | inr other ↦
          inr (λ moves is. let parts = parts_of number (moves_bytes moves) bytes is.begins in
          other (parts.within, (parts.gate, parts.named)))
      | inl (within, (gate, named)) ↦
          elim (known_any 9 bytes) [
            | inl (n, has) ↦ found_behind_head number n bytes all within gate named has
            | inr none ↦
                inr (λ moves is. none (
                  length (moves_bytes moves),
                  (parts_of number (moves_bytes moves) bytes is.begins).count,
                ))
          ]
    ]

-- the next piece of a file
piece_of : (contents : Contents) (at : ℕ) (moves : List Move) (file : List ℕ) → IsNextPiece contents at moves file
    → IsPieceOf (number_in contents) moves (drop at file)
piece_of contents at moves file next = record {
  begins = next.begins;
  each = spelled_each (after_moves untold (moves_in contents)) moves next.next.fit;
}

one_piece : (number : ℕ) (moves others : List Move) (bytes : List ℕ) → IsPieceOf number moves bytes
    → IsPieceOf number others bytes → others ≡ moves
one_piece number moves others bytes first second =
    let parts = parts_of number (moves_bytes moves) bytes first.begins in
    let one = body_spells number (length (moves_bytes moves)) bytes moves parts.count first in
    let two = body_spells number (length (moves_bytes moves)) bytes others parts.count second in
    one_list (take (length (moves_bytes moves)) (drop 17 bytes)) moves others one.1 two.1

next_of : (contents : Contents) (at : ℕ) (file : List ℕ) (moves : List Move)
    → IsPieceOf (number_in contents) moves (drop at file) → IsKnown (AreNext (moves_in contents) moves)
    → IsFound (λ others. IsNextPiece contents at others file)
next_of contents at file moves is (inl next) = inl (moves, record { begins = is.begins; next = next })
next_of contents at file moves is (inr fails) =
    inr (λ others next. fails (subst (AreNext (moves_in contents))
    (one_piece (number_in contents) moves others (drop at file) is (piece_of contents at others file next)) next.next))

pub found_next : (contents : Contents) (at : ℕ) (file : List ℕ) → AreBytes file
    → IsFound (λ moves. IsNextPiece contents at moves file)
found_next contents at file all =
    elim (found_piece (number_in contents) (drop at file) (All-drop (λ byte. byte < 256) at file all)) [
      | inl (moves, is) ↦ next_of contents at file moves is (known_next (moves_in contents) moves is.each)
      | inr none ↦ inr (λ moves next. none moves (piece_of contents at moves file next))
    ]

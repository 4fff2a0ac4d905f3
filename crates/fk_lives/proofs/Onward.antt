-- A file read from its front on: behind its header and its snapshot, and behind each piece, it is good so far.
use Rattle.std.proofs.Common.{◌≡◌, inl, inr, refl, sym, ap, subst, ◌∙◌, arith, ℕ, ◌+◌, List, [], ◌∷◌, ◌++◌, length, take, drop, length-append}
use Rattle.std.proofs.Math.Seq.{take-add}
use Rattle.std.proofs.lemmas.Bool.{cases_eq}
use Rattle.std.proofs.lemmas.List.{append-nil, length-drop, length-take-le}
use Rattle.std.proofs.lemmas.List.Elements.{All-cons, All-nil}
use Rattle.fk_journal.specs.Pieces.{open_gate, opened, spelled, HasLength, IsClosedAfter, IsClosedAt}
use Rattle.fk_model.specs.declared.move_.Move.{Move}
use Rattle.fk_model.specs.State.{untold}
use Rattle.fk_model.specs.Changes.{after_moves, FitInTurn, EndsWithTotals}
use Rattle.fk_model.proofs.Leading.{fit_both}
use Rattle.fk_moves.specs.Spelling.{word_bytes, moves_bytes}
use Rattle.fk_lives.specs.declared.header.Header.{Header}
use Rattle.fk_lives.specs.Files.{magic, version, Contents, IsFileOf, IsBlank, head_of, front_of, moves_in, number_in}
use Rattle.fk_lives.specs.Standing.{Stands}
use Rattle.fk_lives.specs.Damages.{HasHeader, IsSnapshot, IsGoodUpTo, IsNextPiece}
use Rattle.fk_lives.proofs.Fronts.{with_piece, front_more, moves_more, contents_more, file_of, stands_file}

-- ---- behind the snapshot

-- what a file tells up to its first piece
abbrev pub told_first : Header → List Move → Contents
told_first header moves = record {
  generation = header.generation;
  base = header.base;
  snapshot = moves;
  pieces = [];
}

-- the gate of a file that isn't blank
gate_open : (file : List ℕ) → ¬ IsBlank file → take 1 file ≡ open_gate ∷ []
gate_open [] some = absurd (some (inl (omega arith)))
gate_open (gate ∷ file) some = elim (cases_eq gate open_gate) [
  | inl same ↦ ap (λ (g : ℕ). g ∷ []) same
  | inr other ↦ absurd (some (inr other))
]

-- the bytes of a snapshot are as many as the header says
pub snapshot_length : (n : ℕ) (moves : List Move) (file : List ℕ) → IsSnapshot n moves file
    → length (moves_bytes moves) ≡ n
snapshot_length n moves file is =
    ap length (sym is.spells.joined)
    ∙ length-take-le n (drop 34 file) (omega (arith, is.there, length-drop 34 file))

-- the place behind it
pub first_place : (header : Header) (moves : List Move) → length (front_of (told_first header moves))
    ≡ 34 + length (moves_bytes moves)
unfolding word_bytes spelled
first_place header moves = omega (arith, length-append (moves_bytes moves) [])

-- the seven parts of a file up to its first piece
parts_are : (a b c d e f g : List ℕ) (gate known number generation base count moves : List ℕ)
    → a ≡ gate → b ≡ known → c ≡ number → d ≡ generation → e ≡ base → f ≡ count → g ≡ moves
    → a ++ b ++ c ++ d ++ e ++ f ++ g ≡ gate ++ known ++ number ++ generation ++ base ++ count ++ moves
parts_are a b c d e f g gate known number generation base count moves one two three four five six seven = cc

first_parts : (file : List ℕ) (n : ℕ) → take (34 + n) file
    ≡ take 1 file ++ take 8 (drop 1 file) ++ take 1 (drop 9 file) ++ take 8 (drop 10 file)
    ++ take 8 (drop 18 file) ++ take 8 (drop 26 file) ++ take n (drop 34 file)
first_parts file n =
    take-add 34 n file
    ∙ ap (λ (xs : List ℕ). xs ++ take n (drop 34 file))
    (take-add 26 8 file
    ∙ ap (λ (xs : List ℕ). xs ++ take 8 (drop 26 file))
    (take-add 18 8 file
    ∙ ap (λ (xs : List ℕ). xs ++ take 8 (drop 18 file))
    (take-add 10 8 file
    ∙ ap (λ (xs : List ℕ). xs ++ take 8 (drop 10 file))
    (take-add 9 1 file
    ∙ ap (λ (xs : List ℕ). xs ++ take 1 (drop 9 file)) (take-add 1 8 file)))))

first_front : (header : Header) (moves : List Move) (file : List ℕ) → ¬ IsBlank file → HasHeader header file
    → IsSnapshot header.length moves file
    → take (34 + length (moves_bytes moves)) file ≡ front_of (told_first header moves)
unfolding word_bytes spelled
first_front header moves file some has is =
    let count = snapshot_length header.length moves file is in
    let bytes = moves_bytes moves in
    let snapshot : take (length bytes) (drop 34 file) ≡ bytes =
    ap (λ (m : ℕ). take m (drop 34 file)) count ∙ is.spells.joined in
    let lengths : take 8 (drop 26 file) ≡ word_bytes (length bytes) =
    has.snapshot.bytes ∙ ap word_bytes (sym count) in
    first_parts file (length bytes)
    ∙ parts_are (take 1 file) (take 8 (drop 1 file)) (take 1 (drop 9 file)) (take 8 (drop 10 file))
    (take 8 (drop 18 file)) (take 8 (drop 26 file)) (take (length bytes) (drop 34 file)) (open_gate ∷ []) magic
    (version ∷ []) (word_bytes header.generation) (word_bytes header.base) (word_bytes (length bytes)) bytes
    (gate_open file some) has.known has.versioned has.generation.0.bytes has.base.0.bytes lengths snapshot
    ∙ sym (append-nil (head_of (told_first header moves)))

pub good_first : (header : Header) (moves : List Move) (file : List ℕ) → ¬ IsBlank file → HasHeader header file
    → IsSnapshot header.length moves file → IsGoodUpTo (told_first header moves) file
good_first header moves file some has is = record {
  are = record {
    generation = has.generation.1;
    numbers = omega (arith, has.base.1);
    snapshot = omega (arith, snapshot_length header.length moves file is, has.snapshot.word);
    pieces = All-nil HasLength;
    lists = All-cons EndsWithTotals moves [] is.next.list (All-nil EndsWithTotals);
  };
  front = ap (λ (n : ℕ). take n file) (first_place header moves) ∙ first_front header moves file some has is;
  fit = subst (FitInTurn untold) (sym (append-nil moves)) is.next.fit;
}

-- ---- behind a piece

pub good_more : (contents : Contents) (moves : List Move) (file : List ℕ) → IsGoodUpTo contents file
    → IsNextPiece contents (length (front_of contents)) moves file → IsGoodUpTo (with_piece contents moves) file
good_more contents moves file good next =
    let front = front_of contents in
    let piece = opened (number_in contents) (moves_bytes moves) in
    record {
      are = contents_more contents moves good.are next.next.list next.begins.fits next.begins.within;
      front = ap (λ (xs : List ℕ). take (length xs) file) (front_more contents moves)
          ∙ ap (λ (n : ℕ). take n file) (length-append front piece)
          ∙ take-add (length front) (length piece) file
          ∙ ap (λ (xs : List ℕ). xs ++ take (length piece) (drop (length front) file)) good.front
          ∙ ap (λ (xs : List ℕ). front ++ xs) next.begins.front
          ∙ sym (front_more contents moves);
      fit = subst (FitInTurn untold) (sym (moves_more contents moves))
          (fit_both untold (moves_in contents) moves good.fit next.next.fit);
    }

-- ---- at a closed gate

pub good_end : (contents : Contents) (file : List ℕ) → IsGoodUpTo contents file
    → IsClosedAt (length (front_of contents)) file → IsFileOf contents file
good_end contents file good closed =
    file_of contents file good.are (subst (λ (front : List ℕ). IsClosedAfter front file) good.front closed)

pub good_stands : (contents : Contents) (a b : List ℕ) → IsGoodUpTo contents a
    → IsClosedAt (length (front_of contents)) a → IsBlank b → Stands a b (after_moves untold (moves_in contents))
good_stands contents a b good closed blank =
    stands_file contents a b (after_moves untold (moves_in contents)) (good_end contents a good closed) blank
    (record { fit = good.fit; come = refl })

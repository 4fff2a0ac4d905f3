-- Damages of a file, as a replay finds them.
use Rattle.std.proofs.Common.{◌≡◌, ap, sym, subst, ◌∙◌, ℕ, ◌^◌, ◌<◌, List, [], ◌∷◌, ◌++◌, length, take, drop, get_or, append_assoc}
use Rattle.std.specs.Prelude.{All}
use Rattle.std.proofs.lemmas.List.{take-append-drop}
use Rattle.std.proofs.lemmas.List.Elements.{All-cons, All-nil}
use Rattle.std.proofs.lemmas.Nat.{from_be_bytes-to_be_bytes_8}
use Rattle.std.proofs.Math.Seq.{take-append_seam, drop-append_seam}
use Rattle.std.specs.Int.{w64, to_be_bytes, from_be_bytes}
use Rattle.fk_journal.specs.Pieces.{open_gate, numbered, opened, BeginWith, IsClosedAt, IsDamagedAt}
use Rattle.fk_journal.proofs.Files.{gate_is_at}
use Rattle.fk_model.specs.declared.move_.Move.{Move}
use Rattle.fk_model.specs.Changes.{FitInTurn, after_move}
use Rattle.fk_model.specs.Spellings.{HasSpelling}
use Rattle.fk_model.specs.State.{KeptState, untold}
use Rattle.fk_moves.specs.Spelling.{moves_bytes}
use Rattle.fk_lives.specs.Damages.{IsGoodUpTo, IsPieceDamagedAt, IsSnapshotDamaged}
use Rattle.fk_lives.specs.Files.{snapshot_at}
use Rattle.fk_store.specs.StoreState.{IsWritten}
use Rattle.fk_store.specs.Replaying.{IsSnapshotDue, IsUnfit}

-- the snapshot spells no moves that fit
pub snapshot_unfit : (count number place : ℕ) (file : List ℕ) → IsSnapshotDue count number place file →
    IsUnfit (take count (drop snapshot_at file)) untold → IsSnapshotDamaged file
snapshot_unfit count number place file due unfit = record {
  header = due.header;
  right = due.right;
  none = λ moves is. unfit moves (rw (← due.bytes) is.spells) is.next.list is.next.fit;
}

-- ---- one piece at a place

-- what stands behind the number of a piece
parts : (number : ℕ) (moves bytes : List ℕ) → BeginWith number moves bytes →
    (rest : List ℕ)
    × (bytes ≡ (open_gate ∷ to_be_bytes w64 number) ++ (to_be_bytes w64 (length moves) ++ (moves ++ rest)))
unfolding numbered
parts number moves bytes begins =
    let one : List ℕ = open_gate ∷ to_be_bytes w64 number in
    let two : List ℕ = to_be_bytes w64 (length moves) in
    let rest : List ℕ = drop (length (opened number moves)) bytes in (
      rest,
      sym (take-append-drop (length (opened number moves)) bytes) ∙ ap (λ xs. xs ++ rest) begins.front
          ∙ append_assoc (one ++ two) moves rest ∙ append_assoc one two (moves ++ rest),
    )

length_is : (number : ℕ) (moves bytes : List ℕ) → BeginWith number moves bytes →
    take 8 (drop 9 bytes) ≡ to_be_bytes w64 (length moves)
length_is number moves bytes begins =
    let behind = parts number moves bytes begins in
    let two : List ℕ = to_be_bytes w64 (length moves) in
    ap (λ xs. take 8 (drop 9 xs)) behind.1
    ∙ ap (take 8) (drop-append_seam (open_gate ∷ to_be_bytes w64 number) (two ++ (moves ++ behind.0)))
    ∙ take-append_seam two (moves ++ behind.0)

-- a number is known by its bytes
same_number : (one other : ℕ) → one < 2 ^ 64 → other < 2 ^ 64 →
    to_be_bytes w64 one ≡ to_be_bytes w64 other → one ≡ other
same_number one other small small_too same =
    sym (from_be_bytes-to_be_bytes_8 one small) ∙ ap (from_be_bytes w64) same
    ∙ from_be_bytes-to_be_bytes_8 other small_too

-- no two pieces of a number stand at one place
one_piece : (number : ℕ) (moves others bytes : List ℕ) → BeginWith number moves bytes →
    BeginWith number others bytes → others ≡ moves
one_piece number moves others bytes begins begin_too =
    let here = parts number moves bytes begins in
    let there = parts number others bytes begin_too in
    let count : length others ≡ length moves =
    same_number (length others) (length moves) begin_too.fits begins.fits
    (sym (length_is number others bytes begin_too) ∙ length_is number moves bytes begins) in
    let one : List ℕ = open_gate ∷ to_be_bytes w64 number in
    let behind : drop 9 bytes ≡ to_be_bytes w64 (length moves) ++ (moves ++ here.0) =
    ap (drop 9) here.1 ∙ drop-append_seam one (to_be_bytes w64 (length moves) ++ (moves ++ here.0)) in
    let behind_too : drop 9 bytes ≡ to_be_bytes w64 (length others) ++ (others ++ there.0) =
    ap (drop 9) there.1 ∙ drop-append_seam one (to_be_bytes w64 (length others) ++ (others ++ there.0)) in
    let left : drop 8 (drop 9 bytes) ≡ moves ++ here.0 =
    ap (drop 8) behind ∙ drop-append_seam (to_be_bytes w64 (length moves)) (moves ++ here.0) in
    let left_too : drop 8 (drop 9 bytes) ≡ others ++ there.0 =
    ap (drop 8) behind_too ∙ drop-append_seam (to_be_bytes w64 (length others)) (others ++ there.0) in
    sym (take-append_seam others there.0) ∙ ap (λ n. take n (others ++ there.0)) count
    ∙ ap (take (length moves)) (sym left_too ∙ left) ∙ take-append_seam moves here.0

-- where a piece begins no gate is closed
not_closed : (number place : ℕ) (moves file : List ℕ) → BeginWith number moves (drop place file) →
    ¬ IsClosedAt place file
not_closed number place moves file begins (gate, rest, closed, is) =
    let here : IsClosedAt place file = (gate, rest, closed, is) in
    let behind : drop place file ≡ gate ∷ rest =
    ap (λ n. drop n file) (gate_is_at place file here) ∙ ap (drop (length (take place file))) is
    ∙ drop-append_seam (take place file) (gate ∷ rest) in
    closed (ap (λ xs. get_or xs 0 0)
    (ap (take (length (opened number moves))) (sym behind) ∙ begins.front))

-- ---- damages of a piece

-- what was made so far is what the file tells up to there
good : (number place : ℕ) (file front : List ℕ) (kept : KeptState) (written : IsWritten front kept number place) →
    front ≡ take place file → IsGoodUpTo written.contents file
good number place file front kept written is = record {
  are = written.are;
  front = ap (λ n. take n file) (sym written.behind) ∙ sym is ∙ written.whole;
  fit = written.leads.fit;
}

-- no piece is there
pub piece_unread : (number place : ℕ) (file front : List ℕ) (kept : KeptState) →
    IsWritten front kept number place → front ≡ take place file → IsDamagedAt number place file →
    IsPieceDamagedAt place file
piece_unread number place file front kept written is damaged = record {
  contents = written.contents;
  good = good number place file front kept written is;
  here = written.behind;
  not_closed = damaged.not_closed;
  no_piece = λ moves next. damaged.no_piece (moves_bytes moves)
      (subst (λ n. BeginWith n (moves_bytes moves) (drop place file)) (sym written.next) next.begins);
}

-- moves that fit have a spelling
all_spelled : (kept : KeptState) (moves : List Move) → FitInTurn kept moves → All HasSpelling moves
unfolding FitInTurn
all_spelled kept [] fit = All-nil HasSpelling
all_spelled kept (move ∷ moves) fit =
    All-cons HasSpelling move moves fit.0.spelled (all_spelled (after_move kept move) moves fit.1)

-- the piece that is there spells no moves that fit
pub piece_unfit : (number place : ℕ) (file front bytes : List ℕ) (kept : KeptState) →
    IsWritten front kept number place → front ≡ take place file → BeginWith number bytes (drop place file) →
    IsUnfit bytes kept → IsPieceDamagedAt place file
piece_unfit number place file front bytes kept written is begins unfit = record {
  contents = written.contents;
  good = good number place file front kept written is;
  here = written.behind;
  not_closed = not_closed number place bytes file begins;
  no_piece = λ moves next.
      let there = subst (λ n. BeginWith n (moves_bytes moves) (drop place file)) (sym written.next) next.begins in
      let fit : FitInTurn kept moves = rw written.leads.come next.next.fit in
      unfit moves (record {
        each = all_spelled kept moves fit;
        joined = sym (one_piece number bytes (moves_bytes moves) (drop place file) begins there);
      }) next.next.list fit;
}

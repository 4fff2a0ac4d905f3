-- What the images of two files stand for, where a piece may be owed.
use Rattle.std.proofs.Common.{◌≡◌, inl, inr, ap, sym, subst, ◌∙◌, arith, ℕ, ◌+◌, List, ◌++◌, length, length-append, Option, None, Some}
use Rattle.fk_journal.specs.Pieces.{framed, opened, IsClosedAfter}
use Rattle.fk_journal.specs.Standing.{IsAtRest, IsWith, IsWithOrWithout}
use Rattle.fk_journal.proofs.Files.{doubt_is, with_is}
use Rattle.fk_model.specs.declared.move_.Move.{Move}
use Rattle.fk_model.specs.State.{KeptState, untold}
use Rattle.fk_model.specs.Changes.{after_moves, Lead}
use Rattle.fk_moves.specs.Spelling.{moves_bytes}
use Rattle.fk_lives.specs.Files.{IsBlank, front_of, moves_in, number_in}
use Rattle.fk_lives.specs.Standing.{HaveNumbers, Stands}
use Rattle.fk_lives.specs.Doubt.{StandsWithDoubt}
use Rattle.fk_lives.proofs.Fronts.{contents_more, file_of, front_more, lead_more, moves_more, number_more, stands_file, with_piece}
use Rattle.fk_desk.specs.Keeping.{StandsWithOrWithout}
use Rattle.fk_store.specs.StoreState.{IsOwedFor, IsWritten, MayFollow}

-- closed behind what is kept
pub closed_stands : (front : List ℕ) (kept : KeptState) (number place : ℕ) (a b : List ℕ) →
    IsWritten front kept number place → IsClosedAfter front a → IsBlank b → Stands a b kept
closed_stands front kept number place a b written closed blank =
    stands_file written.contents a b kept
    (file_of written.contents a written.are (subst (λ f. IsClosedAfter f a) written.whole closed)) blank written.leads

-- what a file tells up to the gate behind one more piece
pub written_more : (front : List ℕ) (kept : KeptState) (number place : ℕ) (moves : List Move) →
    IsWritten front kept number place → MayFollow kept number moves →
    IsWritten (front ++ opened number (moves_bytes moves)) (after_moves kept moves) (number + 1)
    (place + length (opened number (moves_bytes moves)))
written_more front kept number place moves written follow =
    let contents = written.contents in
    let bytes = moves_bytes moves in
    let same : front ++ opened number bytes ≡ front_of (with_piece contents moves) =
    ap (λ n. front ++ opened n bytes) written.next
    ∙ ap (λ f. f ++ opened (number_in contents) bytes) written.whole
    ∙ sym (front_more contents moves) in
    record {
      contents = with_piece contents moves;
      are = contents_more contents moves written.are follow.list follow.short
          (omega (arith, follow.within, written.next));
      whole = same;
      leads = subst (λ (all : List Move). Lead untold all (after_moves kept moves)) (sym (moves_more contents moves))
          (lead_more untold kept (moves_in contents) moves written.leads follow.fit);
      next = omega (arith, written.next, number_more contents moves);
      behind = omega (
        arith,
        written.behind,
        ap length same,
        ap length written.whole,
        length-append front (opened number bytes),
      );
    }

-- with the piece
pub with_stands : (front : List ℕ) (kept : KeptState) (number place : ℕ) (moves : List Move) (piece a b : List ℕ) →
    IsWritten front kept number place → MayFollow kept number moves → piece ≡ framed number (moves_bytes moves) →
    IsWith front piece a → IsBlank b → Stands a b (after_moves kept moves)
with_stands front kept number place moves piece a b written follow is with blank =
    closed_stands (front ++ opened number (moves_bytes moves)) (after_moves kept moves) (number + 1)
    (place + length (opened number (moves_bytes moves))) a b (written_more front kept number place moves written follow)
    (with_is number (moves_bytes moves) front piece a is with) blank

-- without the piece, or with it
pub either_stands : (front : List ℕ) (kept : KeptState) (number place : ℕ) (moves : List Move) (piece a b : List ℕ) →
    IsWritten front kept number place → MayFollow kept number moves → piece ≡ framed number (moves_bytes moves) →
    IsWithOrWithout front piece a → IsBlank b → StandsWithOrWithout kept moves a b
either_stands front kept number place moves piece a b written follow is (inl closed) blank =
    inl (closed_stands front kept number place a b written closed blank)
either_stands front kept number place moves piece a b written follow is (inr with) blank =
    inr (with_stands front kept number place moves piece a b written follow is with blank)

-- as a journal rests: closed where nothing is owed, and else with the piece in doubt
pub rest_stands : (front : List ℕ) (kept : KeptState) (number place : ℕ) (owed : Option (List ℕ))
    (doubt : Option (List Move)) (a b : List ℕ) →
    IsWritten front kept number place → IsOwedFor kept number owed doubt → IsAtRest front owed a → IsBlank b →
    StandsWithDoubt kept doubt a b
rest_stands front kept number place None None a b written owes rest blank =
    closed_stands front kept number place a b written rest blank
rest_stands front kept number place None (Some moves) a b written owes rest blank = absurd owes
rest_stands front kept number place (Some piece) None a b written owes rest blank = absurd owes
rest_stands front kept number place (Some piece) (Some moves) a b written owes rest blank =
    either_stands front kept number place moves piece a b written owes.1 owes.0 (doubt_is front piece a rest) blank

-- a file that is closed behind what is kept has its numbers
pub closed_numbers : (front : List ℕ) (kept : KeptState) (number place : ℕ) (a b : List ℕ) →
    IsWritten front kept number place → IsClosedAfter front a → IsBlank b → HaveNumbers a b number (place + 1)
closed_numbers front kept number place a b written closed blank = record {
  told = Some written.contents;
  tells = (file_of written.contents a written.are (subst (λ f. IsClosedAfter f a) written.whole closed), blank);
  next = written.next;
  behind = ap (λ (n : ℕ). n + 1) written.behind;
}

-- where nothing is in doubt, files as a journal rests stand for what is kept
pub rest_reads : (front : List ℕ) (kept : KeptState) (number place : ℕ) (owed : Option (List ℕ))
    (doubt : Option (List Move)) (a b : List ℕ) →
    IsWritten front kept number place → IsOwedFor kept number owed doubt → doubt ≡ None → IsAtRest front owed a →
    IsBlank b → Stands a b kept × HaveNumbers a b number (place + 1)
rest_reads front kept number place None doubt a b written owes none rest blank = (
  closed_stands front kept number place a b written rest blank,
  closed_numbers front kept number place a b written rest blank,
)
rest_reads front kept number place (Some piece) doubt a b written owes none rest blank = absurd (rw none at owes)

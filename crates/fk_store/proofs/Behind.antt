-- One piece more of a file, behind what was made so far.
use Rattle.std.proofs.Common.{◌≡◌, ap, sym, subst, ◌∙◌, arith, ℕ, ◌+◌, List, ◌++◌, length, take, drop, length-append}
use Rattle.fk_journal.specs.Limits.{overhead}
use Rattle.fk_journal.specs.Pieces.{numbered, opened, BeginWith, HasLength}
use Rattle.fk_store.proofs.Taken.{take_on}
use Rattle.std.specs.Int.{w64, to_be_bytes}
use Rattle.fk_model.specs.Changes.{Lead}
use Rattle.fk_model.specs.State.{KeptState, untold}
use Rattle.fk_moves.specs.Spelling.{moves_bytes}
use Rattle.fk_lives.specs.Files.{Contents, front_of, moves_in, number_in}
use Rattle.fk_lives.proofs.Fronts.{with_piece, front_more, number_more, moves_more, contents_more, lead_more}
use Rattle.fk_store.specs.StoreState.{IsWritten}
use Rattle.fk_store.specs.Replaying.{IsMade}

-- the bytes of a piece with its gate
pub opened_long : (number : ℕ) (bytes : List ℕ) → length (opened number bytes) ≡ overhead + length bytes
unfolding numbered
opened_long number bytes =
    let body : length (numbered number bytes) ≡ 16 + length bytes =
    length-append (to_be_bytes w64 number ++ to_be_bytes w64 (length bytes)) bytes in
    omega (arith, body)

-- a read of the file gives the piece behind what it gave so far
pub front_on : (number place : ℕ) (file front bytes : List ℕ) → front ≡ take place file →
    BeginWith number bytes (drop place file) →
    front ++ opened number bytes ≡ take (place + overhead + length bytes) file
front_on number place file front bytes is begins =
    let n : ℕ = length (opened number bytes) in
    let none : place ≡ 0 + place = omega arith in
    let total : place + n ≡ place + overhead + length bytes = omega (arith, opened_long number bytes) in
    ap (λ xs. xs ++ opened number bytes) is ∙ ap (λ xs. take place file ++ xs) (sym begins.front)
    ∙ ap (λ m. take place file ++ take n (drop m file)) none
    ∙ sym (take_on file 0 place n) ∙ ap (λ m. take m file) total

-- the piece was made
pub piece_written : (number place : ℕ) (file front bytes : List ℕ) (before after : KeptState) →
    IsWritten front before number place → BeginWith number bytes (drop place file) → IsMade bytes before after →
    IsWritten (front ++ opened number bytes) after (number + 1) (place + overhead + length bytes)
piece_written number place file front bytes before after written begins made =
    let contents : Contents = written.contents in
    let moves = made.moves in
    let short : HasLength (moves_bytes moves) = subst HasLength made.spells.joined begins.fits in
    let whole : front ++ opened number bytes ≡ front_of (with_piece contents moves) =
    ap (λ xs. xs ++ opened number bytes) written.whole
    ∙ ap (λ n. front_of contents ++ opened n bytes) written.next
    ∙ ap (λ xs. front_of contents ++ opened (number_in contents) xs) made.spells.joined
    ∙ sym (front_more contents moves) in
    let on : Lead untold (moves_in contents ++ moves) after =
    rw made.leads.come (lead_more untold before (moves_in contents) moves written.leads made.leads.fit) in
    record {
      contents = with_piece contents moves;
      are = contents_more contents moves written.are made.list short (omega (arith, begins.within, written.next));
      whole = whole;
      leads = rw moves_more on;
      next = omega (arith, written.next, number_more contents moves);
      behind = omega (
        arith,
        opened_long number bytes,
        ap length whole,
        length-append front (opened number bytes),
        ap length written.whole,
        written.behind,
      );
    }

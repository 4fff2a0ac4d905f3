-- The head of a file, whose header is right, and the snapshot behind it.
use Rattle.std.proofs.Common.{◌≡◌, inl, inr, ap, sym, ◌∙◌, arith, ℕ, ◌≤◌, List, [], ◌∷◌, ◌++◌, length, take, drop, length-drop}
use Rattle.std.proofs.lemmas.Bool.{cases_eq}
use Rattle.std.proofs.lemmas.List.{append-nil, length-take-le}
use Rattle.std.proofs.lemmas.List.Elements.{All-cons, All-nil}
use Rattle.fk_journal.specs.Pieces.{open_gate, spelled, HasLength}
use Rattle.fk_store.proofs.Taken.{take_on}
use Rattle.fk_model.specs.Changes.{EndsWithTotals}
use Rattle.fk_model.specs.State.{KeptState, untold}
use Rattle.fk_moves.specs.Spelling.{word_bytes, moves_bytes}
use Rattle.fk_lives.specs.declared.header.Header.{Header}
use Rattle.fk_lives.specs.Damages.{HasHeader}
use Rattle.fk_lives.specs.Files.{Contents, IsBlank, front_of, head_of, header_bytes, magic, snapshot_at, version}
use Rattle.fk_store.specs.StoreState.{IsWritten}
use Rattle.fk_store.specs.Replaying.{IsMade, IsSnapshotDue}

-- the gate of a file that isn't blank is open
open_first : (file : List ℕ) → ¬ IsBlank file → take 1 file ≡ open_gate ∷ []
open_first [] some = absurd (some (inl (omega arith)))
open_first (gate ∷ rest) some = elim (cases_eq gate open_gate) [
  | inl same ↦ ap (λ g. g ∷ []) same
  | inr other ↦ absurd (some (inr other))
]

-- the gate and the header
header_is : (header : Header) (file : List ℕ) → ¬ IsBlank file → HasHeader header file →
    take snapshot_at file ≡ open_gate ∷ header_bytes header
header_is header file some right =
    let g : List ℕ = word_bytes header.generation in
    let b : List ℕ = word_bytes header.base in
    let l : List ℕ = word_bytes header.length in
    let known : take 9 file ≡ open_gate ∷ magic =
    take_on file 0 1 8 ∙ ap (λ xs. xs ++ take 8 (drop 1 file)) (open_first file some)
    ∙ ap (λ xs. open_gate ∷ xs) right.known in
    let versioned : take 10 file ≡ (open_gate ∷ magic) ++ version ∷ [] =
    take_on file 0 9 1 ∙ ap (λ xs. xs ++ take 1 (drop 9 file)) known
    ∙ ap (λ xs. (open_gate ∷ magic) ++ xs) right.versioned in
    let generation : take 18 file ≡ (open_gate ∷ magic) ++ version ∷ g =
    take_on file 0 10 8 ∙ ap (λ xs. xs ++ take 8 (drop 10 file)) versioned
    ∙ ap (λ xs. (open_gate ∷ magic) ++ version ∷ xs) right.generation.0.bytes in
    let base : take 26 file ≡ (open_gate ∷ magic) ++ version ∷ g ++ b =
    take_on file 0 18 8 ∙ ap (λ xs. xs ++ take 8 (drop 18 file)) generation
    ∙ ap (λ xs. (open_gate ∷ magic) ++ version ∷ g ++ xs) right.base.0.bytes in
    take_on file 0 26 8 ∙ ap (λ xs. xs ++ take 8 (drop 26 file)) base
    ∙ ap (λ xs. (open_gate ∷ magic) ++ version ∷ g ++ b ++ xs) right.snapshot.bytes

-- the snapshot behind it was made
pub snapshot_written : (count number place : ℕ) (file front : List ℕ) (kept : KeptState) →
    IsSnapshotDue count number place file → front ≡ take place file →
    IsMade (take count (drop snapshot_at file)) untold kept → IsWritten front kept number place
unfolding spelled
snapshot_written count number place file front kept due is made =
    let header : Header = due.header in
    let contents : Contents = record {
      generation = header.generation;
      base = header.base;
      snapshot = made.moves;
      pieces = [];
    } in
    let bytes : List ℕ = moves_bytes made.moves in
    let left : count ≤ length (drop snapshot_at file) = rw length-drop (omega (arith, due.whole, due.behind)) in
    let count_is : length bytes ≡ header.length =
    ap length (sym made.spells.joined) ∙ length-take-le count (drop snapshot_at file) left ∙ sym due.bytes in
    let head : take place file ≡ head_of contents =
    ap (λ n. take n file) due.behind ∙ take_on file 0 snapshot_at count
    ∙ ap (λ xs. xs ++ take count (drop snapshot_at file)) (header_is header file due.gate due.right)
    ∙ ap (λ xs. (open_gate ∷ header_bytes header) ++ xs) made.spells.joined
    ∙ ap (λ n. (open_gate ∷ header_bytes (record header { length = n })) ++ bytes) (sym count_is) in
    let whole : front ≡ front_of contents = is ∙ head ∙ sym (append-nil (head_of contents)) in
    record {
      contents = contents;
      are = record {
        generation = due.right.generation.1;
        numbers = omega (arith, due.right.base.1);
        snapshot = omega (arith, count_is, due.right.snapshot.word);
        pieces = All-nil HasLength;
        lists = All-cons EndsWithTotals made.moves [] made.list (All-nil EndsWithTotals);
      };
      whole = whole;
      leads = rw append-nil made.leads;
      next = omega (arith, due.next);
      behind = sym (length-take-le place file due.whole) ∙ ap length (sym is ∙ whole);
    }

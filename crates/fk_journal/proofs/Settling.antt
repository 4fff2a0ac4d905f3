-- What closing the gate of an owed piece does, by the length of the piece.
use Rattle.std.proofs.Common.{◌≡◌, ℕ, ◌+◌, ◌-◌, ◌<◌, ◌≤◌, arith, ap, sym, subst, ◌∙◌, List, [], ◌∷◌, length, take, drop, length-drop, Bool, IsTrue, Option, None, Some, IsSome, Result, Ok, Err, OnOk}
use Rattle.std.proofs.lemmas.Bool.{false≢true}
use Rattle.std.proofs.lemmas.List.{ext_get_or, get_or-drop}
use Rattle.fk_disk.specs.Moments.{Elapses, LeavesOnly}
use Rattle.fk_disk.specs.Steps.{Overwrites, overwritten}
use Rattle.fk_journal.specs.JournalState.{owed_piece}
use Rattle.fk_journal.specs.Passing.{EachImage, Passes}
use Rattle.fk_journal.specs.Pieces.{closed_gate, IsClosedAfter}
use Rattle.fk_journal.specs.Standing.{IsAtRest}
use Rattle.fk_journal.proofs.Files.{doubt_within, front_stays, shut_is}
use Rattle.fk_journal.proofs.Writes.{IsDisk, gate_passes, gate_sure}

-- the gate is written, and its piece stays in doubt
pub settling : (owed : Option ℕ) (place : ℕ) (told : Bool) (content : List ℕ) (start now : ℕ)
    (before after : ℕ → List ℕ → Type 0) → IsSome (owed_piece content place owed) →
    IsDisk told content (before start) →
    EachImage (before start) (IsAtRest (take place content) (owed_piece content place owed)) →
    Elapses (Overwrites place 1) start now before after →
    Passes (IsAtRest (take place content) (owed_piece content place owed)) start now before after
settling None place told content start now before after is disk stands since = absurd (false≢true is)
settling (Some count) place told content start now before after is disk stands since =
    gate_passes place (take count (drop (place + 1) content)) told content start now before after disk stands since

-- it was closed, and made sure of
pub settled : {T E : Type 0} (result : Result T E) (owed : Option ℕ) (place : ℕ) (told told_now : Bool)
    (content after : List ℕ) (before images : List ℕ → Type 0) →
    IsSome (owed_piece content place owed) → told_now ≡ told →
    IsDisk told content before → IsDisk told_now after images →
    EachImage before (IsAtRest (take place content) (owed_piece content place owed)) →
    (IsTrue told → OnOk result (after ≡ overwritten content place (closed_gate ∷ []))) →
    OnOk result (LeavesOnly after images) →
    OnOk result (EachImage images (IsClosedAfter (take place content)))
settled result None place told told_now content after before images is same disk disk_now stands written sure = absurd (false≢true is)
settled {E = E} (Ok done) (Some count) place told told_now content after before images is same disk disk_now stands written sure =
    let piece : List ℕ = take count (drop (place + 1) content) in
    λ image here. shut_is (take place content) piece image
    (gate_sure {E = E} (Ok done) closed_gate place piece told told_now content after before images same disk disk_now stands written sure image here)
settled (Err _) (Some count) place told told_now content after before images is same disk disk_now stands written sure = tt

-- what stands behind a byte that was written stays, and so does the length
pub behind_stays : (file after : List ℕ) (place : ℕ) → place < length file → Overwrites place 1 file after →
    drop (place + 1) after ≡ drop (place + 1) file
behind_stays file after place inside over =
    let same : length after ≡ length file = omega (arith, inside, over.no_shorter, over.no_longer) in
    ext_get_or 0 (drop (place + 1) after) (drop (place + 1) file)
    (length-drop (place + 1) after ∙ ap (λ n. n - (place + 1)) same ∙ sym (length-drop (place + 1) file))
    (λ k less. let within : k < length after - (place + 1) = subst (λ n. k < n) (length-drop (place + 1) after) less in
    get_or-drop (place + 1) after k 0
    ∙ over.above (place + 1 + k) (omega (arith, within, same)) (omega arith)
    ∙ sym (get_or-drop (place + 1) file k 0))

-- what a read gives up to the gate, and the piece that is owed, stay
pub owed_read : (owed : Option ℕ) (place : ℕ) (told : Bool) (content after : List ℕ) (before : List ℕ → Type 0) →
    IsSome (owed_piece content place owed) → IsDisk told content before →
    EachImage before (IsAtRest (take place content) (owed_piece content place owed)) →
    (IsTrue told → Overwrites place 1 content after) → IsTrue told →
    (take place after ≡ take place content) × (owed_piece after place owed ≡ owed_piece content place owed)
owed_read None place told content after before is disk stands over tells = absurd (false≢true is)
owed_read (Some count) place told content after before is disk stands over tells =
    let inside : place < length content =
    doubt_within place (take count (drop (place + 1) content)) content (stands content (disk.read tells)) in (
      front_stays content after place 1 (omega (arith, inside)) (over tells),
      ap (λ xs. Some (take count xs)) (behind_stays content after place inside (over tells)),
    )

-- the gate of the piece that is owed lies within the file
pub owed_within : (owed : Option ℕ) (place : ℕ) (told : Bool) (content : List ℕ) (before : List ℕ → Type 0) →
    IsSome (owed_piece content place owed) → IsDisk told content before →
    EachImage before (IsAtRest (take place content) (owed_piece content place owed)) →
    IsTrue told → place ≤ length content
owed_within None place told content before is disk stands tells = absurd (false≢true is)
owed_within (Some count) place told content before is disk stands tells =
    let inside : place < length content =
    doubt_within place (take count (drop (place + 1) content)) content (stands content (disk.read tells)) in
    omega (arith, inside)

-- What carrying out moves leaves: nothing was called, the piece stands and the moves were made, or a disk failed.
use Rattle.std.proofs.Common.{◌≡◌, ◌≢◌, inl, inr, refl, ap, ◌∙◌, arith, ℕ, ◌+◌, ◌<◌, ◌≤◌, Bool, List, [], ◌∷◌, ◌++◌, length, length-append, Option, None, Some}
use Rattle.std.specs.Prelude.{◌⊎◌, option_map}
use Rattle.std.specs.Int.{w64, to_be_bytes}
use Rattle.fk_io.specs.Faults.{Rose}
use Rattle.fk_frame.specs.declared.reply.Reply.{Reply}
use Rattle.fk_journal.specs.Causes.{HasFaultCause}
use Rattle.fk_journal.specs.JournalState.{IsFullFor, JournalState}
use Rattle.fk_journal.specs.Limits.{greatest_file, greatest_number, overhead}
use Rattle.fk_journal.specs.Pieces.{closed_gate, framed, numbered}
use Rattle.fk_model.specs.declared.answer.Answer.{Answer}
use Rattle.fk_model.specs.declared.answer.Answer.TheVariants.{Said, NoMemory, Full, DiskFault}
use Rattle.fk_model.specs.declared.move_.Move.{Move}
use Rattle.fk_model.specs.State.{KeptState}
use Rattle.fk_model.specs.Changes.{after_moves, EndsWithTotals, FitInTurn}
use Rattle.fk_moves.specs.Spelling.{moves_bytes}
use Rattle.fk_lives.specs.Causes.{HasDiskCause}
use Rattle.fk_lives.specs.Doubt.{IsDoubtAfter, StandsWithDoubt}
use Rattle.fk_lives.specs.OnDisk.{HasRisen}
use Rattle.fk_lives.proofs.Roads.{goes_nowhere}
use Rattle.fk_shelf.specs.ShelfState.{ShelfState}
use Rattle.fk_desk.specs.Keeping.{TurnGoesOn}
use Rattle.fk_store.specs.StoreState.{MayFollow}
use Rattle.fk_store.specs.Turning.{AreCarriedOut, AreOver, AreSound, EndBeyond, IsRightTo, TellsKept, disks_of, faults_of, made_by, number_behind, place_behind}

-- ---- nothing was called

-- an answer without any call of a disk: no move was made, and nothing is in doubt that wasn't
pub nothing_called : {D : Type 0} (tells : D → Bool) (count moment : D → ℕ) (images : D → ℕ → List ℕ → Type 0)
    (answer : Answer) (reply : Reply) (moves : List Move) (shelf : ShelfState D) (kept : KeptState)
    (doubt : Option (List Move)) →
    IsRightTo answer reply moves shelf.live (faults_of count shelf) (faults_of count shelf) →
    made_by answer moves ≡ [] → IsDoubtAfter answer moves doubt doubt → (answer ≡ DiskFault → ⊥) →
    TellsKept (tells shelf.live.disk) shelf kept doubt → AreSound (disks_of moment images shelf) kept doubt →
    AreCarriedOut tells count moment images answer reply moves shelf shelf kept kept doubt doubt
nothing_called tells count moment images answer reply moves shelf kept doubt right none doubted other told sound = record {
  right = right;
  made = rw none (record { come = refl; next = refl; behind = refl });
  told = told;
  doubted = doubted;
  crash = inl (goes_nowhere (StandsWithDoubt kept doubt) (disks_of moment images shelf) sound);
  same = λ calls. refl;
  cause = record {
    later_a = omega arith;
    later_b = omega arith;
    failed = λ fault. absurd (other fault);
  };
}

-- there was no move
pub no_moves : {D : Type 0} (tells : D → Bool) (count moment : D → ℕ) (images : D → ℕ → List ℕ → Type 0)
    (reply : Reply) (moves : List Move) (shelf : ShelfState D) (kept : KeptState) (doubt : Option (List Move)) →
    moves ≡ [] → TellsKept (tells shelf.live.disk) shelf kept doubt →
    AreSound (disks_of moment images shelf) kept doubt →
    AreCarriedOut tells count moment images (Said reply) reply moves shelf shelf kept kept doubt doubt
no_moves tells count moment images reply moves shelf kept doubt none told sound =
    rw none (nothing_called tells count moment images (Said reply) reply [] shelf kept doubt
    ((λ over. elim over [ inl beyond ↦ absurd beyond | inr full ↦ full.0 refl ]), refl)
    refl refl (λ same. cc) told sound)

-- they are over a limit
pub too_many : {D : Type 0} (tells : D → Bool) (count moment : D → ℕ) (images : D → ℕ → List ℕ → Type 0)
    (reply : Reply) (moves : List Move) (shelf : ShelfState D) (kept : KeptState) (doubt : Option (List Move)) →
    AreOver shelf.live moves → TellsKept (tells shelf.live.disk) shelf kept doubt →
    AreSound (disks_of moment images shelf) kept doubt →
    AreCarriedOut tells count moment images Full reply moves shelf shelf kept kept doubt doubt
too_many tells count moment images reply moves shelf kept doubt over told sound =
    nothing_called tells count moment images Full reply moves shelf kept doubt over refl refl (λ same. cc) told sound

-- memory ran out
pub no_memory : {D : Type 0} (tells : D → Bool) (count moment : D → ℕ) (images : D → ℕ → List ℕ → Type 0)
    (reply : Reply) (moves : List Move) (shelf : ShelfState D) (kept now : KeptState) (doubt : Option (List Move)) →
    now ≡ kept → IsRightTo NoMemory reply moves shelf.live (faults_of count shelf) (faults_of count shelf) →
    TellsKept (tells shelf.live.disk) shelf kept doubt → AreSound (disks_of moment images shelf) kept doubt →
    AreCarriedOut tells count moment images NoMemory reply moves shelf shelf kept now doubt doubt
no_memory tells count moment images reply moves shelf kept now doubt same right told sound =
    rw same (nothing_called tells count moment images NoMemory reply moves shelf kept doubt right refl refl
    (λ fault. cc) told sound)

-- ---- a piece was written

-- the framed piece is longer than its moves
pub framed_length : (number : ℕ) (bytes : List ℕ) → length (framed number bytes) ≡ overhead + length bytes
unfolding numbered
framed_length number bytes =
    omega (
      arith,
      length-append (numbered number bytes) (closed_gate ∷ []),
      length-append (to_be_bytes w64 number) (to_be_bytes w64 (length bytes) ++ bytes),
      length-append (to_be_bytes w64 (length bytes)) bytes,
    )

-- what is in doubt behind moves that were made
nothing_in_doubt : (reply : Reply) (moves : List Move) (doubt in_doubt : Option (List Move)) → moves ≢ [] →
    in_doubt ≡ None → IsDoubtAfter (Said reply) moves doubt in_doubt
nothing_in_doubt reply [] doubt in_doubt some none = absurd (some refl)
nothing_in_doubt reply (move ∷ moves) doubt in_doubt some none = none

-- the number and the place behind them
next_number : (number : ℕ) (moves : List Move) → moves ≢ [] → number + 1 ≡ number_behind number moves
next_number number [] some = absurd (some refl)
next_number number (move ∷ moves) some = refl

next_place : (place : ℕ) (moves : List Move) → moves ≢ [] →
    place + overhead + length (moves_bytes moves) ≡ place_behind place moves
next_place place [] some = absurd (some refl)
next_place place (move ∷ moves) some = refl

-- disk A failed, or not, and B stands still
one_cause : (a a_now b b_now : ℕ) (T Fault : Type 0) → b_now ≡ b → HasFaultCause T a a_now → (Fault → T) →
    HasDiskCause Fault a a_now b b_now
one_cause a a_now b b_now T Fault same cause told = record {
  later_a = cause.later;
  later_b = omega (arith, same);
  failed = λ fault. inl (cause.failed (told fault));
}

-- and so the sum rose
sum_rises : (a a_now b b_now : ℕ) → b_now ≡ b → Rose a a_now → HasRisen (a + b) (a_now + b_now)
sum_rises a a_now b b_now same (inl less) = inl (omega (arith, less, same))
sum_rises a a_now b b_now same (inr last) = inr (omega (arith, last))

-- the piece stands, and the moves were made
pub all_made : {D : Type 0} (tells : D → Bool) (count moment : D → ℕ) (images : D → ℕ → List ℕ → Type 0)
    (reply : Reply) (moves : List Move) (piece : List ℕ) (before after : ShelfState D) (kept now : KeptState)
    (doubt in_doubt : Option (List Move)) (T : Type 0) → (¬ AreOver before.live moves) → moves ≢ [] →
    piece ≡ framed before.live.number (moves_bytes moves) → now ≡ after_moves kept moves →
    TellsKept (tells after.live.disk) after (after_moves kept moves) in_doubt → in_doubt ≡ None →
    after.live.number ≡ before.live.number + 1 → after.live.place ≡ before.live.place + length piece →
    after.other ≡ before.other → HasFaultCause T (count before.live.disk) (count after.live.disk) →
    TurnGoesOn kept doubt moves (disks_of moment images before) (disks_of moment images after) →
    AreCarriedOut tells count moment images (Said reply) reply moves before after kept now doubt in_doubt
all_made tells count moment images reply moves piece before after kept now doubt in_doubt T
    within some is come told none number place other cause crash =
    let long : length piece ≡ overhead + length (moves_bytes moves) =
    ap length is ∙ framed_length before.live.number (moves_bytes moves) in
    let there : after.live.place ≡ before.live.place + overhead + length (moves_bytes moves) =
    omega (arith, place, long) in
    record {
      right = (within, refl);
      made = record {
        come = come;
        next = number ∙ next_number before.live.number moves some;
        behind = there ∙ next_place before.live.place moves some;
      };
      told = rw come told;
      doubted = nothing_in_doubt reply moves doubt in_doubt some none;
      crash = crash;
      same = λ no_call. absurd (some no_call);
      cause = one_cause (count before.live.disk) (count after.live.disk) (count before.other) (count after.other) ⊥
          (Said reply ≡ DiskFault) (ap count other) (record { later = cause.later; failed = λ none. absurd none })
          (λ same. cc);
    }

-- a disk failed
pub disk_failed : {D : Type 0} (tells : D → Bool) (count moment : D → ℕ) (images : D → ℕ → List ℕ → Type 0)
    (reply : Reply) (moves : List Move) (before after : ShelfState D) (kept : KeptState)
    (doubt in_doubt : Option (List Move)) (T : Type 0) → (¬ AreOver before.live moves) → moves ≢ [] →
    TellsKept (tells after.live.disk) after kept in_doubt →
    (in_doubt ≡ doubt) ⊎ (in_doubt ≡ None) ⊎ (in_doubt ≡ Some moves) →
    after.live.number ≡ before.live.number → after.live.place ≡ before.live.place →
    after.other ≡ before.other → HasFaultCause T (count before.live.disk) (count after.live.disk) → T →
    TurnGoesOn kept doubt moves (disks_of moment images before) (disks_of moment images after) →
    AreCarriedOut tells count moment images DiskFault reply moves before after kept kept doubt in_doubt
disk_failed tells count moment images reply moves before after kept doubt in_doubt T
    within some told doubted number place other cause failed crash =
    record {
      right = (
        within,
        some,
        sum_rises (count before.live.disk) (count after.live.disk) (count before.other)
            (count after.other) (ap count other) (cause.failed failed),
      );
      made = record { come = refl; next = number; behind = place };
      told = told;
      doubted = doubted;
      crash = crash;
      same = λ none. absurd none;
      cause = one_cause (count before.live.disk) (count after.live.disk) (count before.other) (count after.other) T
          (DiskFault ≡ DiskFault) (ap count other) cause (λ same. failed);
    }

-- ---- what is asked of a piece

-- moves that aren't over a limit may follow
pub may_follow : {D : Type 0} (live : JournalState D) (kept : KeptState) (moves : List Move) →
    (¬ AreOver live moves) → moves ≢ [] → ((¬ EndBeyond moves) → FitInTurn kept moves) →
    (moves ≢ [] → EndsWithTotals moves) → MayFollow kept live.number moves
may_follow live kept moves within some fit list =
    let short : live.place + 1 + overhead + length (moves_bytes moves) ≤ greatest_file =
    omega (
      arith,
      λ (over : greatest_file < live.place + 1 + overhead + length (moves_bytes moves)).
          within (inr (some, inr over)),
    ) in
    record {
      fit = fit (λ beyond. within (inl beyond));
      list = list some;
      short = omega (arith, short);
      within = omega (arith, λ (over : greatest_number < live.number). within (inr (some, inl over)));
    }

-- and have room
pub has_room : {D : Type 0} (live : JournalState D) (moves : List Move) (piece : List ℕ) →
    (¬ AreOver live moves) → moves ≢ [] → piece ≡ framed live.number (moves_bytes moves) →
    ¬ IsFullFor live.place live.number (length piece)
has_room live moves piece within some is full =
    let long : length piece ≡ overhead + length (moves_bytes moves) =
    ap length is ∙ framed_length live.number (moves_bytes moves) in
    elim full [
      | inl place ↦ within (inr (some, inr (omega (arith, place, long))))
      | inr number ↦ within (inr (some, inl number))
    ]

-- what is in doubt, where it is held with more than its moves
pub doubt_seen : {S : Type 0} (moves_in : S → List Move) (now was : Option S) (moves : List Move) →
    (now ≡ was) ⊎ (now ≡ None) ⊎ (option_map moves_in now ≡ Some moves) →
    (option_map moves_in now ≡ option_map moves_in was) ⊎ (option_map moves_in now ≡ None)
    ⊎ (option_map moves_in now ≡ Some moves)
doubt_seen moves_in now was moves (inl same) = inl (ap (option_map moves_in) same)
doubt_seen moves_in now was moves (inr (inl none)) = inr (inl (rw none refl))
doubt_seen moves_in now was moves (inr (inr these)) = inr (inr these)

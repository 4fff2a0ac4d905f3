-- What moves tell of the limits, and of the answer to a turn.
use Rattle.std.proofs.Common.{◌≡◌, inl, inr, ◌↔◌, refl, ap, ◌∙◌, arith, ℕ, ◌+◌, ◌-◌, ◌<◌, ◌≤◌, List, [], ◌∷◌, ◌++◌, length, length-append, Some}
use Rattle.std.specs.Prelude.{◌⊎◌, slice_get}
use Rattle.fk_frame.specs.declared.reply.Reply.{Reply}
use Rattle.fk_journal.specs.JournalState.{JournalState}
use Rattle.fk_journal.specs.Limits.{overhead}
use Rattle.fk_model.specs.declared.ask.Ask.{Ask}
use Rattle.fk_model.specs.declared.answer.Answer.{Answer}
use Rattle.fk_model.specs.declared.answer.Answer.TheVariants.{Said, NoMemory, Full, DiskFault}
use Rattle.fk_model.specs.declared.move_.Move.{Move}
use Rattle.fk_model.specs.declared.told.Told.{Told}
use Rattle.fk_model.specs.Limits.{greatest_next}
use Rattle.fk_model.specs.State.{KeptState, State}
use Rattle.fk_model.specs.Range.{IsInRange}
use Rattle.fk_model.specs.Due.{IsUpToDate}
use Rattle.fk_model.specs.Bringing.{moves_up}
use Rattle.fk_model.specs.History.{IsOverLimit, left_by}
use Rattle.fk_model.specs.Between.{IsBetweenTurns}
use Rattle.fk_model.specs.Turns.{closed, moves_of, moves_of_turn, totals, turn, up_to_date}
use Rattle.fk_model.proofs.Turning.{turn_keeps}
use Rattle.fk_moves.specs.Spelling.{moves_bytes}
use Rattle.fk_lives.specs.OnDisk.{Server, IsAckOrBeat, IsOver, IsRightOnDisk, IsStepOnDisk, IsToldOnDisk, behind_piece, left_on_disk, next_on_disk}
use Rattle.fk_desk.specs.Keeping.{entry_of}
use Rattle.fk_store.specs.StoreState.{server_of}
use Rattle.fk_store.specs.RoomForTurns.{IsOneDrop}
use Rattle.fk_store.specs.Turning.{AreMade, AreOver, EndBeyond, IsRightTo, made_by, number_behind, place_behind}

-- ---- the limits

-- the last of a list
last_at : {X : Type 0} (xs : List X) (x : X) → slice_get (xs ++ x ∷ []) (length xs) ≡ Some x
last_at [] x = refl
last_at (first ∷ xs) x = last_at xs x

last_is : {X : Type 0} (xs : List X) (x : X) → slice_get (xs ++ x ∷ []) (length (xs ++ x ∷ []) - 1) ≡ Some x
last_is xs x =
    let at : length (xs ++ x ∷ []) - 1 ≡ length xs = omega (arith, length-append xs (x ∷ [])) in
    rw at (last_at xs x)

-- moves that end with the numbers tell whether they are beyond the limit, and where there is none, the kept state
-- stays
end_of : (moves : List Move) (before kept : KeptState) → before.next ≤ greatest_next
    → (closed moves kept ≡ [] → kept ≡ before) → EndBeyond (closed moves kept) ↔ (greatest_next < kept.next)
end_of [] before kept within stays =
    let same : kept.next ≡ before.next = ap (λ now. now.next) (stays refl) in
    ((λ none. absurd none), (λ over. absurd (omega (arith, same, within, over))))
end_of (move ∷ moves) before kept within stays =
    rw (last_is (move ∷ moves) (totals kept)) ((λ over. over), (λ over. over))

-- the end of a turn's moves tells whether its next number is beyond the limit
pub limit_told : (s : State) (ask : Ask) (moment word : ℕ) (moves : List Move)
    → moves ≡ moves_of_turn s ask moment word → s.kept.next ≤ greatest_next
    → (moves ≡ [] → (turn s ask moment word).state.kept ≡ s.kept)
    → EndBeyond moves ↔ IsOverLimit s ask moment word
limit_told s ask moment word moves are within stays =
    rw are (end_of (moves_up s.kept moment word ++ moves_of s.kept (up_to_date s moment word) ask moment word)
    s.kept (turn s ask moment word).state.kept within (rw are at stays))

-- what holds of a turn's moves
pub record AreOfTurn (s : State) (ask : Ask) (moment word : ℕ) (moves : List Move) : Type 0 where
  pub are : moves ≡ moves_of_turn s ask moment word
  pub within : s.kept.next ≤ greatest_next
  pub stays : (moves ≡ []) ↔ ((turn s ask moment word).state.kept ≡ s.kept)

-- moves are over a limit exactly where the turn is
pub over_told : {D : Type 0} (live : JournalState D) (s : State) (ask : Ask) (moment word : ℕ) (moves : List Move)
    → AreOfTurn s ask moment word moves
    → AreOver live moves ↔ IsOver (server_of s live) ask moment word
over_told live s ask moment word moves of =
    let limit = limit_told s ask moment word moves of.are of.within of.stays.0 in (
      (λ over. elim over [
        | inl beyond ↦ inl (limit.0 beyond)
        | inr full ↦ inr ((λ same. full.0 (of.stays.1 same)), rw (← of.are) full.1)
      ]),
      (λ over. elim over [
        | inl beyond ↦ inl (limit.1 beyond)
        | inr full ↦ inr ((λ none. full.0 (of.stays.0 none)), rw of.are full.1)
      ]),
    )

-- ---- the answer

-- an answer that is right to the moves of a turn is right to the turn
pub right_answer : {D : Type 0} (live : JournalState D) (s : State) (seat : ℕ) (ask : Ask) (told : Told)
    (answer : Answer) (reply : Reply) (moves : List Move) → AreOfTurn s ask told.moment told.word moves
    → (IsAckOrBeat ask → IsUpToDate told.moment s.kept → (moves ≡ []) ⊎ IsOneDrop moves)
    → reply ≡ (turn s ask told.moment told.word).reply
    → IsRightTo answer reply moves live told.before told.after
    → IsRightOnDisk (server_of s live) (entry_of seat ask told answer) answer
right_answer live s seat ask told (Said said) reply moves of few is right =
    ((λ over. right.0 ((over_told live s ask told.moment told.word moves of).1 over)), right.1 ∙ is)
right_answer live s seat ask told NoMemory reply moves of few is right =
    λ often on. elim (few often on) [ inl none ↦ right.0 none | inr one ↦ right.1 one ]
right_answer live s seat ask told Full reply moves of few is right =
    (over_told live s ask told.moment told.word moves of).0 right
right_answer live s seat ask told DiskFault reply moves of few is right = (
  (λ over. right.0 ((over_told live s ask told.moment told.word moves of).1 over)),
  (λ same. right.1 (of.stays.1 same)),
  right.2,
)

-- ---- what it leaves

abbrev server_with : State → ℕ → ℕ → Server
server_with state number size = record { state = state; number = number; size = size }

-- the server behind a piece of moves
behind_is : {D : Type 0} (live after : JournalState D) (s now : State) (moves : List Move)
    → after.number ≡ number_behind live.number moves → after.place ≡ place_behind live.place moves
    → server_of now after ≡ behind_piece (server_of s live) now moves
behind_is live after s now [] number place =
    ap (λ (n : ℕ). server_with now n (after.place + 1)) number
    ∙ ap (λ (n : ℕ). server_with now live.number (n + 1)) place
behind_is live after s now (move ∷ moves) number place =
    let size : after.place + 1 ≡ live.place + 1 + overhead + length (moves_bytes (move ∷ moves)) =
    omega (arith, place) in
    ap (λ (n : ℕ). server_with now n (after.place + 1)) number
    ∙ ap (λ (n : ℕ). server_with now (live.number + 1) n) size

-- where no moves were made it is as before
stays_so : {D : Type 0} (live after : JournalState D) (s now : State) → now ≡ s
    → after.number ≡ live.number → after.place ≡ live.place → server_of now after ≡ server_of s live
stays_so live after s now same number place =
    ap (λ (state : State). server_with state after.number (after.place + 1)) same
    ∙ ap (λ (n : ℕ). server_with s n (after.place + 1)) number
    ∙ ap (λ (n : ℕ). server_with s live.number (n + 1)) place

-- the server that an answer leaves
left_is : {D : Type 0} (live after : JournalState D) (s now : State) (seat : ℕ) (ask : Ask) (told : Told)
    (answer : Answer) (moves : List Move) → moves ≡ moves_of_turn s ask told.moment told.word
    → now ≡ left_by answer s (turn s ask told.moment told.word)
    → AreMade (made_by answer moves) s.kept now.kept live after
    → server_of now after ≡ left_on_disk answer (server_of s live) (entry_of seat ask told answer)
left_is live after s now seat ask told (Said said) moves are leads made =
    behind_is live after s now moves made.next made.behind
    ∙ ap (λ (state : State). behind_piece (server_of s live) state moves) leads
    ∙ ap (λ (all : List Move). behind_piece (server_of s live) (turn s ask told.moment told.word).state all) are
left_is live after s now seat ask told NoMemory moves are leads made =
    stays_so live after s now leads made.next made.behind
left_is live after s now seat ask told Full moves are leads made =
    stays_so live after s now leads made.next made.behind
left_is live after s now seat ask told DiskFault moves are leads made =
    stays_so live after s now leads made.next made.behind

-- ---- the step

-- a turn is a step
pub makes_step : {D : Type 0} (live after : JournalState D) (s now : State) (seat : ℕ) (ask : Ask) (told : Told)
    (answer : Answer) (reply : Reply) (moves : List Move) → IsInRange ask → IsToldOnDisk told
    → AreOfTurn s ask told.moment told.word moves
    → (IsAckOrBeat ask → IsUpToDate told.moment s.kept → (moves ≡ []) ⊎ IsOneDrop moves)
    → reply ≡ (turn s ask told.moment told.word).reply
    → IsRightTo answer reply moves live told.before told.after
    → now ≡ left_by answer s (turn s ask told.moment told.word)
    → AreMade (made_by answer moves) s.kept now.kept live after
    → IsStepOnDisk (server_of s live) (entry_of seat ask told answer) (server_of now after)
unfolding next_on_disk
makes_step live after s now seat ask told answer reply moves range tells of few is right leads made = record {
  in_range = range;
  told = tells;
  answer = right_answer live s seat ask told answer reply moves of few is right;
  leads = left_is live after s now seat ask told answer moves of.are leads made;
}

-- memory ran out before the moves were known
pub starves : {D : Type 0} (live : JournalState D) (s : State) (seat : ℕ) (ask : Ask) (told : Told)
    → IsInRange ask → IsToldOnDisk told → (IsAckOrBeat ask → ¬ IsUpToDate told.moment s.kept)
    → IsStepOnDisk (server_of s live) (entry_of seat ask told NoMemory) (server_of s live)
unfolding next_on_disk
starves live s seat ask told range tells seldom =
    record { in_range = range; told = tells; answer = seldom; leads = refl }

-- ---- between turns

-- the state that an answer leaves is one between turns
pub still_between : {D : Type 0} (live : JournalState D) (s now : State) (seat : ℕ) (ask : Ask) (told : Told)
    (answer : Answer) → IsBetweenTurns s → IsInRange ask → IsToldOnDisk told
    → IsRightOnDisk (server_of s live) (entry_of seat ask told answer) answer
    → now ≡ left_by answer s (turn s ask told.moment told.word) → IsBetweenTurns now
still_between live s now seat ask told (Said said) between range tells right leads =
    rw leads (turn_keeps s ask told.moment told.word between range tells.moment (λ over. right.0 (inl over)))
still_between live s now seat ask told NoMemory between range tells right leads = rw leads between
still_between live s now seat ask told Full between range tells right leads = rw leads between
still_between live s now seat ask told DiskFault between range tells right leads = rw leads between

-- What a turn makes of the parts of a store, by what its moves came to.
use Rattle.std.proofs.Common.{◌≡◌, ◌≢◌, inl, refl, sym, ap, ◌∙◌, arith, ℕ, ◌<◌, ◌≤◌, Bool, List, [], Option}
use Rattle.std.specs.Prelude.{◌⊎◌}
use Rattle.fk_time.specs.Moments.{greatest}
use Rattle.fk_frame.specs.declared.reply.Reply.{Reply}
use Rattle.fk_model.specs.declared.ask.Ask.{Ask}
use Rattle.fk_model.specs.declared.answer.Answer.{Answer}
use Rattle.fk_model.specs.declared.answer.Answer.TheVariants.{NoMemory}
use Rattle.fk_model.specs.declared.move_.Move.{Move}
use Rattle.fk_model.specs.Between.{IsBetweenTurns}
use Rattle.fk_model.specs.Due.{IsUpToDate}
use Rattle.fk_model.specs.Range.{IsInRange}
use Rattle.fk_model.specs.Spellings.{IsWord}
use Rattle.fk_model.specs.State.{KeptState, State, Worker, with_workers}
use Rattle.fk_model.specs.Changes.{EndsWithTotals, FitInTurn, Lead, after_moves}
use Rattle.fk_model.specs.History.{IsOverLimit}
use Rattle.fk_model.specs.Turns.{moves_of_turn, turn}
use Rattle.fk_model.proofs.Turning.{turn_comes, turn_ends}
use Rattle.fk_plan.specs.Plans.{left_of}
use Rattle.fk_lives.specs.Doubt.{StandsWithDoubt}
use Rattle.fk_lives.specs.OnDisk.{IsAckOrBeat, IsToldOnDisk}
use Rattle.fk_lives.proofs.Roads.{goes_nowhere}
use Rattle.fk_shelf.specs.ShelfState.{ShelfState}
use Rattle.fk_store.specs.RoomForTurns.{IsOneDrop}
use Rattle.fk_store.specs.Turning.{AreCarriedOut, AreSound, EndBeyond, IsTurn, TellsKept, disks_of, faults_of, told_of, workers_behind}
use Rattle.fk_store.proofs.Deciding.{AreOfTurn, limit_told, makes_step, right_answer, starves, still_between}
use Rattle.fk_store.proofs.Leaving.{few_moves, state_left}

-- what is told of a turn is as it has to be
told_right : (at word before after : ℕ) → at < greatest → IsWord word → before ≤ after
    → IsToldOnDisk (told_of at word before after)
told_right at word before after below fits rose =
    record { moment = below; word = fits; faults = rose; compaction = refl }

-- memory ran out before the moves were known
pub starved : {D : Type 0} (tells : D → Bool) (count moment : D → ℕ) (images : D → ℕ → List ℕ → Type 0)
    (ask : Ask) (at word : ℕ) (shelf : ShelfState D) (state : State) (doubt : Option (List Move))
    → at < greatest → IsWord word → IsInRange ask → IsBetweenTurns state
    → (IsAckOrBeat ask → ¬ IsUpToDate at state.kept) → TellsKept (tells shelf.live.disk) shelf state.kept doubt
    → AreSound (disks_of moment images shelf) state.kept doubt
    → IsTurn tells count moment images ask at word NoMemory shelf shelf state state doubt doubt
starved tells count moment images ask at word shelf state doubt below fits range between seldom told sound = record {
  step = λ seat. starves shelf.live state seat ask
      (told_of at word (faults_of count shelf) (faults_of count shelf)) range
      (told_right at word (faults_of count shelf) (faults_of count shelf) below fits (omega arith)) seldom;
  between = between;
  told = told;
  doubted = refl;
  crash = inl (goes_nowhere (StandsWithDoubt state.kept doubt) (disks_of moment images shelf) sound);
  same = λ calls. refl;
  cause = record {
    later_a = omega arith;
    later_b = omega arith;
    failed = λ fault. cc;
  };
}

-- the moves were known, and were carried out or not
pub turned : {D : Type 0} (tells : D → Bool) (count moment : D → ℕ) (images : D → ℕ → List ℕ → Type 0)
    (ask left : Ask) (at word : ℕ) (answer : Answer) (reply : Reply) (moves : List Move)
    (before after : ShelfState D) (kept now : KeptState) (workers acts : List Worker)
    (doubt in_doubt : Option (List Move)) → at < greatest → IsWord word → IsInRange ask
    → IsBetweenTurns (with_workers kept workers) → AreOfTurn (with_workers kept workers) ask at word moves
    → reply ≡ (turn (with_workers kept workers) ask at word).reply → left ≡ left_of ask
    → acts ≡ workers_behind answer left at workers
    → AreCarriedOut tells count moment images answer reply moves before after kept now doubt in_doubt
    → IsTurn tells count moment images ask at word answer before after (with_workers kept workers)
    (with_workers now acts) doubt in_doubt
turned tells count moment images ask left at word answer reply moves before after kept now workers acts doubt in_doubt
    below fits range between of is left_is did carried =
    let s = with_workers kept workers in
    let told = told_of at word (faults_of count before) (faults_of count after) in
    let tells_right : IsToldOnDisk told = told_right at word (faults_of count before) (faults_of count after) below fits
    (omega (arith, carried.cause.later_a, carried.cause.later_b)) in
    let few : IsAckOrBeat ask → IsUpToDate at kept → (moves ≡ []) ⊎ IsOneDrop moves =
    λ often on. rw of.are (few_moves s ask at word often on) in
    let come = state_left kept now workers acts ask left at word answer moves left_is did carried.made.come
    (turn_comes s ask at word between.kept ∙ ap (after_moves kept) (sym of.are)) in
    record {
      step = λ seat. makes_step before.live after.live s (with_workers now acts) seat ask told answer reply moves range
          tells_right of few is carried.right come carried.made;
      between = still_between before.live s (with_workers now acts) 0 ask told answer between range tells_right
          (right_answer before.live s 0 ask told answer reply moves of few is carried.right) come;
      told = carried.told;
      doubted = rw (← of.are) carried.doubted;
      crash = rw (← of.are) carried.crash;
      same = rw (← of.are) carried.same;
      cause = carried.cause;
    }

-- the moves of a plan that isn't beyond the limit fit
pub plan_fits : (s : State) (ask : Ask) (at word : ℕ) (moves : List Move) → AreOfTurn s ask at word moves
    → ((¬ IsOverLimit s ask at word) → Lead s.kept moves (turn s ask at word).state.kept)
    → (¬ EndBeyond moves) → FitInTurn s.kept moves
plan_fits s ask at word moves of leads within =
    (leads (λ over. within ((limit_told s ask at word moves of.are of.within of.stays.0).1 over))).fit

-- and they are a list as a file has it
pub plan_ends : (s : State) (ask : Ask) (at word : ℕ) (moves : List Move) → IsBetweenTurns s
    → moves ≡ moves_of_turn s ask at word → moves ≢ [] → EndsWithTotals moves
plan_ends s ask at word moves between are some =
    rw are (turn_ends s ask at word between.kept (rw are at some))

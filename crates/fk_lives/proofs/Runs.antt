-- Runs one behind the other: what they keep, and how the pushes of one stand through those behind it.
use Rattle.std.proofs.Common.{◌≡◌, ◌∙◌, ◌↔◌, refl, sym, ap, subst, ℕ, ◌<◌, ◌≤◌, List, [], ◌∷◌, ◌++◌, inl, inr, arith}
use Rattle.std.specs.Prelude.{Option, None, Some}
use Rattle.std.specs.List.{IsDistinct}
use Rattle.std.proofs.lemmas.List.{append-nil}
use Rattle.std.proofs.lemmas.List.Sums.{fold-append}
use Rattle.fk_job.specs.declared.job.Job.{Job}
use Rattle.fk_model.specs.declared.answer.Answer.TheVariants.{DiskFault}
use Rattle.fk_model.specs.declared.entry.Entry.{Entry}
use Rattle.fk_model.specs.Rows.{row_at}
use Rattle.fk_model.specs.State.{KeptState, without_workers}
use Rattle.fk_model.specs.Between.{IsWellKept, IsBetweenTurns}
use Rattle.fk_model.specs.History.{next_state, state_after, faults_after}
use Rattle.fk_model.specs.PushEnds.{PushStands}
use Rattle.fk_model.proofs.StandingPushes.{HasJobAt}
use Rattle.fk_lives.specs.OnDisk.{Server, next_on_disk, after_on_disk, IsStepOnDisk, IsRightOnDisk, IsLegalOnDisk, IsOver}
use Rattle.fk_lives.specs.Lives.{AddedCommand, Run, kept_behind, IsRefusedCommand, IsCommandOnItsWay, MayBeAdded, GoesOnFrom, kept_after, push_ended_in_rest, push_ended_in_runs, with_added}
use Rattle.fk_lives.proofs.AsWithout.{states_agree, legal_calm, on_disk_goes_on, fronts_keep}
use Rattle.fk_lives.proofs.Additions.{IsAdditionTo}
use Rattle.fk_lives.proofs.Rests.{IsRest, kept_behind_rest, later_stand, has_lower, rest_keeps, rest_rises, rest_none, rest_stands}

-- ---- the command that a crash adds

first_step : (server : Server) (faults : ℕ) (entry : Entry) (entries : List Entry)
    → IsLegalOnDisk server faults (entry ∷ entries) → IsStepOnDisk server entry (next_on_disk server entry)
unfolding IsLegalOnDisk
first_step server faults entry entries legal = legal.0

-- a refused command was within its limits
refused_within : (server : Server) (entry : Entry) → entry.answer ≡ DiskFault
    → IsRightOnDisk server entry entry.answer → ¬ IsOver server entry.ask entry.told.moment entry.told.word
refused_within server entry refused right =
    let fault = subst (λ answer. IsRightOnDisk server entry answer) refused right in fault.0

refused_is_addition : (run : Run) (command : AddedCommand) → IsBetweenTurns run.start.state
    → IsLegalOnDisk run.start 0 run.entries → IsRefusedCommand run command
    → IsAdditionTo (after_on_disk run.start run.entries).state.kept (Some command)
refused_is_addition run command ready legal is =
    let front = is.refused.front in
    let back = is.refused.back in
    let mid = after_on_disk run.start front in
    let whole = subst (λ all. IsLegalOnDisk run.start 0 all) is.refused.whole legal in
    let later = ((on_disk_goes_on run.start 0 front (is.entry ∷ back)).0 whole).1 in
    let step = first_step mid (faults_after 0 front) is.entry back later in
    let within = refused_within mid is.entry is.refused.refused step.answer in
    let stays = is.refused.keep (is.entry ∷ back) [] (sym (append-nil (is.entry ∷ back))) in
    let end : (after_on_disk run.start run.entries).state.kept ≡ mid.state.kept =
    ap (λ all. (after_on_disk run.start all).state.kept) is.refused.whole
    ∙ ap (λ server. server.state.kept) (fold-append next_on_disk run.start front (is.entry ∷ back)) ∙ stays in (
      ap (λ s. s.kept) is.state ∙ sym end,
      record {
        ready = rw is.state (fronts_keep run.start 0 front (is.entry ∷ back) ready whole);
        in_range = rw is.ask step.in_range;
        moment = rw is.moment step.told.moment;
        word = rw is.word step.told.word;
        within = rw (is.state, is.ask, is.moment, is.word) (λ over. within (inl over));
      },
    )

whole_keeps : (run : Run) → IsBetweenTurns run.start.state → IsLegalOnDisk run.start 0 run.entries
    → IsBetweenTurns (after_on_disk run.start run.entries).state
whole_keeps run ready legal =
    fronts_keep run.start 0 run.entries [] ready
    (subst (λ all. IsLegalOnDisk run.start 0 all) (sym (append-nil run.entries)) legal)

on_its_way_is_addition : (run : Run) (command : AddedCommand) → IsBetweenTurns run.start.state
    → IsLegalOnDisk run.start 0 run.entries → IsCommandOnItsWay run command
    → IsAdditionTo (after_on_disk run.start run.entries).state.kept (Some command)
on_its_way_is_addition run command ready legal is = (
  ap (λ s. s.kept) is.state,
  record {
    ready = rw is.state (whole_keeps run ready legal);
    in_range = is.in_range;
    moment = is.moment;
    word = is.word;
    within = rw is.state (λ over. is.within (inl over));
  },
)

addition : (run : Run) (added : Option AddedCommand) → IsBetweenTurns run.start.state
    → IsLegalOnDisk run.start 0 run.entries → MayBeAdded run added
    → IsAdditionTo (after_on_disk run.start run.entries).state.kept added
addition run None ready legal may = tt
addition run (Some command) ready legal (inl refused) = refused_is_addition run command ready legal refused
addition run (Some command) ready legal (inr on_its_way) = on_its_way_is_addition run command ready legal on_its_way

-- ---- one run

-- without workers there are no two of one name
between_without_workers : (kept : KeptState) → IsWellKept kept → IsBetweenTurns (without_workers kept)
unfolding IsDistinct
between_without_workers kept well = record { kept = well; names = tt }

-- a run is the rest of itself
pub run_is_rest : (kept : KeptState) (run : Run) → IsWellKept kept → run.start.state ≡ without_workers kept
    → IsLegalOnDisk run.start 0 run.entries → MayBeAdded run run.added
    → IsRest run.start.state run.entries run.added
run_is_rest kept run well starts legal may =
    let ready : IsBetweenTurns run.start.state = rw starts (between_without_workers kept well) in
    record {
      ready = ready;
      legal = legal_calm run.start 0 run.entries legal;
      addition = rw (← states_agree run.start run.entries) (addition run run.added ready legal may);
    }

pub kept_of_run : (run : Run) → kept_behind run ≡ kept_behind_rest run.start.state run.entries run.added
kept_of_run run = rw (states_agree run.start run.entries) refl

-- the rest of it keeps the same as the whole
pub kept_of_rest : (run : Run) (front back : List Entry) → run.entries ≡ front ++ back
    → kept_behind run ≡ kept_behind_rest (state_after run.start.state front) back run.added
kept_of_rest run front back same =
    kept_of_run run ∙ ap (λ all. kept_behind_rest run.start.state all run.added) same
    ∙ ap (λ t. with_added t.kept run.added) (fold-append next_state run.start.state front back)

-- ---- runs

-- they go on where each part does, the second from what the first leaves
pub goes_on : (kept : KeptState) (earlier later : List Run)
    → GoesOnFrom kept (earlier ++ later)
    ↔ (GoesOnFrom kept earlier × GoesOnFrom (kept_after kept earlier) later)
unfolding GoesOnFrom kept_after
goes_on kept [] later = ((λ life. (tt, life)), (λ both. both.1))
goes_on kept (run ∷ earlier) later =
    let rest = goes_on (kept_behind run) earlier later in (
      (λ life. let both = rest.0 life.3 in ((life.0, life.1, life.2, both.0), both.1)),
      (λ both. (both.0.0, both.0.1, both.0.2, rest.1 (both.0.3, both.1))),
    )

pub kept_goes_on : (kept : KeptState) (earlier later : List Run)
    → kept_after kept (earlier ++ later) ≡ kept_after (kept_after kept earlier) later
unfolding kept_after
kept_goes_on kept [] later = refl
kept_goes_on kept (run ∷ earlier) later = kept_goes_on (kept_behind run) earlier later

-- what the first one leaves
pub record AreOnward (kept : KeptState) (run : Run) (runs : List Run) : Type 0 where
  pub rest : IsRest run.start.state run.entries run.added
  pub starts : run.start.state.kept ≡ kept
  pub well : IsWellKept (kept_behind run)
  pub risen : kept.next ≤ (kept_behind run).next
  pub life : GoesOnFrom (kept_behind run) runs

pub onward : (kept : KeptState) (run : Run) (runs : List Run) → IsWellKept kept → GoesOnFrom kept (run ∷ runs)
    → AreOnward kept run runs
unfolding GoesOnFrom
onward kept run runs well life =
    let rest = run_is_rest kept run well life.0 life.1 life.2 in
    let starts : run.start.state.kept ≡ kept = ap (λ s. s.kept) life.0 in
    let number : run.start.state.kept.next ≡ kept.next = ap (λ k. k.next) starts in
    let risen = rest_rises run.start.state run.entries run.added rest in
    record {
      rest = rest;
      starts = starts;
      well = rw (kept_of_run run) (rest_keeps run.start.state run.entries run.added rest);
      risen = rw (kept_of_run run) (omega (arith, number, risen));
      life = life.3;
    }

pub runs_keep : (kept : KeptState) (runs : List Run) → IsWellKept kept → GoesOnFrom kept runs
    → IsWellKept (kept_after kept runs)
unfolding kept_after
runs_keep kept [] well life = well
runs_keep kept (run ∷ runs) well life =
    let on = onward kept run runs well life in runs_keep (kept_behind run) runs on.well on.life

-- the next number isn't lowered
pub runs_rise : (kept : KeptState) (runs : List Run) → IsWellKept kept → GoesOnFrom kept runs
    → kept.next ≤ (kept_after kept runs).next
unfolding kept_after
runs_rise kept [] well life = omega arith
runs_rise kept (run ∷ runs) well life =
    let on = onward kept run runs well life in
    let more = runs_rise (kept_behind run) runs on.well on.life in
    omega (arith, on.risen, more)

-- below the next number no row comes
pub runs_none : (kept : KeptState) (runs : List Run) (ticket : ℕ) → IsWellKept kept → GoesOnFrom kept runs
    → ticket < kept.next → row_at kept.rows ticket ≡ None → row_at (kept_after kept runs).rows ticket ≡ None
unfolding kept_after
runs_none kept [] ticket well life lower at = at
runs_none kept (run ∷ runs) ticket well life lower at =
    let on = onward kept run runs well life in
    let none : row_at (kept_behind run).rows ticket ≡ None =
    rw (kept_of_run run)
    (rest_none run.start.state run.entries run.added ticket on.rest (rw on.starts lower) (rw on.starts at)) in
    runs_none (kept_behind run) runs ticket on.well on.life (omega (arith, lower, on.risen)) none

-- ---- pushes

-- a job that stands does so up to the first end of its push, and behind it no row has its ticket
pub runs_stand : (kept : KeptState) (runs : List Run) (ticket : ℕ) (job : Job) → IsWellKept kept
    → GoesOnFrom kept runs → HasJobAt kept.rows ticket job
    → PushStands (push_ended_in_runs runs ticket) job (row_at (kept_after kept runs).rows ticket)
unfolding kept_after push_ended_in_runs
runs_stand kept [] ticket job well life has = has
runs_stand kept (run ∷ runs) ticket job well life has =
    let on = onward kept run runs well life in
    let lower = has_lower kept ticket job well has in
    let ended = push_ended_in_rest run.start.state run.entries run.added ticket in
    let stands : PushStands ended job (row_at (kept_behind run).rows ticket) =
    rw (kept_of_run run)
    (rest_stands run.start.state run.entries run.added ticket job on.rest (rw on.starts has)) in
    later_stand ended (push_ended_in_runs runs ticket) job (row_at (kept_behind run).rows ticket)
    (row_at (kept_after (kept_behind run) runs).rows ticket) stands
    (λ none. runs_none (kept_behind run) runs ticket on.well on.life (omega (arith, lower, on.risen)) none)
    (λ some. runs_stand (kept_behind run) runs ticket job on.well on.life some)
